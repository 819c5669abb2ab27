-- A Retry of an Up node begins its write again, which then gets through.
use Prim.Native.Nat.{ℕ, ◌<◌}
use native.Mathlib.Omega.{arith}
use mathlib.Core.Path.{◌≡◌, refl, ap, subst, ◌∙◌}
use mathlib.Core.Bool.{true, false}
use mathlib.Core.List.{List}
use lib.Seq.{get_or-set_same}
use borrow.Author.Tests.{lt-ltb}
use Rattle.item.specs.Counter.{attempt_at_largest, next_attempt}
use Rattle.item.specs.Maxima.{max_nodes, valid_size}
use Rattle.item.specs.Row.{zero_row}
use Rattle.item.specs.declared.Item.{Item}
use Rattle.item.specs.declared.Row.{Row}
use Rattle.store.specs.Head.{group_size}
use Rattle.store.specs.Records.{records_of}
use Rattle.operations.specs.Claim.{TagFits}
use Rattle.protocol.specs.Node.{row_of, own_item, storing_begun}
use Rattle.operations.specs.Operation.{Result, carried_out, at_node, on_sound, perform}
use Rattle.protocol.specs.Phase.{is_up, is_down, is_idle, is_fetching, at_stage}
use Rattle.protocol.specs.Table.{node_at}
use Rattle.protocol.specs.Shaped.{Shaped}
use Rattle.protocol.proofs.TableLaws.{node_sound}
use Rattle.protocol.specs.Write.{send_store, retried, nothing_to_retry, retry_step}
use Rattle.protocol.specs.declared.Event.TheVariants as event
use Rattle.protocol.specs.declared.Node.{Node}
use Rattle.protocol.specs.declared.Phase.{Phase}
use Rattle.protocol.specs.declared.Phase.TheVariants.{Up}
use Rattle.protocol.specs.declared.Stage.TheVariants.{Storing}
use Rattle.protocol.proofs.InView.{number_is, odd_size, size_fits}
use Rattle.laws_node.proofs.PhaseCases.{up_cases}
use Rattle.laws_runs.proofs.Keeps.{Decided, group_valid, group_table, retry_decided, performed_is, performs}
use Rattle.laws_liveness.specs.Laws.{Peers, BeginsAndGetsThrough, MayRetry, RetryGetsThrough}
use Rattle.laws_enabled.specs.Acting.{row_takes}
use Rattle.laws_liveness.proofs.Begins.{begins}
use Rattle.laws_liveness.proofs.Lists.{each_map}

up_not_down : (p : Phase) → is_up p ≡ true → is_down p ≡ false
up_not_down = up_cases (λ p. is_down p ≡ false) (λ _. refl)

up_not_fetching : (p : Phase) → is_up p ≡ true → is_fetching p ≡ false
up_not_fetching = up_cases (λ p. is_fetching p ≡ false) (λ _. refl)

up_storing : (p : Phase) → is_up p ≡ true → at_stage p Storing ≡ Up Storing
unfolding at_stage
up_storing = up_cases (λ p. at_stage p Storing ≡ Up Storing) (λ _. refl)

retries : (node : Node) → is_up node.phase ≡ true → is_idle node.phase ≡ false → attempt_at_largest node.attempt ≡ false
    → retry_step node ≡ send_store (retried node)
unfolding retry_step nothing_to_retry
retries node u i a = rw (up_not_down node.phase u, i, up_not_fetching node.phase u, a)

retried_item : (node : Node) → Shaped node → node.number < max_nodes → own_item (retried node) ≡ own_item node
unfolding own_item row_of retried storing_begun
retried_item node shaped h =
    ap (λ (r : Row). r.item) (get_or-set_same node.rows node.number _ zero_row (omega (arith, shaped.rows_length)))

module _ (n x : ℕ) (peers : List ℕ) (before : Result) (M : MayRetry n x peers before) where
  abbrev node : Node
  node = node_at before.table x

  valid : valid_size n ≡ true
  valid = group_valid n before.table before.store M.sound

  number : node.number ≡ x
  number = number_is n x node (node_sound n before.table (group_table n before.table before.store M.sound) x M.below)

  step_is : retry_step node ≡ send_store (retried node)
  step_is = retries node M.node_up M.under_way M.may_rise

  decided : Decided n before.table x x (send_store (retried node))
  decided = subst (Decided n before.table x x) step_is (retry_decided n before.table before.store M.sound x M.below)

  begun_is : perform (event.Retry x) before.table before.store
      ≡ carried_out before.table before.store (records_of before.store) x x (send_store (retried node))
  unfolding on_sound at_node
  begun_is =
      performed_is n before.table before.store M.sound (event.Retry x)
      ∙ rw (lt-ltb x (group_size (records_of before.store)) (omega (arith, M.below, M.sound.size)))
      (ap (carried_out before.table before.store (records_of before.store) x x) step_is)

  same_item : own_item (retried node) ≡ own_item node
  same_item = retried_item node (M.sound.within.shaped x) (omega (arith, number, M.below, size_fits n valid))

  again : Peers n x peers → BeginsAndGetsThrough x peers (own_item node) (perform (event.Retry x) before.table before.store)
  unfolding retried storing_begun TagFits
  again P =
      subst (λ (k : Item). BeginsAndGetsThrough x peers k (perform (event.Retry x) before.table before.store)) same_item
      (begins n x M.below before M.sound (retried node) decided (up_storing node.phase M.node_up) refl
      (omega (arith, M.room, odd_size n valid)) (perform (event.Retry x) before.table before.store) begun_is
      (performs n before.table before.store M.sound (event.Retry x) tt) peers P M.up
      (each_map
      (λ q. row_takes (row_of (node_at before.table q) x) node.incarnation (next_attempt node.attempt) (own_item node) ≡ true)
      (λ q. row_takes (row_of (node_at before.table q) x) node.incarnation (next_attempt node.attempt) (own_item (retried node)) ≡ true)
      (λ q z. ap (row_takes (row_of (node_at before.table q) x) node.incarnation (next_attempt node.attempt)) same_item ∙ z) peers M.taken))

pub retry_gets_through : RetryGetsThrough
unfolding RetryGetsThrough
retry_gets_through n x peers before P M = again n x peers before M P
