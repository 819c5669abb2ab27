-- Every decision leaves its node at its place: number and n stay, and those whom it counts and asks are others of the group.
-- So no soundness of nodes need be known of a run.
use Prim.Native.Nat.{ℕ, ◌<◌}
use mathlib.Core.Path.{◌≡◌, refl, sym, subst, ◌∙◌}
use mathlib.Core.Logic.{◌≢◌}
use mathlib.Core.Bool.{Bool, true, false, false≢true}
use mathlib.Core.List.{List}
use lib.Dec.{eqb}
use lib.ListN.{set}
use borrow.Author.Tests.{eqb-true, eqb-false}
use Rattle.item.specs.declared.counters.Attempt.{Attempt}
use Rattle.item.specs.declared.counters.Incarnation.{Incarnation}
use Rattle.item.specs.declared.Item.{Item}
use Rattle.item.specs.declared.Tag.{Tag}
use Rattle.message.specs.declared.Envelope.{Envelope}
use Rattle.message.specs.declared.Message.{Message}
use Rattle.message.specs.declared.Message.TheVariants as message
use Rattle.protocol.specs.Answer.{ok, refused}
use Rattle.protocol.specs.Deliver.{on_message, deliver_step}
use Rattle.protocol.specs.Fetching.{with_table, stopped, written_back}
use Rattle.protocol.specs.Node.{no_peers, peer_under, peer_of, blank_node, fresh_node, crashed, started, stored_row, storing_begun, with_row, with_rows, with_counted, confirming_begun, write_ended}
use Rattle.protocol.specs.Storing.{send_confirm, store_success}
use Rattle.protocol.specs.Write.{send_store, send_fetch, written, retried, write_step, retry_step, crash_step, start_step}
use Rattle.protocol.specs.declared.Node.{Node}
use Rattle.protocol.specs.declared.Peer.{Peer}
use Rattle.std.specs.Prelude.{Option, is_some}
use Rattle.protocol.specs.declared.Phase.{Phase}
use Rattle.protocol.specs.declared.Refusal.{Refusal}
use Rattle.protocol.specs.declared.Sends.{Sends}
use Rattle.protocol.specs.declared.Sends.TheVariants as sends
use Rattle.protocol.specs.declared.Step.{Step}
use Rattle.protocol.specs.Shaped.{Shaped}
use Rattle.protocol.proofs.Cases.{write_cases, retry_cases, crash_cases, start_cases, store_cases, stored_cases, confirm_cases, confirmed_cases, fetch_cases, table_cases}
use Rattle.protocol.proofs.Counts.{none_present, peer_set_other}
use Rattle.protocol.proofs.InView.{Others, Placed}
use Rattle.protocol.proofs.Shapes.{crashed_shaped, fresh_shaped, started_shaped, begun_shaped, row_shaped, counted_shaped, confirming_shaped, ended_shaped, table_shaped}

-- ---- peers

none_others : (n k : ℕ) → Others n k no_peers
none_others n k q e = absurd (false≢true (sym (none_present q) ∙ e))

set_others : (n k : ℕ) (peers : List Peer) (s : ℕ) (i : Incarnation) → Others n k peers → s < n → s ≢ k → Others n k (set peers s (peer_under i))
set_others n k peers s i o l d q = go (eqb q s) refl
  where
    go : (t : Bool) → eqb q s ≡ t → is_some (peer_of (set peers s (peer_under i)) q) ≡ true → (q < n) × (q ≢ k)
    go true z e = rw (eqb-true q s z) (l, d)
    go false z e = o q (subst (λ (p : Option Incarnation). is_some p ≡ true) (peer_set_other peers s q i (eqb-false q s z)) e)

-- ---- the changes of a node

-- number and n stay
module _ (n k : ℕ) (node : Node) (p : Placed n k node) (after : Node) (number : after.number ≡ node.number) (size : after.n ≡ node.n)
    (shaped : Shaped after) where
  still_placed : Others n k after.counted → Others n k after.asked → Placed n k after
  still_placed c a =
      record { has_number = number ∙ p.has_number; has_size = size ∙ p.has_size; shaped = shaped; counts_others = c; asks_others = a }

  -- and nobody is counted or asked
  none_placed : after.counted ≡ no_peers → after.asked ≡ no_peers → Placed n k after
  none_placed c a = still_placed (subst (Others n k) (sym c) (none_others n k)) (subst (Others n k) (sym a) (none_others n k))

pub fresh_placed : (n k : ℕ) → Placed n k (fresh_node k n)
unfolding fresh_node write_ended blank_node
fresh_placed n k =
    record { has_number = refl; has_size = refl; shaped = fresh_shaped k n; counts_others = none_others n k; asks_others = none_others n k }

module _ (n k : ℕ) (node : Node) (p : Placed n k node) where
  crashed_placed : Placed n k (crashed node)
  unfolding crashed blank_node
  crashed_placed = none_placed n k node p (crashed node) refl refl (crashed_shaped node) refl refl

  started_placed : Placed n k (started node)
  unfolding started
  started_placed = none_placed n k node p (started node) refl refl (started_shaped node) refl refl

  begun_placed : (phase : Phase) (attempt : Attempt) (item : Item) → Placed n k (storing_begun node phase attempt item)
  unfolding storing_begun
  begun_placed phase attempt item = none_placed n k node p _ refl refl (begun_shaped node phase attempt item p.shaped) refl refl

  ended_placed : Placed n k (write_ended node)
  unfolding write_ended
  ended_placed = none_placed n k node p _ refl refl (ended_shaped node p.shaped) refl refl

  confirming_placed : (phase : Phase) → Placed n k (confirming_begun node phase)
  unfolding confirming_begun
  confirming_placed phase = still_placed n k node p _ refl refl (confirming_shaped node phase p.shaped) (none_others n k) p.counts_others

  -- with another of the group
  module _ (s : ℕ) (i : Incarnation) (l : s < n) (d : s ≢ k) where
    row_placed : (item : Item) (a : Attempt) → Placed n k (with_row node s (stored_row item i a))
    unfolding with_row
    row_placed item a = still_placed n k node p _ refl refl (row_shaped node s _ p.shaped) p.counts_others p.asks_others

    counted_placed : Placed n k (with_counted node s i)
    unfolding with_counted
    counted_placed =
        still_placed n k node p _ refl refl (counted_shaped node s i p.shaped)
        (set_others n k node.counted s i p.counts_others l d) p.asks_others

    table_placed : (items : List Item) → Placed n k (with_table node s i items)
    unfolding with_table with_rows with_counted
    table_placed items =
        still_placed n k node p _ refl refl (table_shaped node s i items p.shaped)
        (set_others n k node.counted s i p.counts_others l d) p.asks_others

-- ---- the decisions

-- what goes back goes to another node
abbrev pub BackToOther : ℕ → ℕ → Sends → Type 0
BackToOther k back sends.Nothing = Unit {0}
BackToOther k back (sends.Back m) = back ≢ k
BackToOther k back (sends.Others m) = Unit {0}
BackToOther k back (sends.Asked a i) = Unit {0}

abbrev pub PlacedStep : ℕ → ℕ → ℕ → Step → Type 0
PlacedStep n k back step = Placed n k step.node × BackToOther k back step.sends

module _ (n k : ℕ) (node : Node) (p : Placed n k node) where
  refused_placed : (back : ℕ) (why : Refusal) → PlacedStep n k back (refused node why)
  unfolding refused
  refused_placed back why = (p, tt)

  nothing_placed : (back : ℕ) → PlacedStep n k back (ok node sends.Nothing)
  unfolding ok
  nothing_placed back = (p, tt)

  store_placed : (back : ℕ) → PlacedStep n k back (send_store node)
  unfolding send_store ok
  store_placed back = (p, tt)

  fetch_placed : (back : ℕ) → PlacedStep n k back (send_fetch node)
  unfolding send_fetch ok
  fetch_placed back = (p, tt)

  confirm_placed : (back : ℕ) → PlacedStep n k back (send_confirm node)
  unfolding send_confirm ok
  confirm_placed back = (p, tt)

  back_placed : (back : ℕ) → back ≢ k → (m : Message) → PlacedStep n k back (ok node (sends.Back m))
  unfolding ok
  back_placed back d m = (p, d)

  success_placed : (back : ℕ) → PlacedStep n k back (store_success node)
  unfolding store_success
  success_placed back = (ended_placed n k node p, tt)

  stopped_placed : (back row : ℕ) → PlacedStep n k back (stopped node row)
  unfolding stopped
  stopped_placed back row = (crashed_placed n k node p, tt)

module _ (n k : ℕ) (node : Node) (p : Placed n k node) where
  pub write_placed : (tag : Tag) → PlacedStep n k k (write_step node tag)
  unfolding written
  write_placed tag = write_cases (PlacedStep n k k) node (refused_placed n k node p k) tag
      (λ e l. store_placed n k _ (begun_placed n k node p _ _ _) k)

  pub retry_placed : PlacedStep n k k (retry_step node)
  unfolding retried
  retry_placed = retry_cases (PlacedStep n k k) node (refused_placed n k node p k) (λ e. fetch_placed n k node p k)
      (λ e d l. store_placed n k _ (begun_placed n k node p _ _ _) k)

  pub crash_placed : PlacedStep n k k (crash_step node)
  crash_placed = crash_cases (PlacedStep n k k) node (refused_placed n k node p k) (nothing_placed n k _ (crashed_placed n k node p) k)

  pub start_placed : PlacedStep n k k (start_step node)
  start_placed = start_cases (PlacedStep n k k) node (refused_placed n k node p k) (λ d l. fetch_placed n k _ (started_placed n k node p) k)

  module _ (s : ℕ) (i : Incarnation) (items : List Item) (l : s < n) (d : s ≢ k) where
    message_placed : (m : Message) → PlacedStep n k s (on_message m node s i items)
    unfolding on_message written_back
    message_placed (message.Store a item) =
        store_cases (PlacedStep n k s) node (refused_placed n k node p s) s i a item
        (λ _ _ _. back_placed n k _ (row_placed n k node p s i l d item a) s d _)
    message_placed (message.Stored o a item) =
        stored_cases (PlacedStep n k s) node (refused_placed n k node p s) s i o a item
        (λ _ _ _. nothing_placed n k _ (counted_placed n k node p s i l d) s)
        (λ _ _ _. confirm_placed n k _ (confirming_placed n k _ (counted_placed n k node p s i l d) _) s)
    message_placed (message.Confirm o a item) =
        confirm_cases (PlacedStep n k s) node (refused_placed n k node p s) s i o a item (back_placed n k node p s d _)
    message_placed (message.Confirmed o a item) =
        confirmed_cases (PlacedStep n k s) node (refused_placed n k node p s) s i o a item
        (λ _ _ _. nothing_placed n k _ (counted_placed n k node p s i l d) s)
        (λ _ _ _. success_placed n k _ (counted_placed n k node p s i l d) s)
    message_placed message.Fetch =
        fetch_cases (PlacedStep n k s) node (refused_placed n k node p s) i (λ _. back_placed n k node p s d _)
    message_placed (message.Table o) =
        table_cases (PlacedStep n k s) node (refused_placed n k node p s) s i o items
        (λ _ _ _. nothing_placed n k _ (table_placed n k node p s i l d items) s)
        (stopped_placed n k _ (table_placed n k node p s i l d items) s)
        (λ _ _ _ _. store_placed n k _ (begun_placed n k _ (table_placed n k node p s i l d items) _ _ _) s)

  pub deliver_placed : (e : Envelope) (items : List Item) → e.sender < n → e.sender ≢ k → PlacedStep n k e.sender (deliver_step node e items)
  unfolding deliver_step
  deliver_placed e items l d = message_placed e.sender e.incarnation items l d e.message
