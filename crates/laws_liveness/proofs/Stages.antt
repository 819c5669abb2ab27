-- What a peer makes of Store and Confirm, and the writer of Stored and Confirmed, where nothing speaks against it.
use Prim.Native.Nat.{ℕ, ◌≤◌, ◌<◌}
use native.Mathlib.Omega.{arith}
use mathlib.Core.Path.{◌≡◌, refl, sym, ap, subst}
use mathlib.Core.Bool.{Bool, true, false, cond, not, ◌&&◌, ◌||◌, false≢true}
use mathlib.Core.List.{List}
use lib.Seq.{get_or-set_same}
use borrow.Author.Tests.{eq-eqb}
use Rattle.item.specs.Counter.{same_incarnation, same_attempt, earlier}
use Rattle.item.specs.Item.{ranks_below, same_item, tags_agree}
use Rattle.item.specs.Maxima.{max_nodes}
use Rattle.item.specs.Row.{zero_row}
use Rattle.item.proofs.Tests.{by_cond, and_both}
use Rattle.item.specs.declared.counters.Attempt.{Attempt}
use Rattle.item.specs.declared.counters.Incarnation.{Incarnation}
use Rattle.item.specs.declared.Item.{Item}
use Rattle.item.specs.declared.Row.{Row}
use Rattle.message.specs.declared.Message.TheVariants as message
use Rattle.store.specs.Change.{count_outgoing}
use Rattle.protocol.specs.Answer.{ok, is_refused}
use Rattle.protocol.specs.Deliver.{on_message, deliver_step}
use Rattle.protocol.specs.Node.{half, count_peers, row_of, own_item, stored_row, peer_of, with_row, with_counted, confirming_begun, below_half}
use Rattle.protocol.specs.Outgoing.{outgoing}
use Rattle.protocol.specs.Phase.{is_up, is_storing, is_confirming, is_returning, at_stage}
use Rattle.protocol.specs.Sound.{sound_node, peers_sound}
use Rattle.protocol.specs.Storing.{store_verdict, reply_store, on_store, own_write, is_counted, send_confirm, stored_counted, on_stored, stored_under, on_confirm, asked_under, end_answer, store_success, confirmed_counted, on_confirmed}
use Rattle.protocol.specs.declared.Answer.{Answer}
use Rattle.protocol.specs.declared.Answer.TheVariants as answer
use Rattle.protocol.specs.declared.Node.{Node}
use Rattle.std.specs.Prelude as core
use Rattle.std.specs.Prelude.{Some}
use Rattle.protocol.specs.declared.Refusal.{Refusal}
use Rattle.protocol.specs.declared.Phase.{Phase}
use Rattle.protocol.specs.declared.Phase.TheVariants.{Up}
use Rattle.protocol.specs.declared.Refusal.TheVariants.{LowerRank, Stale, OtherTag}
use Rattle.protocol.specs.declared.Sends.TheVariants as sends
use Rattle.protocol.specs.declared.Stage.TheVariants.{Storing, Confirming}
use Rattle.protocol.specs.declared.Step.{Step}
use Rattle.protocol.specs.Shaped.{Shaped}
use Rattle.protocol.proofs.InView.{size_is}
use Rattle.laws_node.proofs.Soundly.{read_sound}
use Rattle.laws_enabled.specs.Acting.{row_takes}
use Rattle.laws_enabled.proofs.Sent.{nothing_sent_lem, asked_sent}
use Rattle.laws_liveness.specs.Delivery.{envelope_of}
use Rattle.laws_liveness.proofs.Peer.{Answering}

same_incarnation_lem : (i : Incarnation) → same_incarnation i i ≡ true
unfolding same_incarnation
same_incarnation_lem i = eq-eqb i.0 i.0 refl

same_attempt_lem : (a : Attempt) → same_attempt a a ≡ true
unfolding same_attempt
same_attempt_lem a = eq-eqb a.0 a.0 refl

same_item_lem : (i : Item) → same_item i i ≡ true
unfolding same_item tags_agree
same_item_lem i = and_both (eq-eqb i.index.0 i.index.0 refl) (eq-eqb i.tag.0 i.tag.0 refl)

-- ---- the peers

abbrev takes : core.Result (Unit {0}) Refusal
takes = core.Ok tt

takes_verdict : (row : Row) (i : Incarnation) (a : Attempt) (item : Item) → row_takes row i a item ≡ true → store_verdict row i a item ≡ takes
unfolding row_takes store_verdict
takes_verdict row i a item =
    go (ranks_below item row.item) (ranks_below row.item item) (same_item item row.item) (earlier i a row.incarnation row.attempt)
  where
    go : (lower higher alike early : Bool) → (not lower && (higher || (alike && not early))) ≡ true
        → cond lower (core.Err LowerRank) (cond higher takes (cond alike (cond early (core.Err Stale) takes) (core.Err OtherTag))) ≡ takes
    go true higher alike early e = absurd (false≢true e)
    go false true alike early e = refl
    go false false true true e = absurd (false≢true e)
    go false false true false e = refl
    go false false false early e = absurd (false≢true e)

module _ (x : ℕ) (x_low : x < max_nodes) (i : Incarnation) (a : Attempt) (item : Item) (under : ℕ → Incarnation) where
  -- Up, under this incarnation, and its row of the writer takes the item; or has it
  abbrev pub MayTake : ℕ → Node → Type 0
  MayTake q node = (is_up node.phase ≡ true) × (node.incarnation ≡ under q) × (row_takes (row_of node x) i a item ≡ true)

  abbrev pub Holding : ℕ → Node → Type 0
  Holding q node = (is_up node.phase ≡ true) × (node.incarnation ≡ under q) × (row_of node x ≡ stored_row item i a)

  pub store_answer : (q : ℕ) (node : Node) (items : List Item) → MayTake q node → Shaped node
      → Answering x q i (message.Store a item) (message.Stored i a item) (under q) (Holding q) node items
  unfolding deliver_step on_message on_store reply_store with_row row_of
  store_answer q node items p shaped =
      record {
        after = with_row node x (stored_row item i a);
        step_is = rw (p.0, takes_verdict (row_of node x) i a item p.2);
        holds = (p.0, p.1, get_or-set_same node.rows x (stored_row item i a) zero_row (omega (arith, shaped.rows_length)));
        under_is = p.1;
      }

  stored_here : (row : Row) → row ≡ stored_row item i a → stored_under row i a item ≡ true
  unfolding stored_under
  stored_here row e = rw e (and_both (same_item_lem item) (and_both (same_incarnation_lem i) (same_attempt_lem a)))

  pub confirm_answer : (q : ℕ) (node : Node) (items : List Item) → Holding q node → Shaped node
      → Answering x q i (message.Confirm (under q) a item) (message.Confirmed i a item) (under q) (λ _. Unit {0}) node items
  unfolding deliver_step on_message on_confirm
  confirm_answer q node items p shaped =
      let own : same_incarnation (under q) node.incarnation ≡ true = subst (λ (o : Incarnation). same_incarnation o node.incarnation ≡ true) p.1 (same_incarnation_lem node.incarnation) in
      record {
        after = node;
        step_is = rw (p.0, own, stored_here (row_of node x) p.2);
        holds = tt;
        under_is = p.1;
      }

-- ---- the writer

module _ (n x : ℕ) (i : Incarnation) (a : Attempt) (item : Item) (under : ℕ → Incarnation) where
  -- its write is the one under way
  abbrev pub Writes : Node → Type 0
  Writes node = (node.incarnation ≡ i) × (node.attempt ≡ a) × (own_item node ≡ item)

  own_write_lem : (node : Node) → Writes node → own_write node i a item ≡ true
  unfolding own_write
  own_write_lem node w = rw (w.2, w.0, w.1) (and_both (same_incarnation_lem i) (and_both (same_attempt_lem a) (same_item_lem item)))

  abbrev pub AtStoring : ℕ → Node → Type 0
  AtStoring p node = (node.phase ≡ Up Storing) × Writes node

  abbrev pub to_confirm : Node → Step
  to_confirm node = send_confirm (confirming_begun node (at_stage node.phase Confirming))

  pub stored_taken : (q : ℕ) (node : Node) (items : List Item) → AtStoring q node → is_counted node q ≡ false
      → deliver_step node (envelope_of q x (under q) (message.Stored i a item)) items
      ≡ cond (below_half (with_counted node q (under q))) (ok (with_counted node q (under q)) sends.Nothing) (to_confirm (with_counted node q (under q)))
  unfolding deliver_step on_message on_stored stored_counted
  stored_taken q node items w c =
      let s : is_storing node.phase ≡ true = ap is_storing w.0 in
      rw (s, own_write_lem node w.1, c)

  pub storing_kept : (p q : ℕ) (node : Node) → AtStoring p node → AtStoring p (with_counted node q (under q))
  unfolding with_counted own_item row_of
  storing_kept p q node w = w

  pub confirm_fits : (node : Node) (q : ℕ) → sound_node n x (to_confirm node).node ≡ true → Shaped (to_confirm node).node → count_peers node.counted ≡ half n
      → (is_refused (to_confirm node).answer ≡ false) × (count_outgoing (outgoing (to_confirm node).node (to_confirm node).sends q) ≤ half n)
  unfolding send_confirm ok confirming_begun
  confirm_fits node q sound shaped full =
      let next : Node = confirming_begun node (at_stage node.phase Confirming) in
      let count : count_outgoing (outgoing next (sends.Asked next.attempt (own_item next)) q) ≡ count_peers node.counted =
      asked_sent next q next.attempt (own_item next) x
      (subst (λ (j : ℕ). peers_sound x j next.asked ≡ true) (sym (size_is n x next sound)) (read_sound n x next sound).asked_sound) shaped.asked_length in
      (refl, omega arith)

  abbrev pub AtConfirming : ℕ → Node → Type 0
  AtConfirming p node = (node.phase ≡ Up Confirming) × Writes node × (peer_of node.asked p ≡ Some (under p))

  was_asked : (q : ℕ) (node : Node) → peer_of node.asked q ≡ Some (under q) → asked_under node q (under q) ≡ true
  unfolding asked_under
  was_asked q node e = rw e (same_incarnation_lem (under q))

  pub confirmed_taken : (q : ℕ) (node : Node) (items : List Item) → AtConfirming q node → is_counted node q ≡ false
      → deliver_step node (envelope_of q x (under q) (message.Confirmed i a item)) items
      ≡ cond (below_half (with_counted node q (under q))) (ok (with_counted node q (under q)) sends.Nothing) (store_success (with_counted node q (under q)))
  unfolding deliver_step on_message on_confirmed confirmed_counted
  confirmed_taken q node items w c =
      let s : is_confirming node.phase ≡ true = ap is_confirming w.0 in
      rw (s, own_write_lem node w.1, was_asked q node w.2, c)

  pub confirming_kept : (p q : ℕ) (node : Node) → AtConfirming p node → AtConfirming p (with_counted node q (under q))
  unfolding with_counted own_item row_of
  confirming_kept p q node w = w

  end_taken : (p : Phase) (k : Item) → is_refused (end_answer p k) ≡ false
  unfolding end_answer
  end_taken p k = by_cond (λ (r : Answer). is_refused r ≡ false) (is_returning p) _ _ (λ _. refl) (λ _. refl)

  pub success_fits : (node : Node) (q : ℕ) → sound_node n x (store_success node).node ≡ true → Shaped (store_success node).node → count_peers node.counted ≡ half n
      → (is_refused (store_success node).answer ≡ false) × (count_outgoing (outgoing (store_success node).node (store_success node).sends q) ≤ 0)
  unfolding store_success
  success_fits node q sound shaped full = (end_taken node.phase (own_item node), omega (arith, nothing_sent_lem (store_success node).node q))

  -- the writer that has just asked
  pub confirming_at : (node : Node) → AtStoring 0 node → (q : ℕ) → peer_of node.counted q ≡ Some (under q) → AtConfirming q (to_confirm node).node
  unfolding send_confirm ok confirming_begun own_item row_of at_stage
  confirming_at node w q e = (ap (λ (p : Phase). at_stage p Confirming) w.0, w.1, e)

  -- the end of a write that was not a return
  pub settles : (node : Node) → (p : ℕ) → AtConfirming p node → (store_success node).answer ≡ answer.Settled item
  unfolding store_success end_answer
  settles node p w = rw (w.1.2, w.0)
