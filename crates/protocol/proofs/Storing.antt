-- Delivery of Store and Stored. A Store from x is the relation's `at_store`, one of another writer leaves row x alone; a Stored
-- is counted by x, and the f-th begins to confirm.
use Prim.Native.Nat.{ℕ, ◌<◌}
use native.Mathlib.Omega.{arith}
use mathlib.Core.Path.{◌≡◌, refl, sym, ap, ◌∙◌, subst}
use mathlib.Core.Logic.{◌≢◌}
use mathlib.Core.Bool.{true, false}
use mathlib.Core.List.{List}
use lib.ListN.{length}
use Rattle.item.specs.Item.{ranks_below, same_item}
use Rattle.item.proofs.Laws.{same_incarnation_lem, same_attempt_lem, same_item_lem}
use Rattle.item.proofs.Tests.{and_left, and_right}
use Rattle.item.specs.declared.counters.Attempt.{Attempt}
use Rattle.item.specs.declared.counters.Incarnation.{Incarnation}
use Rattle.item.specs.declared.Item.{Item}
use Rattle.item.specs.declared.Row.{Row}
use Rattle.message.specs.declared.Message.TheVariants as message
use Rattle.returns.specs.Change.{Change, Present, CountsStored, at_store, at_stored, at_last_stored, unchanged}
use Rattle.returns.specs.History.{quiet}
use Rattle.returns.specs.Rank.{Above}
use Rattle.returns.specs.View.{View, ViewNode, store_to, stored_by, Sent, Each}
use Rattle.protocol.specs.Answer.{ok}
use Rattle.protocol.specs.Node.{row_of, own_item, stored_row, with_row, with_counted, confirming_begun}
use Rattle.protocol.specs.Phase.{is_up, is_storing, at_stage}
use Rattle.protocol.specs.Storing.{on_store, own_write, send_confirm, on_stored}
use Rattle.protocol.specs.declared.Node.{Node}
use Rattle.protocol.specs.declared.Stage.TheVariants.{Confirming}
use Rattle.protocol.proofs.Cases.{IfTaken, refusal_not_taken, store_cases, stored_cases}
use Rattle.protocol.proofs.Counts.{none_present, present_set, under_set}
use Rattle.protocol.proofs.InView.{InView}
use Rattle.protocol.proofs.Phases.{up_seen, up_live, storing_seen, storing_live, at_stage_phase, at_stage_seen}
use Rattle.protocol.proofs.Place.{by_place, row_there, peer_there, numbered, at_x, at_other, own_row}
use Rattle.protocol.proofs.Rows.{row_taken, row_kept}
use Rattle.protocol.proofs.Seen.{seen, seen_as}
use Rattle.protocol.proofs.Sending.{Delivered, sent_at, each_if_at, tied_nothing, tied_confirm, tied_back}

-- Store
module _ {f n x k : ℕ} {g : View} {node : Node} (v : InView f n x k g node) (s : ℕ) (i : Incarnation) (a : Attempt) (item : Item) where
  -- from x: row x takes the item
  store_own : is_up node.phase ≡ true → Above (row_of node x).item item → k ≢ x → Sent (store_to k i.0 a.0 item) g
      → Change f x g quiet k (seen x (with_row node x (stored_row item i a)))
  unfolding with_row
  store_own e above d sent = at_store k i.0 a.0 item (seen x (with_row node x (stored_row item i a))) d sent (rw v.view above)
      (record {
        same_incarnation = rw v.view;
        was_live = rw v.view (up_live node.phase e);
        is_live = up_live node.phase e;
        stays_up = λ u. up_seen node.phase e;
      })
      (ap (λ (r : Row). r.item) (row_taken node x (stored_row item i a) (row_there v)))

  -- from another: the view stays
  store_other : s ≢ x → Change f x g quiet k (seen x (with_row node s (stored_row item i a)))
  unfolding with_row
  store_other d = unchanged k (seen x (with_row node s (stored_row item i a)))
      (rw (row_kept node s (stored_row item i a) x (λ (z : x ≡ s). d (sym z))) (sym v.view))

  -- an item that the row takes is above the row's
  taken_above : ranks_below item (row_of node s).item ≡ false
      → (ranks_below (row_of node s).item item ≡ false → same_item item (row_of node s).item ≡ true)
      → s ≡ x → Above (row_of node x).item item
  taken_above lower alike own = subst (λ (p : ℕ). Above (row_of node p).item item) own
      (record { level = lower; tie = λ z. same_item_lem item (row_of node s).item (alike z) })

  -- and is the row's item afterwards
  taken_item : s ≡ x → item ≡ (row_of (with_row node s (stored_row item i a)) x).item
  taken_item own =
      let l : s < length node.rows = omega (arith, row_there v) in
      subst (λ (p : ℕ). item ≡ (row_of (with_row node s (stored_row item i a)) p).item) own
      (sym (ap (λ (r : Row). r.item) (row_taken node s (stored_row item i a) l)))

  pub store_tied : (items : List Item) → s ≢ k → Each (λ m. Sent m g) (seen_as x (message.Store a item) s k i items)
      → IfTaken (Delivered f x g k s) (on_store node s i a item)
  unfolding ok with_row
  store_tied items d sent = store_cases (IfTaken (Delivered f x g k s)) node (refusal_not_taken (Delivered f x g k s) node) s i a item
      (λ e lower alike h. tied_back f x g k s (with_row node s (stored_row item i a)) (numbered v) quiet (message.Stored i a item)
      (by_place s x
      (λ (own : s ≡ x). subst (λ (p : ℕ). Change f x g quiet k (seen x (with_row node p (stored_row item i a)))) (sym own)
      (store_own e (taken_above lower alike own) (λ (z : k ≡ x). d (own ∙ sym z)) (sent_at (λ m. Sent m g) x s _ own sent)))
      store_other)
      (each_if_at _ x s _ (λ (own : s ≡ x). (refl, up_seen node.phase e, refl, taken_item own))))

-- an answer to the present write of x
pub own_present : (x : ℕ) (v : ViewNode) (node : Node) (other : Incarnation) (a : Attempt) (item : Item) → v ≡ seen x node
    → node.number ≡ x → own_write node other a item ≡ true → Present v other.0 a.0 item
unfolding own_write
own_present x v node other a item e own t = record {
  present_incarnation = rw e (ap (λ (j : Incarnation). j.0) (search (same_incarnation_lem, and_left)));
  present_attempt = rw e (ap (λ (j : Attempt). j.0) (search (same_attempt_lem, and_left, and_right)));
  present_item = rw e (same_item_lem item (own_item node) (search (and_left, and_right)) ∙ own_row x node own);
}

-- Stored; with the f-th, those counted are asked
abbrev asking : Node → ℕ → Incarnation → Node
asking node s i = confirming_begun (with_counted node s i) (at_stage (with_counted node s i).phase Confirming)

module _ {f n x : ℕ} {g : View} {node : Node} (s : ℕ) (i : Incarnation) (e : is_storing node.phase ≡ true) (v : InView f n x x g node) where
  counts_stored_lem : (other : Incarnation) (a : Attempt) (item : Item) → own_write node other a item ≡ true → s ≢ x
      → Sent (stored_by s i.0 other.0 a.0 item) g → CountsStored x g s i.0
  counts_stored_lem other a item own d sent = record {
    other = other.0;
    attempt = a.0;
    item = item;
    was_sent = sent;
    not_own = d;
    in_storing = rw v.view (storing_seen node.phase e);
    present = own_present x (g.node x) node other a item v.view (numbered v) own;
  }

  stored_own : s < n → CountsStored x g s i.0 → Change f x g quiet x (seen x (with_counted node s i))
  unfolding with_counted row_of
  stored_own l c = at_stored s i.0 (seen x (with_counted node s i)) c
      (record { same_incarnation = rw v.view; same_attempt = rw v.view; same_item = rw v.view }) (rw v.view)
      (storing_seen node.phase e)
      (rw v.view (present_set node.counted s i (peer_there v s l)))
      (rw v.view (under_set node.counted s i (peer_there v s l)))

  last_stored_own : s < n → CountsStored x g s i.0 → Change f x g quiet x (seen x (asking node s i))
  unfolding with_counted confirming_begun row_of
  last_stored_own l c = at_last_stored s i.0 (seen x (asking node s i)) c
      (record { same_incarnation = rw v.view; same_attempt = rw v.view; same_item = rw v.view })
      (rw v.view (at_stage_phase node.phase Confirming))
      (at_stage_seen node.phase Confirming (storing_live node.phase e))
      (rw v.view (present_set node.counted s i (peer_there v s l)))
      (rw v.view (under_set node.counted s i (peer_there v s l)))
      none_present

module _ {f n x k : ℕ} {g : View} {node : Node} (v : InView f n x k g node) (s : ℕ) (i : Incarnation) where
  stored_other : is_storing node.phase ≡ true → k ≢ x → Change f x g quiet k (seen x (with_counted node s i))
  unfolding with_counted row_of
  stored_other e d = at_other v (with_counted node s i) d refl (storing_live node.phase e) (storing_live node.phase e) (λ u. u) refl

  last_stored_other : is_storing node.phase ≡ true → k ≢ x → Change f x g quiet k (seen x (asking node s i))
  unfolding with_counted confirming_begun row_of
  last_stored_other e d = at_other v (asking node s i) d refl (storing_live node.phase e)
      (rw (at_stage_phase node.phase Confirming) (storing_live node.phase e)) (λ u. at_stage_phase node.phase Confirming ∙ u) refl

  pub stored_tied : (other : Incarnation) (a : Attempt) (item : Item) (items : List Item) → s < n → s ≢ k
      → Each (λ m. Sent m g) (seen_as x (message.Stored other a item) s k i items)
      → IfTaken (Delivered f x g k s) (on_stored node s i other a item)
  unfolding ok send_confirm with_counted confirming_begun
  stored_tied other a item items l d sent =
      stored_cases (IfTaken (Delivered f x g k s)) node (refusal_not_taken (Delivered f x g k s) node) s i other a item
      (λ e own few h. tied_nothing f x g k s (with_counted node s i) (numbered v) quiet
      (by_place k x (λ t. at_x v t (λ w. stored_own s i e w l (counted t e own w))) (stored_other e)))
      (λ e own few h. tied_confirm f x g k s (asking node s i) (numbered v) quiet
      (by_place k x (λ t. at_x v t (λ w. last_stored_own s i e w l (counted t e own w))) (last_stored_other e))
      (at_stage_seen node.phase Confirming (storing_live node.phase e)))
    where
      counted : k ≡ x → is_storing node.phase ≡ true → own_write node other a item ≡ true → InView f n x x g node → CountsStored x g s i.0
      counted t e own w =
          counts_stored_lem s i e w other a item own (λ (z : s ≡ x). d (z ∙ sym t)) (sent_at (λ m. Sent m g) x k _ t sent)
