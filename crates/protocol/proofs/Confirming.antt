-- Delivery of Confirm and Confirmed. A Confirm is answered and changes nothing; a Confirmed is counted by x, and with the f-th
-- its write is finished, "settled" or "accepted".
use Prim.Native.Nat.{ℕ, ◌≤◌, ◌<◌}
use native.Mathlib.Omega.{arith}
use mathlib.Core.Path.{◌≡◌, refl, sym, ap, ◌∙◌, subst}
use mathlib.Core.Logic.{◌≢◌}
use mathlib.Core.Bool.{true, ◌&&◌, false≢true}
use mathlib.Core.List.{List}
use borrow.Author.Tests.{ltb-false, eq-eqb, ne_eqb}
use Rattle.item.proofs.Laws.{same_incarnation_lem}
use Rattle.item.proofs.Tests.{by_cond, and_left, and_right}
use Rattle.item.specs.declared.counters.Attempt.{Attempt}
use Rattle.item.specs.declared.counters.Incarnation.{Incarnation}
use Rattle.item.specs.declared.Item.{Item}
use Rattle.message.specs.declared.Message.TheVariants as message
use Rattle.returns.specs.Change.{Change, CountsConfirmed, Finishes, at_confirmed, at_last_confirmed, unchanged}
use Rattle.returns.specs.History.{Note, quiet}
use Rattle.returns.specs.View.{View, ViewNode, confirmed_by, Sent, Each}
use Rattle.returns.proofs.ViewLaws.{clash}
use Rattle.protocol.specs.Answer.{ok}
use Rattle.protocol.specs.Node.{half, row_of, own_item, peer_of, count_peers, with_counted, write_ended}
use Rattle.protocol.specs.Phase.{is_confirming, is_returning}
use Rattle.protocol.specs.Storing.{on_confirm, own_write, asked_under, end_answer, store_success, on_confirmed}
use Rattle.protocol.specs.declared.Answer.{Answer}
use Rattle.protocol.specs.declared.Answer.TheVariants as answer
use Rattle.protocol.specs.declared.Node.{Node}
use Rattle.protocol.specs.declared.Phase.{Phase}
use Rattle.protocol.proofs.Cases.{IfTaken, refusal_not_taken, confirm_cases, confirmed_cases}
use Rattle.std.specs.Prelude.{Option, Some, None, is_some}
use Rattle.std.specs.Option.{option_eq}
use Rattle.item.specs.Counter.{same_incarnation}
use Rattle.protocol.proofs.Counts.{under_of, present_set}
use Rattle.protocol.proofs.InView.{InView, half_is}
use Rattle.protocol.proofs.Phases.{confirming_seen, confirming_live, returning_is, returning_not}
use Rattle.protocol.proofs.Place.{by_place, peer_there, numbered, at_x, at_other, own_row, counted_of_group}
use Rattle.protocol.proofs.Seen.{seen, seen_phase, seen_as, note_of}
use Rattle.protocol.proofs.Sending.{Delivered, sent_at, each_if_at, sends_nothing, tied_nothing, tied_back}
use Rattle.protocol.proofs.Storing.{own_present}

-- Confirm
pub confirm_tied : {f n x k : ℕ} {g : View} {node : Node} (v : InView f n x k g node) (s : ℕ) (i other : Incarnation) (a : Attempt)
    (item : Item) (items : List Item) → Each (λ m. Sent m g) (seen_as x (message.Confirm other a item) s k i items)
    → IfTaken (Delivered f x g k s) (on_confirm node s i other a item)
unfolding ok
confirm_tied {f} {n} {x} {k} {g} {node} v s i other a item items sent =
    confirm_cases (IfTaken (Delivered f x g k s)) node (refusal_not_taken (Delivered f x g k s) node) s i other a item
    (λ h. tied_back f x g k s node (numbered v) quiet (message.Confirmed i a item) (unchanged k (seen x node) (sym v.view))
    (each_if_at _ x s _ (λ (own : s ≡ x). (refl, rw v.view, other.0, sent_at (λ m. Sent m g) x s _ own sent))))

-- the answer at the end of a write: at x it tells the item, elsewhere nothing
end_quiet : (x k : ℕ) (p : Phase) (item : Item) → k ≢ x → note_of x k (end_answer p item) ≡ quiet
unfolding end_answer
end_quiet x k p item d = by_cond (λ a. note_of x k a ≡ quiet) (is_returning p) (answer.Accepted item) (answer.Settled item)
    (λ e. rw (ne_eqb k x d)) (λ e. rw (ne_eqb k x d))

end_finishes : (x : ℕ) (v : ViewNode) (p : Phase) (item : Item) → v.phase ≡ seen_phase p → item ≡ v.item
    → Finishes v (note_of x x (end_answer p item))
unfolding end_answer
end_finishes x v p item e same = by_cond (λ a. Finishes v (note_of x x a)) (is_returning p) (answer.Accepted item) (answer.Settled item)
    (λ r. record {
      when_up = λ u. clash (cc (returning_is p r));
      when_returning = λ u. rw (eq-eqb x x refl, same);
    })
    (λ r. record {
      when_up = λ u. rw (eq-eqb x x refl, same);
      when_returning = λ u. absurd (returning_not p r (sym e ∙ u));
    })

-- a peer that was asked under this incarnation
pub asked_peer : (p : Option Incarnation) (i : Incarnation) → option_eq same_incarnation p (Some i) ≡ true → p ≡ Some i
asked_peer None i e = absurd (false≢true e)
asked_peer (Some o) i e = ap Some (same_incarnation_lem o i e)

-- Confirmed
module _ {f n x : ℕ} {g : View} {node : Node} (s : ℕ) (i : Incarnation) (e : is_confirming node.phase ≡ true) (v : InView f n x x g node) where
  counts_confirmed_lem : (other : Incarnation) (a : Attempt) (item : Item) → (own_write node other a item && asked_under node s i) ≡ true
      → Sent (confirmed_by s i.0 other.0 a.0 item) g → CountsConfirmed x g s
  unfolding asked_under
  counts_confirmed_lem other a item own sent = record {
    incarnation = i.0;
    other = other.0;
    attempt = a.0;
    item = item;
    was_sent = sent;
    in_confirming = rw v.view (confirming_seen node.phase e);
    present = own_present x (g.node x) node other a item v.view (numbered v) (and_left _ (asked_under node s i) own);
    was_asked = rw v.view (ap (λ (p : Option Incarnation). is_some p) asked_is);
    asked_under = rw v.view (sym (ap under_of asked_is));
  }
    where
      asked_is : peer_of node.asked s ≡ Some i
      asked_is = asked_peer (peer_of node.asked s) i (and_right (own_write node other a item) _ own)

  confirmed_own : s < n → CountsConfirmed x g s → Change f x g quiet x (seen x (with_counted node s i))
  unfolding with_counted row_of
  confirmed_own l c = at_confirmed s (seen x (with_counted node s i)) c
      (record { same_incarnation = rw v.view; same_attempt = rw v.view; same_item = rw v.view }) (rw v.view)
      (confirming_seen node.phase e)
      (rw v.view (present_set node.counted s i (peer_there v s l))) (rw v.view) (rw v.view)

  last_confirmed_own : s < n → CountsConfirmed x g s → half (with_counted node s i).n ≤ count_peers (with_counted node s i).counted
      → Change f x g (note_of x x (end_answer node.phase (own_item (with_counted node s i)))) x (seen x (write_ended (with_counted node s i)))
  unfolding with_counted write_ended row_of own_item
  last_confirmed_own l c enough = at_last_confirmed s _ (seen x (write_ended (with_counted node s i))) c
      (omega (arith, counted_of_group v s i l, half_is n f v.size, ap half v.placed.has_size))
      (record { same_incarnation = rw v.view; same_attempt = rw v.view; same_item = rw v.view }) refl refl
      (end_finishes x (g.node x) node.phase (own_item (with_counted node s i)) (rw v.view)
      (rw v.view (own_row x (with_counted node s i) (numbered v))))

module _ {f n x k : ℕ} {g : View} {node : Node} (v : InView f n x k g node) (s : ℕ) (i : Incarnation) where
  confirmed_other : is_confirming node.phase ≡ true → k ≢ x → Change f x g quiet k (seen x (with_counted node s i))
  unfolding with_counted row_of
  confirmed_other e d =
      at_other v (with_counted node s i) d refl (confirming_live node.phase e) (confirming_live node.phase e) (λ u. u) refl

  last_confirmed_other : is_confirming node.phase ≡ true → k ≢ x → Change f x g quiet k (seen x (write_ended (with_counted node s i)))
  unfolding with_counted write_ended row_of
  last_confirmed_other e d =
      at_other v (write_ended (with_counted node s i)) d refl (confirming_live node.phase e) refl (λ u. refl) refl

  pub confirmed_tied : (other : Incarnation) (a : Attempt) (item : Item) (items : List Item) → s < n
      → Each (λ m. Sent m g) (seen_as x (message.Confirmed other a item) s k i items)
      → IfTaken (Delivered f x g k s) (on_confirmed node s i other a item)
  unfolding ok store_success with_counted write_ended
  confirmed_tied other a item items l sent =
      confirmed_cases (IfTaken (Delivered f x g k s)) node (refusal_not_taken (Delivered f x g k s) node) s i other a item
      (λ e own few h. tied_nothing f x g k s (with_counted node s i) (numbered v) quiet
      (by_place k x (λ t. at_x v t (λ w. confirmed_own s i e w l (counted t e own w))) (confirmed_other e)))
      (λ e own enough h. record {
        changes = by_place k x
            (λ t. subst (λ (p : ℕ). InView f n x p g node → Change f x g (note_of x p end) p (seen x (write_ended (with_counted node s i)))) (sym t)
            (λ w. last_confirmed_own s i e w l (counted t e own w) (ltb-false _ _ enough)) v)
            (λ d. subst (λ (note : Note). Change f x g note k (seen x (write_ended (with_counted node s i)))) (sym (end_quiet x k node.phase _ d))
            (last_confirmed_other e d));
        sending = sends_nothing f x g k s (write_ended (with_counted node s i)) (numbered v);
      })
    where
      end : Answer
      end = end_answer node.phase (own_item (with_counted node s i))

      counted : k ≡ x → is_confirming node.phase ≡ true → (own_write node other a item && asked_under node s i) ≡ true
          → InView f n x x g node → CountsConfirmed x g s
      counted t e own w = counts_confirmed_lem s i e w other a item own (sent_at (λ m. Sent m g) x k _ t sent)
