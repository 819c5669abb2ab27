-- What a message says stays true, and is true when the message is sent.
use Prim.Native.Nat.{ℕ, ◌≤◌}
use native.Mathlib.Omega.{arith}
use mathlib.Core.Path.{◌≡◌, sym}
use mathlib.Core.Logic.{inr}
use mathlib.Core.List.{List, ◌++◌}
use Rattle.item.specs.declared.Item.{Item}
use Rattle.returns.specs.Replace.{replaced}
use Rattle.returns.specs.History.{History}
use Rattle.returns.specs.View.{confirming, ViewNode, ViewMessage, store_to, stored_by, confirm_to, confirmed_by, fetch_from, table_from, View, put, Each}
use Rattle.returns.specs.Change.{MaySend}
use Rattle.returns.specs.Invariant.{Known, Answered, Past, Own, MessageHolds, Invariant}
use Rattle.returns.proofs.ReplaceLaws.{replaced_same}
use Rattle.returns.proofs.RankLaws.{above_refl}
use Rattle.returns.proofs.ViewLaws.{each_append, clash, live_not_fetching}
use Rattle.returns.proofs.NodeSteps.{Forward, writing_live}

-- what holds of v holds of node q after p has become v, if q is p
at_changed : (P : ViewNode → Type 0) (node : ℕ → ViewNode) (p : ℕ) (v : ViewNode) (q : ℕ) → q ≡ p → P v → P (replaced node p v q)
at_changed P node p v q e h = rw (e, replaced_same node p v) h

-- x is Confirming now, so it has left the Storing stage of its present attempt
past_confirming : (h : History) (v : ViewNode) → Own h v → v.stage ≡ confirming → Past v.incarnation v.attempt v
past_confirming h v o s = record {
  not_later = omega arith;
  before_fetching = λ e. absurd (live_not_fetching v (writing_live h v o (λ z. clash (cc))) e);
  not_later_attempt = λ e e'. omega arith;
  before_storing = λ e. clash (cc);
}

module _ (f x : ℕ) (h : History) (g : View) (I : Invariant f x h g) (h' : History) (p : ℕ) (v : ViewNode) (ms : List ViewMessage)
    (known : (i : Item) → Known h i → Known h' i)
    (forward : (q : ℕ) → Forward (g.node q) (replaced g.node p v q))
    (past : (i a : ℕ) → Past i a (g.node x) → Past i a (replaced g.node p v x)) where
  message_kept : (m : ViewMessage) → MessageHolds x h g m → MessageHolds x h' (put g p v ms) m
  message_kept (store_to q i a k) w = known k w
  message_kept (stored_by q i o a k) w = (forward q).still_answered i k w
  message_kept (confirm_to q i o a k) w = past i a w
  message_kept (confirmed_by q i o a k) w = past o a w
  message_kept (fetch_from q to i) w = omega (arith, (forward q).no_earlier)
  message_kept (table_from q to o r) w = (omega (arith, w.0, (forward to).no_earlier), known r w.1)

  message_new : Known h' v.item → (p ≡ x → Own h' v) → (m : ViewMessage) → MaySend x g p v m → MessageHolds x h' (put g p v ms) m
  message_new item own (store_to q i a k) s = rw s item
  message_new item own (stored_by q i o a k) s = at_changed (Answered i k) g.node p v q s.0 (rw (s.2, s.3)
      (record { not_later = omega arith; unless_restarted = λ e. inr (s.1, above_refl v.item) }))
  message_new item own (confirm_to q i o a k) s =
      at_changed (Past i a) g.node p v x (sym s.0) (rw (s.2, s.3) (past_confirming h' v (own s.0) s.1))
  message_new item own (confirmed_by q i o a k) s = past o a (I.messages _ s.3)
  message_new item own (fetch_from q to i) s = at_changed (λ w. i ≤ w.incarnation) g.node p v q s.0 (omega (arith, s.1))
  message_new item own (table_from q to o r) s =
      (omega (arith, I.messages _ s.3, (forward to).no_earlier), rw s.2 (known (g.node p).item (I.items p)))

  pub messages_next : Known h' v.item → (p ≡ x → Own h' v) → Each (MaySend x g p v) ms → Each (MessageHolds x h' (put g p v ms)) (ms ++ g.sent)
  messages_next item own send = each_append (MessageHolds x h' (put g p v ms)) ms g.sent
      (λ m k. message_new item own m (send m k))
      (λ m k. message_kept m (I.messages m k))
