-- x while Confirming: those whom it asked, and the quorum that they make with x once f of them have confirmed.
use Prim.Native.Nat.{ℕ, suc, ◌≤◌, ◌<◌}
use native.Mathlib.Omega.{arith}
use mathlib.Core.Path.{◌≡◌, refl, sym, ap, ◌∙◌}
use mathlib.Core.Logic.{◌≢◌, ◌⊎◌, inl, inr}
use mathlib.Core.Bool.{Bool, true, false, false≢true}
use mathlib.Core.List.Memᴰ
use mathlib.Core.List.{List, ◌++◌, Memᴰ}
use Rattle.item.specs.declared.Item.{Item}
use Rattle.returns.specs.Replace.{replaced}
use Rattle.returns.specs.Majority.{bit, count, group_size}
use Rattle.returns.specs.History.{Note, History, after_note}
use Rattle.returns.specs.View.{up, confirming, ViewNode, ViewMessage, confirmed_by, View, live, put, Sent, Each}
use Rattle.returns.specs.Change.{Present, CountsStored, CountsConfirmed, SameWrite, MaySend, Change, at_write, at_retry, at_crash, at_start, at_store, at_stored, at_last_stored, at_confirmed, at_last_confirmed, at_table, at_last_table, elsewhere, unchanged}
use Rattle.returns.specs.Quorum.{Holds, KeepsHeld}
use Rattle.returns.specs.Invariant.{DownOrHas, Answered, HasConfirmed, MayConfirm, Asked, Quorum, Invariant}
use Rattle.returns.proofs.ReplaceLaws.{replaced_same, replaced_other, replaced_each}
use Rattle.returns.proofs.MajorityLaws.{count_replaced}
use Rattle.returns.proofs.RankLaws.{above_refl}
use Rattle.returns.proofs.ViewLaws.{clash, live_not_fetching}
use Rattle.returns.proofs.QuorumLaws.{holds_live, holds_down}
use Rattle.returns.proofs.NodeSteps.{Forward, storing_live}
use Rattle.returns.proofs.Items.{Tells, tells_nothing, tells_begun, tells_finished, finished_is}
use Rattle.returns.proofs.Own.{of_x, answered_more}

-- a node that answered, and has not restarted since, holds the item
answered_holds : (A : ℕ → Bool) (s : Item) (ms : List ViewMessage) (p : ℕ) (v : ViewNode) → DownOrHas s v → Holds A s ms p v
answered_holds A s ms p v (inl d) = holds_down A s ms p v d
answered_holds A s ms p v (inr u) = let e : v.phase ≡ up = u.0 in holds_live A s ms p v (λ z. clash (cc)) u.1

module _ (f x : ℕ) (h : History) (g : View) (I : Invariant f x h g) where
  -- Whoever confirms now could have confirmed before: a Confirmed is sent under the incarnation that its sender has.
  confirm_before : (p : ℕ) (v : ViewNode) (ms : List ViewMessage) → Each (MaySend x g p v) ms → (q i o a : ℕ) (k : Item)
      → Memᴰ (confirmed_by q i o a k) (ms ++ g.sent) → ((g.node q).incarnation ≡ i) ⊎ Sent (confirmed_by q i o a k) g
  confirm_before p v ms send q i o a k m = go (Memᴰ.append_cases ms m)
    where
      go : Memᴰ (confirmed_by q i o a k) ms ⊎ Sent (confirmed_by q i o a k) g → ((g.node q).incarnation ≡ i) ⊎ Sent (confirmed_by q i o a k) g
      go (inl z) = let e : q ≡ p = (send _ z).0 in inl (rw e (sym (send _ z).1))
      go (inr z) = inr z

  -- nothing that happens elsewhere undoes it
  asked_kept : (p : ℕ) (v : ViewNode) (ms : List ViewMessage) → Each (MaySend x g p v) ms
      → ((q : ℕ) → Forward (g.node q) (replaced g.node p v q)) → KeepsHeld f g (put g p v ms)
      → (w : ViewNode) → Asked f x g w → Asked f x (put g p v ms) w
  asked_kept p v ms send fw keep w A = record {
    others = λ q e. ((A.others q e).0, omega (arith, (A.others q e).1, (fw q).no_earlier));
    have_confirmed = λ q e. ((A.have_confirmed q e).0, Memᴰ.append_right ms (A.have_confirmed q e).1);
    would_hold = λ B sub c can. keep (replaced B x true) w.item c (A.would_hold B sub c (λ q b. back q (sub q b) (can q b)));
  }
    where
      back : (q : ℕ) → w.asked q ≡ true → MayConfirm (put g p v ms) w q → MayConfirm g w q
      back q e (inl u) = inl (omega (arith, (A.others q e).1, (fw q).no_earlier, u))
      back q e (inr m) = confirm_before p v ms send q (w.asked_under q) w.incarnation w.attempt w.item m

  -- The f-th Stored: no Confirmed of this attempt has been sent, so whoever may confirm is still under the incarnation in
  -- which it stored.
  asked_new : (q i : ℕ) (v : ViewNode) (ms : List ViewMessage) → CountsStored x g q i → SameWrite (g.node x) v → v.phase ≡ (g.node x).phase
      → v.asked ≡ replaced (g.node x).counted q true → v.asked_under ≡ replaced (g.node x).counted_under q i
      → ((k : ℕ) → v.counted k ≡ false) → Each (MaySend x g x v) ms → Asked f x (put g x v ms) v
  asked_new q i v ms c w u ea eu none send = record {
    others = λ k e. ((answered k e).0, rw (replaced_other g.node x v k (answered k e).0) (answered k e).1.not_later);
    have_confirmed = λ k e. absurd (false≢true (sym (none k) ∙ e));
    would_hold = λ B sub m can. replaced_each
        (λ k z. replaced B x true k ≡ true → Holds (replaced B x true) v.item (ms ++ g.sent) k z) g.node x v
        (λ a. holds_live (replaced B x true) v.item (ms ++ g.sent) x v (live_not_fetching v live_after) (above_refl v.item))
        (λ k d a. holds B sub can k d (rw (replaced_other B x true k d) at a));
  }
    where
      live_after : live v.phase ≡ true
      live_after = rw u (storing_live f x h g I c.in_storing)

      answered : (k : ℕ) → v.asked k ≡ true → (k ≢ x) × Answered (v.asked_under k) v.item (g.node k)
      answered k e = rw (eu, w.same_item) (answered_more f x h g I q i c k (rw ea at e))

      present : (k : ℕ) → k ≢ x → MayConfirm (put g x v ms) v k → (g.node k).incarnation ≡ v.asked_under k
      present k d (inl e) = rw (replaced_other g.node x v k d) at e
      present k d (inr m) = late (confirm_before x v ms send k (v.asked_under k) v.incarnation v.attempt v.item m)
        where
          late : MayConfirm g v k → (g.node k).incarnation ≡ v.asked_under k
          late (inl e) = e
          late (inr z) = absurd (omega (arith, (I.messages _ z).before_storing c.in_storing w.same_incarnation, w.same_attempt))

      holds : (B : ℕ → Bool) → ((k : ℕ) → B k ≡ true → v.asked k ≡ true) → ((k : ℕ) → B k ≡ true → MayConfirm (put g x v ms) v k)
          → (k : ℕ) → k ≢ x → B k ≡ true → Holds (replaced B x true) v.item (ms ++ g.sent) k (g.node k)
      holds B sub can k d b = answered_holds (replaced B x true) v.item (ms ++ g.sent) k (g.node k)
          ((answered k (sub k b)).1.unless_restarted (sym (present k d (can k b))))

  -- one more Confirmed is counted, whether it is the f-th or not
  confirmed_more : (q : ℕ) → CountsConfirmed x g q → (k : ℕ) → replaced (g.node x).counted q true k ≡ true
      → ((g.node x).asked k ≡ true) × HasConfirmed g (g.node x) k
  confirmed_more q c =
      let P : Present (g.node x) c.other c.attempt c.item = c.present in
      replaced_each (λ k b. b ≡ true → ((g.node x).asked k ≡ true) × HasConfirmed g (g.node x) k) (g.node x).counted q true
      (λ e. (c.was_asked, (rw (c.asked_under, P.present_incarnation, P.present_attempt, P.present_item) at c.was_sent)))
      (λ k d. (I.asked c.in_confirming).have_confirmed k)

  asked_more : (q : ℕ) (v : ViewNode) → CountsConfirmed x g q → SameWrite (g.node x) v → v.counted ≡ replaced (g.node x).counted q true
      → v.asked ≡ (g.node x).asked → v.asked_under ≡ (g.node x).asked_under → Asked f x g v
  asked_more q v c w ec ea eu = record {
    others = λ k e. rw eu (A.others k (rw ea at e));
    have_confirmed = λ k e. rw (ea, eu, w.same_incarnation, w.same_attempt, w.same_item) (confirmed_more q c k (rw ec at e));
    would_hold = λ B sub m can. rw w.same_item (A.would_hold B (λ k b. rw ea at (sub k b)) m (λ k b. may k (can k b)));
  }
    where
      A : Asked f x g (g.node x)
      A = I.asked c.in_confirming

      may : (k : ℕ) → MayConfirm g v k → MayConfirm g (g.node x) k
      may k z = rw (eu, w.same_incarnation, w.same_attempt, w.same_item) at z

  asked_change : (n : Note) (p : ℕ) (v : ViewNode) (ms : List ViewMessage) → Change f x g n p v → Each (MaySend x g p v) ms
      → ((w : ViewNode) → Asked f x g w → Asked f x (put g p v ms) w) → p ≡ x → v.stage ≡ confirming → Asked f x (put g p v ms) v
  asked_change n p v ms (at_write t _ e s b u a k) send keep z st = let s' = b.now_storing in clash (cc)
  asked_change n p v ms (at_retry _ d b u a k) send keep z st = let s' = b.now_storing in clash (cc)
  asked_change n p v ms (at_crash _ _ i u s k) send keep z st = clash (cc)
  asked_change n p v ms (at_start _ _ i u s k c) send keep z st = clash (cc)
  asked_change n p v ms (at_store _ i a k _ d m r l e) send keep z st = absurd (d z)
  asked_change n p v ms (at_stored q i _ c w u s e e') send keep z st = clash (cc)
  asked_change n p v ms (at_last_stored q i _ c w u s e e' y) send keep z st = asked_new q i v ms c w u e e' y send
  asked_change n p v ms (at_confirmed q _ c w u s e e' y) send keep z st = keep v (asked_more q v c w e e' y)
  asked_change n p v ms (at_last_confirmed q _ _ c m w u s r) send keep z st = clash (cc)
  asked_change n p v ms (at_table _ q r _ t u s c m) send keep z st = clash (cc)
  asked_change n p v ms (at_last_table _ q r _ t c u m b) send keep z st = let s' = (b z).now_storing in clash (cc)
  asked_change n p v ms (elsewhere _ _ d l k) send keep z st = absurd (d z)
  asked_change n p v ms (unchanged _ _ e) send keep z st =
      keep v (rw e (of_x x g (λ w. w.stage ≡ confirming → Asked f x g w) p z I.asked (rw e at st)))

  pub asked_next : (n : Note) (p : ℕ) (v : ViewNode) (ms : List ViewMessage) → Change f x g n p v → Each (MaySend x g p v) ms
      → ((q : ℕ) → Forward (g.node q) (replaced g.node p v q)) → KeepsHeld f g (put g p v ms)
      → (replaced g.node p v x).stage ≡ confirming → Asked f x (put g p v ms) (replaced g.node p v x)
  asked_next n p v ms c send fw keep = replaced_each (λ q w. q ≡ x → w.stage ≡ confirming → Asked f x (put g p v ms) w) g.node p v
      (asked_change n p v ms c send (asked_kept p v ms send fw keep))
      (λ q d z. of_x x g (λ w. w.stage ≡ confirming → Asked f x (put g p v ms) w) q z
      (λ st. asked_kept p v ms send fw keep (g.node x) (I.asked st))) x refl

  -- the f who have confirmed, with x
  quorum_new : x < group_size f → (q : ℕ) → CountsConfirmed x g q → f ≤ count (replaced (g.node x).counted q true) (group_size f)
      → Quorum f x (g.node x).item g
  quorum_new below q c m = record {
    members = replaced B x true;
    with_x = replaced_same B x true;
    many = many;
    held = A.would_hold B (λ k b. (confirmed_more q c k b).0) many (λ k b. inr (confirmed_more q c k b).1);
  }
    where
      A : Asked f x g (g.node x)
      A = I.asked c.in_confirming

      B : ℕ → Bool
      B = replaced (g.node x).counted q true

      without_x : (t : Bool) → B x ≡ t → B x ≡ false
      without_x true e = absurd ((A.others x (confirmed_more q c x e).0).0 refl)
      without_x false e = e

      many : suc f ≤ count (replaced B x true) (group_size f)
      many = omega (arith, count_replaced B x true (group_size f) below, ap bit (without_x (B x) refl))

  pub quorum_next : x < group_size f → (n : Note) (p : ℕ) → Tells f x g n p → Quorum f x (after_note h n).last g
  quorum_next below n p (tells_nothing _) = I.quorum
  quorum_next below n p (tells_begun t) = I.quorum
  quorum_next below n p (tells_finished q _ c m r) = rw (finished_is f x h g I q n c r) (quorum_new below q c m)
