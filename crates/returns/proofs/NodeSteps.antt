-- Every change is one of the six steps of a node that a quorum sees, and nodes only move forward: what a node has answered
-- stays true, and a stage that x has left it does not enter again.
use Prim.Native.Nat.{ℕ, ◌≤◌, ◌<◌}
use native.Mathlib.Omega.{arith}
use mathlib.Core.Path.{◌≡◌, refl, ◌∙◌}
use mathlib.Core.Logic.{◌⊎◌, inl, inr}
use mathlib.Core.Bool.{Bool, true, false}
use Rattle.item.specs.declared.Item.{Item}
use Rattle.item.specs.Item.{item_above}
use Rattle.returns.specs.Replace.{replaced}
use Rattle.returns.specs.Rank.{Above}
use Rattle.returns.specs.History.{History, Note}
use Rattle.returns.specs.View.{down, fetching, up, idle, storing, confirming, ViewNode, View, live}
use Rattle.returns.specs.Change.{SameWrite, StaysLive, Change, at_write, at_retry, at_crash, at_start, at_store, at_stored, at_last_stored, at_confirmed, at_last_confirmed, at_table, at_last_table, elsewhere, unchanged}
use Rattle.returns.specs.Quorum.{NodeStep, lives_on, goes_down, restarts, counts_table, rebuilds, stays}
use Rattle.returns.specs.Invariant.{DownOrHas, Answered, Past, Own, Invariant}
use Rattle.returns.proofs.ReplaceLaws.{replaced_each}
use Rattle.returns.proofs.RankLaws.{above_refl, above_trans, above_higher}
use Rattle.returns.proofs.ViewLaws.{clash, live_not_fetching}

-- x is live while it writes
pub writing_live : (h : History) (v : ViewNode) → Own h v → (v.stage ≡ idle → ⊥) → live v.phase ≡ true
writing_live h v o d = go (live v.phase) refl
  where
    go : (t : Bool) → live v.phase ≡ t → live v.phase ≡ true
    go true e = e
    go false e = absurd (d (o.when_off e))

-- a live node whose phase and item stay
goes_on : (f : ℕ) (g : View) (p : ℕ) (w : ViewNode) → live (g.node p).phase ≡ true → w.incarnation ≡ (g.node p).incarnation
    → w.phase ≡ (g.node p).phase → w.item ≡ (g.node p).item → NodeStep f g p w
goes_on f g p w l i e k =
    lives_on (record { same_incarnation = i; was_live = l; is_live = rw e l; stays_up = λ u. e ∙ u }) (rw k (above_refl (g.node p).item))

module _ (f x : ℕ) (h : History) (g : View) (I : Invariant f x h g) where
  pub storing_live : (g.node x).stage ≡ storing → live (g.node x).phase ≡ true
  storing_live e = writing_live h (g.node x) I.own (λ z. clash (cc))

  pub confirming_live : (g.node x).stage ≡ confirming → live (g.node x).phase ≡ true
  confirming_live e = writing_live h (g.node x) I.own (λ z. clash (cc))

  pub node_step : (n : Note) (p : ℕ) (v : ViewNode) → Change f x g n p v → NodeStep f g p v
  node_step n p v (at_write t _ e s b u a k) =
      lives_on (record { same_incarnation = b.same_incarnation; was_live = rw e; is_live = rw u; stays_up = λ z. u })
      (rw k (above_higher (g.node x).item (item_above (g.node x).item t) (omega arith)))
  node_step n p v (at_retry _ d b u a k) = goes_on f g p v (writing_live h (g.node x) I.own d) b.same_incarnation u k
  node_step n p v (at_crash _ _ i u s k) = goes_down u i
  node_step n p v (at_start _ _ i u s k c) = restarts u i c
  node_step n p v (at_store _ i a k _ d m r l e) = lives_on l (rw e r)
  node_step n p v (at_stored q i _ c w u s e e') = goes_on f g p v (storing_live c.in_storing) w.same_incarnation u w.same_item
  node_step n p v (at_last_stored q i _ c w u s e e' z) = goes_on f g p v (storing_live c.in_storing) w.same_incarnation u w.same_item
  node_step n p v (at_confirmed q _ c w u s e e' z) = goes_on f g p v (confirming_live c.in_confirming) w.same_incarnation u w.same_item
  node_step n p v (at_last_confirmed q _ _ c m w u s r) =
      lives_on (record { same_incarnation = w.same_incarnation; was_live = confirming_live c.in_confirming; is_live = rw u; stays_up = λ z. u })
      (rw w.same_item (above_refl (g.node x).item))
  node_step n p v (at_table _ q r _ t u s c m) = counts_table q r t u c m
  node_step n p v (at_last_table _ q r _ t c u m b) = rebuilds q r t c (rw u) m
  node_step n p v (elsewhere _ _ d l k) = lives_on l (rw k (above_refl (g.node p).item))
  node_step n p v (unchanged _ _ e) = stays e

-- an incarnation never falls, and an answer stays true
pub record Forward (v w : ViewNode) : Type 0 where
  pub no_earlier : v.incarnation ≤ w.incarnation
  pub still_answered : (i : ℕ) (k : Item) → Answered i k v → Answered i k w

forward_refl : (v : ViewNode) → Forward v v
forward_refl v = record { no_earlier = omega arith; still_answered = λ i k a. a }

forward_live : (v w : ViewNode) → StaysLive v w → Above v.item w.item → Forward v w
forward_live v w l r = record {
  no_earlier = omega (arith, l.same_incarnation);
  still_answered = λ i k a. record {
    not_later = omega (arith, a.not_later, l.same_incarnation);
    unless_restarted = λ e. go k (a.unless_restarted (e ∙ l.same_incarnation));
  };
}
  where
    go : (k : Item) → DownOrHas k v → DownOrHas k w
    go k (inl d) = let e : live v.phase ≡ true = l.was_live in clash (cc)
    go k (inr u) = inr (l.stays_up u.0, above_trans k v.item w.item u.1 r)

forward_fetching : (v w : ViewNode) → w.incarnation ≡ v.incarnation → v.phase ≡ fetching → Forward v w
forward_fetching v w i d = record {
  no_earlier = omega arith;
  still_answered = λ j k a. record { not_later = omega (arith, a.not_later); unless_restarted = λ e. absurd (go k (a.unless_restarted (e ∙ i))) };
}
  where
    go : (k : Item) → DownOrHas k v → ⊥
    go k (inl u) = clash (cc)
    go k (inr z) = let u : v.phase ≡ up = z.0 in clash (cc)

forward_step : (f : ℕ) (g : View) (p : ℕ) (w : ViewNode) → NodeStep f g p w → Forward (g.node p) w
forward_step f g p w (lives_on l r) = forward_live (g.node p) w l r
forward_step f g p w (goes_down d i) = record {
  no_earlier = omega arith;
  still_answered = λ j k a. record { not_later = omega (arith, a.not_later); unless_restarted = λ e. inl d };
}
forward_step f g p w (restarts d i c) = record {
  no_earlier = omega arith;
  still_answered = λ j k a. record { not_later = omega (arith, a.not_later); unless_restarted = λ e. absurd (omega (arith, a.not_later)) };
}
forward_step f g p w (counts_table q r t d c m) = forward_fetching (g.node p) w t.same_incarnation t.was_fetching
forward_step f g p w (rebuilds q r t c d m) = forward_fetching (g.node p) w t.same_incarnation t.was_fetching
forward_step f g p w (stays e) = rw e (forward_refl (g.node p))

pub forward_next : (f : ℕ) (g : View) (p : ℕ) (w : ViewNode) → NodeStep f g p w → (q : ℕ) → Forward (g.node q) (replaced g.node p w q)
forward_next f g p w t = replaced_each (λ q u. Forward (g.node q) u) g.node p w (forward_step f g p w t) (λ q d. forward_refl (g.node q))

-- x's own node: it stays live, and is Storing only if it was so, or under a later attempt
past_live : (v w : ViewNode) → w.incarnation ≡ v.incarnation → live v.phase ≡ true → (w.phase ≡ fetching → ⊥) → v.attempt ≤ w.attempt
    → (w.stage ≡ storing → (v.stage ≡ storing) ⊎ (v.attempt < w.attempt)) → (i a : ℕ) → Past i a v → Past i a w
past_live v w e l d m late i a b = record {
  not_later = omega (arith, b.not_later);
  before_fetching = λ z. absurd (d z);
  not_later_attempt = λ z z'. omega (arith, b.not_later_attempt l (z' ∙ e));
  before_storing = λ z z'. go (z' ∙ e) (late z);
}
  where
    go : i ≡ v.incarnation → (v.stage ≡ storing) ⊎ (v.attempt < w.attempt) → a < w.attempt
    go z (inl s) = omega (arith, b.before_storing s z)
    go z (inr s) = omega (arith, b.not_later_attempt l z)

-- x's write goes on in its stage or the next, or is finished
past_writes : (v w : ViewNode) → SameWrite v w → live v.phase ≡ true → live w.phase ≡ true → (w.stage ≡ storing → v.stage ≡ storing)
    → (i a : ℕ) → Past i a v → Past i a w
past_writes v w s l l' st =
    past_live v w s.same_incarnation l (live_not_fetching w l') (omega (arith, s.same_attempt)) (λ z. inl (st z))

-- an earlier incarnation is past, whatever its attempts
past_earlier : (w : ViewNode) (i a : ℕ) → i < w.incarnation → Past i a w
past_earlier w i a l = record {
  not_later = omega arith;
  before_fetching = λ z. l;
  not_later_attempt = λ z z'. absurd (omega arith);
  before_storing = λ z z'. absurd (omega arith);
}

past_fetching : (v w : ViewNode) → v.phase ≡ fetching → w.incarnation ≡ v.incarnation → (i a : ℕ) → Past i a v → Past i a w
past_fetching v w d e i a b = past_earlier w i a (omega (arith, b.before_fetching d))

past_down : (v w : ViewNode) → w.incarnation ≡ v.incarnation → w.phase ≡ down → w.stage ≡ idle → (i a : ℕ) → Past i a v → Past i a w
past_down v w e d s i a b = record {
  not_later = omega (arith, b.not_later);
  before_fetching = λ z. clash (cc);
  not_later_attempt = λ z. clash (cc);
  before_storing = λ z. clash (cc);
}

module _ (f x : ℕ) (h : History) (g : View) (I : Invariant f x h g) where
  past_change : (n : Note) (p : ℕ) (v : ViewNode) → Change f x g n p v → p ≡ x → (i a : ℕ) → Past i a (g.node p) → Past i a v
  past_change n p v (at_write t _ e s b u a k) z =
      past_live (g.node x) v b.same_incarnation (rw e) (λ y. clash (cc)) (omega arith) (λ y. inr a)
  past_change n p v (at_retry _ d b u a k) z =
      let l : live (g.node x).phase ≡ true = writing_live h (g.node x) I.own d in
      past_live (g.node x) v b.same_incarnation l (live_not_fetching v (rw u l)) (omega arith) (λ y. inr a)
  past_change n p v (at_crash _ _ i u s k) z = past_down (g.node p) v i u s
  past_change n p v (at_start _ _ i u s k c) z = λ j a b. past_earlier v j a (omega (arith, b.not_later))
  past_change n p v (at_store _ i a k _ d m r l e) z = absurd (d z)
  past_change n p v (at_stored q i _ c w u s e e') z =
      let l : live (g.node x).phase ≡ true = storing_live f x h g I c.in_storing in
      past_writes (g.node x) v w l (rw u l) (λ y. c.in_storing)
  past_change n p v (at_last_stored q i _ c w u s e e' y) z =
      let l : live (g.node x).phase ≡ true = storing_live f x h g I c.in_storing in
      past_writes (g.node x) v w l (rw u l) (λ y. c.in_storing)
  past_change n p v (at_confirmed q _ c w u s e e' y) z =
      let l : live (g.node x).phase ≡ true = confirming_live f x h g I c.in_confirming in
      past_writes (g.node x) v w l (rw u l) (λ y. clash (cc))
  past_change n p v (at_last_confirmed q _ _ c m w u s r) z =
      past_writes (g.node x) v w (confirming_live f x h g I c.in_confirming) (rw u) (λ y. clash (cc))
  past_change n p v (at_table _ q r _ t u s c m) z = past_fetching (g.node p) v t.was_fetching t.same_incarnation
  past_change n p v (at_last_table _ q r _ t c u m b) z = past_fetching (g.node p) v t.was_fetching t.same_incarnation
  past_change n p v (elsewhere _ _ d l k) z = absurd (d z)
  past_change n p v (unchanged _ _ e) z = λ i a b. rw e b

  pub past_next : (n : Note) (p : ℕ) (v : ViewNode) → Change f x g n p v → (i a : ℕ) → Past i a (g.node x) → Past i a (replaced g.node p v x)
  past_next n p v c i a = replaced_each (λ q w. q ≡ x → Past i a (g.node q) → Past i a w) g.node p v
      (λ z. past_change n p v c z i a) (λ q d z b. b) x refl
