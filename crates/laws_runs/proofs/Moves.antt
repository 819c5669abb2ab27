-- What one call in x's view does to x's own write: a quiet one neither begins a write nor changes its item, a Write begins the
-- item one above, and a write that ends leaves x Idle.
use Prim.Native.Nat.{ℕ}
use mathlib.Core.Path.{◌≡◌, refl, sym, subst, ◌∙◌}
use mathlib.Core.Logic.{◌≢◌, ◌⊎◌, inl, inr}
use mathlib.Core.Bool.{true, false≢true}
use Rattle.item.specs.Item.{item_above}
use Rattle.item.specs.declared.Item.{Item}
use Rattle.item.specs.declared.Tag.{Tag}
use Rattle.returns.specs.Change.{SameWrite, Finishes, Change, at_write, at_retry, at_crash, at_start, at_store, at_stored, at_last_stored, at_confirmed, at_last_confirmed, at_table, at_last_table, elsewhere, unchanged, Next, same, did}
use Rattle.returns.specs.History.{History, Note, quiet, begins, settles, returns}
use Rattle.returns.specs.Replace.{replaced}
use Rattle.returns.specs.Invariant.{Own}
use Rattle.returns.specs.View.{ViewPhase, down, fetching, returning, up, idle, confirming, ViewNode, View, live}
use Rattle.returns.proofs.ReplaceLaws.{replaced_same, replaced_other}
use Rattle.returns.proofs.ViewLaws.{clash}
use Rattle.returns.proofs.NodeSteps.{writing_live}
use Rattle.protocol.proofs.Place.{by_place}

-- v is Up and writes
pub record Writing (v : ViewNode) : Type 0 where
  pub is_up : v.phase ≡ up
  pub not_idle : v.stage ≡ idle → ⊥

-- x, which is now v, was u
pub record Moves (n : Note) (u v : ViewNode) : Type 0 where
  pub when_quiet : n ≡ quiet → Writing v → Writing u × (v.item ≡ u.item)
  pub when_begins : (t : Tag) → n ≡ begins t → (u.phase ≡ up) × (u.stage ≡ idle) × (v.item ≡ item_above u.item t)
  pub when_settles : (i : Item) → n ≡ settles i → (v.stage ≡ idle) × Writing u × (i ≡ u.item)
  pub when_returns : (i : Item) → n ≡ returns i → v.stage ≡ idle

quietly : (u v : ViewNode) → (Writing v → Writing u × (v.item ≡ u.item)) → Moves quiet u v
quietly u v h =
    record {
      when_quiet = λ e. h;
      when_begins = λ t e. clash (cc);
      when_settles = λ i e. clash (cc);
      when_returns = λ i e. clash (cc);
    }

-- the same write, in the same phase
goes_on : (u v : ViewNode) → SameWrite u v → v.phase ≡ u.phase → (u.stage ≡ idle → ⊥) → Moves quiet u v
goes_on u v s p d = quietly u v (λ w. (record { is_up = sym p ∙ w.is_up; not_idle = d }, s.same_item))

not_up : (u v : ViewNode) → (v.phase ≡ up → ⊥) → Moves quiet u v
not_up u v d = quietly u v (λ w. absurd (d w.is_up))

either_live : (p : ViewPhase) → live p ≡ true → (p ≡ up) ⊎ (p ≡ returning)
either_live down e = absurd (false≢true e)
either_live fetching e = absurd (false≢true e)
either_live returning e = inr refl
either_live up e = inl refl

-- the write of u ends: it settles its item, or returns with it
finished : (u v : ViewNode) (n : Note) → (u.phase ≡ up) ⊎ (u.phase ≡ returning) → u.stage ≡ confirming → v.stage ≡ idle → Finishes u n → Moves n u v
finished u v n (inl p) s t h =
    let e : n ≡ settles u.item = h.when_up p in
    record {
      when_quiet = λ y w. absurd (w.not_idle t);
      when_begins = λ i y. clash (cc);
      when_settles = λ i y. (t, record { is_up = p; not_idle = λ z. clash (cc) }, cc);
      when_returns = λ i y. t;
    }
finished u v n (inr p) s t h =
    let e : n ≡ returns u.item = h.when_returning p in
    record {
      when_quiet = λ y w. absurd (w.not_idle t);
      when_begins = λ i y. clash (cc);
      when_settles = λ i y. clash (cc);
      when_returns = λ i y. t;
    }

module _ (f x : ℕ) (h : History) (g : View) (own : Own h (g.node x)) where
  changes : {n : Note} {p : ℕ} {v : ViewNode} → Change f x g n p v → p ≡ x → Moves n (g.node x) v
  changes (at_write t v u i b p a e) z =
      record {
        when_quiet = λ y. clash (cc);
        when_begins = λ s y. let same_tag : t ≡ s = cc in (u, i, subst (λ (r : Tag). v.item ≡ item_above (g.node x).item r) same_tag e);
        when_settles = λ j y. clash (cc);
        when_returns = λ j y. clash (cc);
      }
  changes (at_retry v d b p a e) z = quietly (g.node x) v (λ w. (record { is_up = sym p ∙ w.is_up; not_idle = d }, e))
  changes (at_crash p v i d s e) z = not_up (g.node x) v (λ y. clash (cc))
  changes (at_start p v i d s e c) z = not_up (g.node x) v (λ y. clash (cc))
  changes (at_store p i a k v d s b l e) z = absurd (d z)
  changes (at_stored q i v c s p t k u) z = goes_on (g.node x) v s p (λ y. let stored = c.in_storing in clash (cc))
  changes (at_last_stored q i v c s p t k u d) z = goes_on (g.node x) v s p (λ y. let stored = c.in_storing in clash (cc))
  changes (at_confirmed q v c s p t k u d) z = goes_on (g.node x) v s p (λ y. let confirmed = c.in_confirming in clash (cc))
  changes (at_last_confirmed q n v c m s p t e) z =
      finished (g.node x) v n (either_live _ (writing_live h (g.node x) own (λ y. let confirmed = c.in_confirming in clash (cc))))
      c.in_confirming t e
  changes (at_table p q r v c d s k m) z = not_up (g.node x) v (λ y. clash (cc))
  changes (at_last_table p q r v c k d m b) z = not_up (g.node x) v (λ y. clash (cc))
  changes (elsewhere p v d l e) z = absurd (d z)
  changes (unchanged p v e) z =
      let at_x : v ≡ g.node x = e ∙ subst (λ (k : ℕ). g.node p ≡ g.node k) z refl in
      quietly (g.node x) v (λ w. (subst Writing at_x w, subst (λ (u : ViewNode). v.item ≡ u.item) at_x refl))

  -- a call at another node tells nothing of x
  others_quiet : {n : Note} {p : ℕ} {v : ViewNode} → Change f x g n p v → p ≢ x → n ≡ quiet
  others_quiet (at_write t v u i b p a e) d = absurd (d refl)
  others_quiet (at_retry v d' b p a e) d = refl
  others_quiet (at_crash p v i d' s e) d = refl
  others_quiet (at_start p v i d' s e c) d = refl
  others_quiet (at_store p i a k v d' s b l e) d = refl
  others_quiet (at_stored q i v c s p t k u) d = refl
  others_quiet (at_last_stored q i v c s p t k u d') d = refl
  others_quiet (at_confirmed q v c s p t k u d') d = refl
  others_quiet (at_last_confirmed q n v c m s p t e) d = absurd (d refl)
  others_quiet (at_table p q r v c d' s k m) d = refl
  others_quiet (at_last_table p q r v c k d' m b) d = refl
  others_quiet (elsewhere p v d' l e) d = refl
  others_quiet (unchanged p v e) d = refl

  pub moves : {n : Note} {g' : View} → Next f x g n g' → Moves n (g.node x) (g'.node x)
  moves same = quietly (g.node x) (g.node x) (λ w. (w, refl))
  moves (did {n = n} {p = p} {v = v} c e) =
      by_place p x
      (λ z. subst (Moves n (g.node x)) (sym (subst (λ (k : ℕ). replaced g.node p v k ≡ v) z (replaced_same g.node p v))) (changes c z))
      (λ d.
      subst (Moves n (g.node x)) (sym (replaced_other g.node p v x (λ z. d (sym z))))
      (subst (λ (m : Note). Moves m (g.node x) (g.node x)) (sym (others_quiet c d)) (quietly (g.node x) (g.node x) (λ w. (w, refl)))))
