-- A turn of the search for the last record of a chain, and where it stops: what is left to do gives the answer.
use Rattle.std.proofs.Common.{◌≡◌, ℕ, zero, suc, ◌-◌, ◌<◌, ◌≢◌, List, sym, refl, ap, ◌∙◌, arith, eq-eqb, ne_eqb}
use Rattle.store.specs.Chain.{next_in, last_from}

module _ (rs : List (List ℕ)) (i next : ℕ) (en : next ≡ next_in rs i) where
  pub last_end : (left : ℕ) → next ≡ 0 → last_from left rs i ≡ i
  unfolding last_from
  last_end zero z = refl
  last_end (suc left) z = rw (eq-eqb (next_in rs i) 0 (sym en ∙ z))

  pub last_turn : (left : ℕ) → 0 < left → next ≢ 0 → last_from left rs i ≡ last_from (left - 1) rs next
  unfolding last_from
  last_turn left h d =
      let k : left ≡ suc (left - 1) = omega arith in
      ap (λ (m : ℕ). last_from m rs i) k ∙ rw (← en, ne_eqb next 0 d)

pub last_out : (rs : List (List ℕ)) (i left : ℕ) → left ≡ 0 → last_from left rs i ≡ i
unfolding last_from
last_out rs i left e = ap (λ (m : ℕ). last_from m rs i) e
