-- Laws of zero bytes: the test says what it should, goes with bitwise or, and is that of the numbers in the bytes.
use Prim.Native.Nat.{ℕ, zero, suc, ◌+◌, ◌*◌, ◌≤◌, ◌<◌}
use mathlib.Core.Path.{◌≡◌, refl, sym, ap, ◌∙◌}
use mathlib.Core.Bool.{Bool, true, false, ◌&&◌, and_assoc, and-true}
use mathlib.Core.List.{List, [], ◌∷◌, ◌++◌}
use native.Mathlib.Omega.{arith}
use native.Mathlib.Numerals.{add-one}
use native.Mathlib.Nat.{zero-add}
use borrow.Author.Tests.{eqb-true, eq-eqb, ne_eqb}
use lib.Dec.{eqb}
use lib.Bits.{bit_and, bit_or, and_le_r, or_add_and}
use lib.ListN.{length, take, drop, get_or, length-replicate, take-append-drop}
use lib.Seq.{take-suc, drop-drop}
use Rattle.endian.proofs.PartLaws.{by_order, part_is}
use Rattle.endian.specs.Number.{value, number_at}
use Rattle.endian.proofs.NumberLaws.{number_joined}
use Rattle.endian.specs.Zero.{zeros, all_zero}

pub length_zeros : (n : ℕ) → length (zeros n) ≡ n
unfolding zeros
length_zeros n = length-replicate n 0

pub zeros_are_zero : (n : ℕ) → all_zero (zeros n) ≡ true
unfolding zeros all_zero
zeros_are_zero zero = refl
zeros_are_zero (suc n) = zeros_are_zero n

-- two tests passed together
pub both : (a b : Bool) → a && b ≡ true → (a ≡ true) × (b ≡ true)
both true b e = (refl, e)
both false b e = let z : ◌≡◌ {A = ℕ} 0 1 = cc in let w : ⊥ = omega arith in absurd w

pub all_zero_is : (l : List ℕ) → all_zero l ≡ true → l ≡ zeros (length l)
unfolding zeros all_zero
all_zero_is [] e = refl
all_zero_is (b ∷ l) e =
    let p = both (eqb b 0) (all_zero l) e in
    let z : b ≡ 0 = eqb-true b 0 p.0 in
    let t : l ≡ zeros (length l) = all_zero_is l p.1 in
    (λ i. z i ∷ t i)

pub all_zero_append : (a b : List ℕ) → all_zero (a ++ b) ≡ all_zero a && all_zero b
unfolding all_zero
all_zero_append [] b = refl
all_zero_append (x ∷ a) b = rw (all_zero_append a b) (sym (and_assoc (eqb x 0) (all_zero a) (all_zero b)))

-- or is zero exactly if both are
pub or_zero : (a b : ℕ) → eqb (bit_or a b) 0 ≡ eqb a 0 && eqb b 0
or_zero zero b = refl
or_zero (suc a) b =
    let s : bit_or (suc a) b + bit_and (suc a) b ≡ suc a + b = or_add_and (suc a) b in
    let l : bit_and (suc a) b ≤ b = and_le_r (suc a) b in
    rw (ne_eqb (bit_or (suc a) b) 0 (λ e. omega arith), ne_eqb (suc a) 0 (λ e. omega arith))

-- one byte more, as a loop over a slice joins them
pub zero_more : (s : List ℕ) (i joined : ℕ) → i < length s → eqb joined 0 ≡ all_zero (take i s)
    → eqb (bit_or joined (get_or s i 0)) 0 ≡ all_zero (take (i + 1) s)
unfolding all_zero
zero_more s i joined h e =
    or_zero joined (get_or s i 0) ∙ rw (e, add-one, take-suc s i 0 h, all_zero_append (take i s) (get_or s i 0 ∷ []), and-true (eqb (get_or s i 0) 0))

-- ---- numbers that are zero

-- a sum is zero exactly if both are
pub sum_zero : (a b : ℕ) → eqb (a + b) 0 ≡ eqb a 0 && eqb b 0
sum_zero zero b = rw (zero-add b)
sum_zero (suc a) b = rw (ne_eqb (suc a + b) 0 (λ e. omega arith), ne_eqb (suc a) 0 (λ e. omega arith))

weight_zero : (v : ℕ) → eqb (256 * v) 0 ≡ eqb v 0
weight_zero v =
    by_order v 0
    (λ h. eq-eqb (256 * v) 0 (omega arith) ∙ sym (eq-eqb v 0 (omega arith)))
    (λ h. ne_eqb (256 * v) 0 (λ e. omega arith) ∙ sym (ne_eqb v 0 (λ e. omega arith)))

-- bytes say 0 exactly if all of them are
pub value_zero : (l : List ℕ) → eqb (value l) 0 ≡ all_zero l
unfolding value all_zero
value_zero [] = refl
value_zero (b ∷ l) = sum_zero b (256 * value l) ∙ ap (λ (t : Bool). eqb b 0 && t) (weight_zero (value l) ∙ value_zero l)

-- what comes from a place on is zero exactly if the number there is, and what comes after it
pub zero_from : (w : ℕ) (s : List ℕ) (at : ℕ) → at + w ≤ length s
    → all_zero (drop at s) ≡ eqb (number_at w s at) 0 && all_zero (drop (at + w) s)
unfolding number_at
zero_from w s at h =
    ap all_zero (sym (take-append-drop w (drop at s)))
    ∙ all_zero_append (take w (drop at s)) (drop w (drop at s))
    ∙ rw (part_is w s at h, value_zero (take w (drop at s)), drop-drop w at s)

-- a number of eight bytes is no more than the one in its first two exactly if the six after them are zero
pub low_alone : (s : List ℕ) (at : ℕ) → at + 8 ≤ length s → eqb (number_at 8 s at) (number_at 2 s at) ≡ eqb (number_at 6 s (at + 2)) 0
low_alone s at h =
    let e : number_at 8 s at ≡ number_at 2 s at + 65536 * number_at 6 s (at + 2) = number_joined 2 6 s at h in
    by_order (number_at 6 s (at + 2)) 0
    (λ z. eq-eqb (number_at 8 s at) (number_at 2 s at) (omega arith) ∙ sym (eq-eqb (number_at 6 s (at + 2)) 0 (omega arith)))
    (λ z. ne_eqb (number_at 8 s at) (number_at 2 s at) (λ q. omega arith) ∙ sym (ne_eqb (number_at 6 s (at + 2)) 0 (λ q. omega arith)))
