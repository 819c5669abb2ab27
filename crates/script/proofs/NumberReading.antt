-- Laws of reading a number: one more digit, the end of the digits, and that more than twenty bytes are no number.
use Prim.Native.Nat.{ℕ, zero, suc, ◌+◌, ◌*◌, ◌-◌, ◌^◌, ◌<◌, ◌≤◌}
use native.Mathlib.Nat.{pow-succ', mul_assoc, mul-le-mul_right}
use native.Mathlib.Numerals.{add-one}
use native.Mathlib.Omega.{arith}
use mathlib.Core.Path.{◌≡◌, refl, sym, ap, ◌∙◌}
use mathlib.Core.Logic.{◌⊎◌, inl, inr, ⊎_elim}
use mathlib.Core.Bool.{Bool, true, false, ◌&&◌, cond}
use mathlib.Core.List.{List, [], ◌∷◌}
use lib.Dec.{ltb, leb, eqb}
use lib.ListN.{length, get_or, drop, drop_of_length-le}
use lib.Seq.{drop-cons}
use borrow.Author.Tests.{ltb-true, ltb-false, lt-ltb, le-ltb, le-leb, leb-true, eqb-false, ne_eqb}
use Rattle.item.proofs.Tests.{by_cond, and_left, and_right}
use Rattle.script.specs.Number.{is_digit, all_digits, value_from, number_from, leading_zero, number_in}
use Rattle.std.specs.Prelude.{Some, None}

-- what a number, or none, says of the two tests behind it
tests_is : (t u : Bool) (x n : ℕ) → cond ((t && true) && u) (Some x) None ≡ Some n → (t ≡ true) × (u ≡ true) × (x ≡ n)
tests_is true true x n e = (refl, refl, cc)
tests_is true false x n e = absurd (cc)
tests_is false u x n e = absurd (cc)

tests_none : (t u : Bool) (x : ℕ) → cond ((t && true) && u) (Some x) None ≡ None → (t ≡ false) ⊎ (u ≡ false)
tests_none true true x e = absurd (cc)
tests_none true false x e = inr refl
tests_none false u x e = inl refl

pub and_false : (a : Bool) → (a && false) ≡ false
and_false true = refl
and_false false = refl

-- digits never make a number smaller
at_least : (v : ℕ) (bs : List ℕ) → v ≤ value_from v bs
unfolding value_from
at_least v [] = omega arith
at_least v (b ∷ bs) = omega (arith, at_least (v * 10 + (b - 48)) bs)

-- and k of them make it 10 ^ k times as large at least
grows : (k v : ℕ) (bs : List ℕ) → k ≤ length bs → v * 10 ^ k ≤ value_from v bs
unfolding value_from
grows zero v bs h = omega (arith, at_least v bs)
grows (suc k) v [] h = absurd (omega arith)
grows (suc k) v (b ∷ bs) h =
    let e : v * 10 ^ suc k ≡ v * 10 * 10 ^ k = ap (λ (p : ℕ). v * p) (pow-succ' 10 k) ∙ sym (mul_assoc v 10 (10 ^ k)) in
    let l : v * 10 ≤ v * 10 + (b - 48) = omega arith in
    let m : v * 10 * 10 ^ k ≤ (v * 10 + (b - 48)) * 10 ^ k = mul-le-mul_right (10 ^ k) l in
    let r : (v * 10 + (b - 48)) * 10 ^ k ≤ value_from (v * 10 + (b - 48)) bs = grows k (v * 10 + (b - 48)) bs (omega arith) in
    omega arith

-- one more digit: the rest goes on from the number that it makes
pub more_is : (v b n : ℕ) (bs : List ℕ) → number_from v (b ∷ []) ≡ Some n → number_from v (b ∷ bs) ≡ number_from n bs
unfolding number_from all_digits value_from
more_is v b n bs e =
    let t = tests_is (is_digit b) (ltb (v * 10 + (b - 48)) (2 ^ 64)) (v * 10 + (b - 48)) n e in
    rw (t.0, t.2)

-- a number that was read fits
pub is_fits : (v b n : ℕ) → number_from v (b ∷ []) ≡ Some n → n < 2 ^ 64
unfolding number_from all_digits value_from
is_fits v b n e =
    let t = tests_is (is_digit b) (ltb (v * 10 + (b - 48)) (2 ^ 64)) (v * 10 + (b - 48)) n e in
    omega (arith, t.2, ltb-true (v * 10 + (b - 48)) (2 ^ 64) t.1)

-- no digit, or too large: nothing after it makes a number
pub more_none : (v b : ℕ) (bs : List ℕ) → number_from v (b ∷ []) ≡ None → number_from v (b ∷ bs) ≡ None
unfolding number_from all_digits value_from
more_none v b bs e =
    ⊎_elim
    (λ (f : is_digit b ≡ false). rw f)
    (λ (f : ltb (v * 10 + (b - 48)) (2 ^ 64) ≡ false).
    rw (le-ltb (value_from (v * 10 + (b - 48)) bs) (2 ^ 64) (omega (arith, at_least (v * 10 + (b - 48)) bs, ltb-false (v * 10 + (b - 48)) (2 ^ 64) f)), and_false))
    (tests_none (is_digit b) (ltb (v * 10 + (b - 48)) (2 ^ 64)) (v * 10 + (b - 48)) e)

-- no digit left
pub end_is : (v : ℕ) → v < 2 ^ 64 → number_from v [] ≡ Some v
unfolding number_from all_digits value_from
end_is v h = rw (lt-ltb v (2 ^ 64) h)

-- the same at the i-th of the bytes, as a loop meets them
pub digit_is : (s : List ℕ) (v i n : ℕ) → i < length s → number_from v (get_or s i 0 ∷ []) ≡ Some n → number_from v (drop i s) ≡ number_from n (drop (i + 1) s)
digit_is s v i n h e = rw (drop-cons s i 0 h, add-one) (more_is v (get_or s i 0) n (drop (suc i) s) e)

pub digit_none : (s : List ℕ) (v i : ℕ) → i < length s → number_from v (get_or s i 0 ∷ []) ≡ None → number_from v (drop i s) ≡ None
digit_none s v i h e = rw (drop-cons s i 0 h) (more_none v (get_or s i 0) (drop (suc i) s) e)

pub digits_end : (s : List ℕ) (v i : ℕ) → length s ≤ i → v < 2 ^ 64 → number_from v (drop i s) ≡ Some v
digits_end s v i h f = rw (drop_of_length-le s h) (end_is v f)

-- no bytes, no number
pub none_in : number_in [] ≡ None
unfolding number_in
none_in = refl

-- twenty bytes are the most that a number has
pub too_long : (bs : List ℕ) → 20 < length bs → number_in bs ≡ None
unfolding number_in number_from leading_zero all_digits value_from is_digit
too_long [] h = absurd (omega arith)
too_long (b ∷ bs) h =
    by_cond (λ n. cond (eqb (suc (length bs)) 0) None n ≡ None) (leb 2 (suc (length bs)) && eqb b 48) None (number_from 0 (b ∷ bs))
    (λ e. rw (ne_eqb (suc (length bs)) 0 (λ z. omega arith)))
    (λ e. rw (ne_eqb (suc (length bs)) 0 (λ z. omega arith)) (by_cond (λ n. n ≡ None) ((is_digit b && all_digits bs) && ltb (value_from (0 * 10 + (b - 48)) bs) (2 ^ 64)) (Some (value_from (0 * 10 + (b - 48)) bs)) None
    (λ t.
    let d = leb-true 48 b (and_left (leb 48 b) (leb b 57) (and_left (is_digit b) (all_digits bs) (and_left (is_digit b && all_digits bs) _ t))) in
    let n = eqb-false b 48 (rw (le-leb 2 (suc (length bs)) (omega arith)) at e) in
    let g = grows 20 (0 * 10 + (b - 48)) bs (omega arith) in
    let f = ltb-true (value_from (0 * 10 + (b - 48)) bs) (2 ^ 64) (and_right (is_digit b && all_digits bs) _ t) in
    absurd (omega arith))
    (λ t. refl)))
