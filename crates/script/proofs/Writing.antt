-- Laws of a number in decimal: that it is the library's text, that it has at most twenty digits, and that reading it gives it back.
use Prim.Native.Nat.{ℕ, zero, suc, ◌+◌, ◌*◌, ◌-◌, ◌/◌, ◌%◌, ◌^◌, ◌<◌, ◌≤◌}
use native.Mathlib.Nat.{pow-succ'}
use native.Mathlib.Omega.{arith}
use mathlib.Core.Path.{◌≡◌, refl, sym, ◌∙◌}
use mathlib.Core.Bool.{Bool, true, false}
use mathlib.Core.List.{List, [], ◌∷◌, ◌++◌}
use lib.Dec.{ltb}
use lib.ListN.{length, get_or, length-append, get_or-append}
use borrow.Author.Tests.{ltb-true, ltb-false, lt-ltb, le-leb, ne_eqb}
use Rattle.item.proofs.Tests.{by_cond, and_left, and_right}
use Rattle.script.specs.Number.{is_digit, all_digits, value_from, number_from, leading_zero, number_in}
use Rattle.script.specs.Digits.{digits_of, decimal_of}
use Rattle.script.proofs.NumberReading.{and_false}
use Rattle.std.specs.Prelude.{Some, decimal}
use Rattle.std.proofs.lemmas.Fmt.{decimal_step, decimal_digit}

-- a tenth of a number of one digit more
tenth : (k v : ℕ) → v < 10 ^ suc k → v / 10 < 10 ^ k
tenth k v h = let e : 10 ^ suc k ≡ 10 * 10 ^ k = pow-succ' 10 k in omega arith

digits_length : (k v : ℕ) → length (digits_of k v) ≤ k
unfolding digits_of
digits_length zero v = omega arith
digits_length (suc k) v =
    by_cond (λ l. length l ≤ suc k) (ltb v 10) ((48 + v) ∷ []) (digits_of k (v / 10) ++ ((48 + v % 10) ∷ []))
    (λ e. omega arith)
    (λ e. rw (length-append (digits_of k (v / 10)) ((48 + v % 10) ∷ [])) (omega (arith, digits_length k (v / 10))))

digits_some : (k v : ℕ) → 0 < length (digits_of (suc k) v)
unfolding digits_of
digits_some k v =
    by_cond (λ l. 0 < length l) (ltb v 10) ((48 + v) ∷ []) (digits_of k (v / 10) ++ ((48 + v % 10) ∷ []))
    (λ e. omega arith)
    (λ e. rw (length-append (digits_of k (v / 10)) ((48 + v % 10) ∷ [])) (omega arith))

-- a number of one digit
pub decimal_one : (v : ℕ) → v < 10 → decimal_of v ≡ (48 + v) ∷ []
unfolding decimal_of digits_of
decimal_one v h = rw (lt-ltb v 10 h)

-- it is the library's text of a number of 64 bits
decimal_from : (k v : ℕ) → v < 10 ^ suc k → v < 2 ^ 64 → digits_of (suc k) v ≡ decimal v
unfolding digits_of
decimal_from zero v h w = rw (lt-ltb v 10 (omega arith)) (sym (decimal_digit v (omega arith)))
decimal_from (suc k) v h w =
    by_cond (λ l. l ≡ decimal v) (ltb v 10) ((48 + v) ∷ []) (digits_of (suc k) (v / 10) ++ ((48 + v % 10) ∷ []))
    (λ e. sym (decimal_digit v (ltb-true v 10 e)))
    (λ e. rw (decimal_from k (v / 10) (tenth (suc k) v h) (omega arith)) (sym (decimal_step v (omega (arith, ltb-false v 10 e)) w)))

pub decimal_is : (v : ℕ) → v < 2 ^ 64 → decimal_of v ≡ decimal v
unfolding decimal_of
decimal_is v h = decimal_from 19 v (omega arith) h

-- at most twenty digits
pub decimal_length : (v : ℕ) → length (decimal_of v) ≤ 20
unfolding decimal_of
decimal_length v = digits_length 20 v

-- one more digit at the end
value_last : (u : ℕ) (xs : List ℕ) (d : ℕ) → value_from u (xs ++ (d ∷ [])) ≡ value_from u xs * 10 + (d - 48)
unfolding value_from
value_last u [] d = refl
value_last u (x ∷ xs) d = value_last (u * 10 + (x - 48)) xs d

all_last : (xs : List ℕ) (d : ℕ) → all_digits xs ≡ true → is_digit d ≡ true → all_digits (xs ++ (d ∷ [])) ≡ true
unfolding all_digits
all_last [] d e h = rw h
all_last (x ∷ xs) d e h = rw (and_left (is_digit x) (all_digits xs) e, all_last xs d (and_right (is_digit x) (all_digits xs) e) h)

is_digit_lem : (d : ℕ) → d < 10 → is_digit (48 + d) ≡ true
unfolding is_digit
is_digit_lem d h = rw (le-leb 48 (48 + d) (omega arith), le-leb (48 + d) 57 (omega arith))

digits_all : (k v : ℕ) → all_digits (digits_of k v) ≡ true
unfolding digits_of all_digits
digits_all zero v = refl
digits_all (suc k) v =
    by_cond (λ l. all_digits l ≡ true) (ltb v 10) ((48 + v) ∷ []) (digits_of k (v / 10) ++ ((48 + v % 10) ∷ []))
    (λ e. rw (is_digit_lem v (ltb-true v 10 e)))
    (λ e. all_last (digits_of k (v / 10)) (48 + v % 10) (digits_all k (v / 10)) (is_digit_lem (v % 10) (omega arith)))

digits_value : (k v : ℕ) → v < 10 ^ suc k → value_from 0 (digits_of (suc k) v) ≡ v
unfolding digits_of value_from
digits_value zero v h = rw (lt-ltb v 10 (omega arith)) (omega arith)
digits_value (suc k) v h =
    by_cond (λ l. value_from 0 l ≡ v) (ltb v 10) ((48 + v) ∷ []) (digits_of (suc k) (v / 10) ++ ((48 + v % 10) ∷ []))
    (λ e. omega arith)
    (λ e. value_last 0 (digits_of (suc k) (v / 10)) (48 + v % 10) ∙ rw (digits_value k (v / 10) (tenth (suc k) v h)) (omega arith))

-- the first digit of a number above zero is no zero
first_digit : (k v : ℕ) → 0 < v → v < 10 ^ suc k → get_or (digits_of (suc k) v) 0 0 ≡ 48 → ⊥
unfolding digits_of
first_digit zero v p h = rw (lt-ltb v 10 (omega arith)) (λ z. omega arith)
first_digit (suc k) v p h =
    by_cond (λ l. get_or l 0 0 ≡ 48 → ⊥) (ltb v 10) ((48 + v) ∷ []) (digits_of (suc k) (v / 10) ++ ((48 + v % 10) ∷ []))
    (λ e z. omega arith)
    (λ e z. first_digit k (v / 10) (omega (arith, ltb-false v 10 e)) (tenth (suc k) v h)
    (sym (get_or-append (digits_of (suc k) (v / 10)) ((48 + v % 10) ∷ []) 0 0 (digits_some k (v / 10))) ∙ z))

no_leading : (v : ℕ) → v < 2 ^ 64 → leading_zero (decimal_of v) ≡ false
unfolding leading_zero decimal_of
no_leading v h = by_size (ltb v 10) refl
  where
    by_size : (t : Bool) → ltb v 10 ≡ t → leading_zero (decimal_of v) ≡ false
    by_size true e = rw (decimal_one v (ltb-true v 10 e))
    by_size false e =
        rw (ne_eqb (get_or (digits_of 20 v) 0 0) 48 (first_digit 19 v (omega (arith, ltb-false v 10 e)) (omega arith)), and_false)

-- a number that is written is read back
pub reads_back : (v : ℕ) → v < 2 ^ 64 → number_in (decimal_of v) ≡ Some v
unfolding number_in number_from decimal_of
reads_back v h =
    rw (ne_eqb (length (digits_of 20 v)) 0 (λ z. omega (arith, digits_some 19 v)), no_leading v h, digits_all 20 v, digits_value 19 v (omega arith), lt-ltb v (2 ^ 64) h)
