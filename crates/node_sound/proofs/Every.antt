-- A test of every element of a list, with its place or joined into one.
use Prim.Native.Nat.{ℕ, suc}
use mathlib.Core.Path.{◌≡◌, refl, ap, sym, ◌∙◌}
use mathlib.Core.Bool.{Bool, true, false, ◌&&◌, and_assoc, and-true}
use mathlib.Core.List.{List, [], ◌∷◌}
use native.Mathlib.Numerals.{add-one}
use lib.Bits.{bit_or}
use lib.Dec.{eqb}
use Rattle.std.specs.List.{enumerate_from, list_all, fold}
use Rattle.endian.proofs.ZeroLaws.{or_zero}
use Rattle.item.specs.Counter.{same_incarnation, same_attempt}
use Rattle.item.specs.Item.{tags_agree, same_item}
use Rattle.item.specs.declared.Row.{Row}
use Rattle.protocol.specs.Sound.{every_from}
use Rattle.node_sound.specs.Rest.{numbers_zero, row_bits}

-- each with its place, counted from k
pub every_enumerated : {A : Type 0} (test : ℕ → A → Bool) (k : ℕ) (xs : List A)
    → list_all (λ (p : ℕ × A). test p.0 p.1) (enumerate_from k xs) ≡ every_from test k xs
unfolding every_from
every_enumerated test k [] = refl
every_enumerated test k (x ∷ xs) = rw add-one (ap (λ (t : Bool). test k x && t) (every_enumerated test (suc k) xs))

-- the tests joined, from t on
joined_from : {A : Type 0} (test : A → Bool) (t : Bool) (xs : List A) → fold (λ all x. all && test x) t xs ≡ t && list_all test xs
joined_from test true [] = refl
joined_from test false [] = refl
joined_from test t (x ∷ xs) = joined_from test (t && test x) xs ∙ and_assoc t (test x) (list_all test xs)

pub joined_tests : {A : Type 0} (test : A → Bool) (xs : List A) → fold (λ all x. all && test x) true xs ≡ list_all test xs
joined_tests test xs = joined_from test true xs

-- or is 0 exactly if both are (`or_zero`), so the four numbers of a row joined are 0 exactly if each is
bits_zero : (row : Row) → eqb (row_bits row) 0 ≡ numbers_zero row
unfolding numbers_zero same_item tags_agree same_incarnation same_attempt
bits_zero row =
    let index = row.item.index.0 in
    let tag = row.item.tag.0 in
    let incarnation = row.incarnation.0 in
    let attempt = row.attempt.0 in
    or_zero (bit_or (bit_or index tag) incarnation) attempt
    ∙ ap (λ (t : Bool). t && eqb attempt 0) (or_zero (bit_or index tag) incarnation ∙ ap (λ (t : Bool). t && eqb incarnation 0) (or_zero index tag))
    ∙ and_assoc (eqb index 0 && eqb tag 0) (eqb incarnation 0) (eqb attempt 0)

-- and so are those of all rows, joined with b
bits_from : (b : ℕ) (rows : List Row) → eqb (fold (λ joined row. bit_or joined (row_bits row)) b rows) 0 ≡ eqb b 0 && list_all numbers_zero rows
bits_from b [] = sym (and-true (eqb b 0))
bits_from b (row ∷ rows) =
    bits_from (bit_or b (row_bits row)) rows
    ∙ rw (or_zero b (row_bits row), bits_zero row) (and_assoc (eqb b 0) (numbers_zero row) (list_all numbers_zero rows))

pub joined_bits : (rows : List Row) → eqb (fold (λ joined row. bit_or joined (row_bits row)) 0 rows) 0 ≡ list_all numbers_zero rows
joined_bits rows = bits_from 0 rows
