-- A number as text (document 01, Drill program): "decimal numbers without leading zeros"; "a number above 64 bits" is none.
use Rattle.std.specs.Prelude.{ℕ, ◌+◌, ◌*◌, ◌-◌, ◌^◌, Bool, true, ◌&&◌, cond, List, [], ◌∷◌, ltb, leb, eqb, length, get_or, Option, Some, None}

-- `0` to `9`
unfoldable pub is_digit : ℕ → Bool
is_digit b = leb 48 b && leb b 57

unfoldable pub all_digits : List ℕ → Bool
all_digits [] = true
all_digits (b ∷ bs) = is_digit b && all_digits bs

-- what the digits make of the number v that stands before them
unfoldable pub value_from : ℕ → List ℕ → ℕ
value_from v [] = v
value_from v (b ∷ bs) = value_from (v * 10 + (b - 48)) bs

-- the number v, and after it digits only: a number if it has at most 64 bits
unfoldable pub number_from : ℕ → List ℕ → Option ℕ
number_from v bs = cond (all_digits bs && ltb (value_from v bs) (2 ^ 64)) (Some (value_from v bs)) None

-- a zero before further bytes
unfoldable pub leading_zero : List ℕ → Bool
leading_zero bs = leb 2 (length bs) && eqb (get_or bs 0 0) 48

-- at least one byte, no leading zero, digits only, at most 64 bits
unfoldable pub number_in : List ℕ → Option ℕ
number_in bs = cond (eqb (length bs) 0) None (cond (leading_zero bs) None (number_from 0 bs))
