-- A number written in decimal, with no leading zero: what the drill prints.
use Rattle.std.specs.Prelude.{ℕ, zero, suc, ◌+◌, ◌/◌, ◌%◌, cond, List, [], ◌∷◌, ◌++◌, ltb}

-- the digits of v, of which there are at most k, the most significant first
unfoldable pub digits_of : ℕ → ℕ → List ℕ
digits_of zero v = []
digits_of (suc k) v = cond (ltb v 10) ((48 + v) ∷ []) (digits_of k (v / 10) ++ ((48 + v % 10) ∷ []))

-- every number of 64 bits has at most 20 digits
abbrev pub max_digits : ℕ
max_digits = 20

unfoldable pub decimal_of : ℕ → List ℕ
decimal_of v = digits_of max_digits v
