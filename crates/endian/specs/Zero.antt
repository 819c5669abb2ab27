-- Zero bytes.
use Rattle.std.specs.Prelude.{ℕ, Bool, true, ◌&&◌, List, [], ◌∷◌, eqb, replicate}

-- n zero bytes. The name stays shut: written out, a record of them is 272 elements in every goal.
unfoldable pub zeros : ℕ → List ℕ
zeros n = replicate n 0

unfoldable pub all_zero : List ℕ → Bool
all_zero [] = true
all_zero (b ∷ bs) = eqb b 0 && all_zero bs
