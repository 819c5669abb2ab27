-- A sound store of a group of n (document 01: "A store is sound if n is valid, .."), in terms of what one pass finds.
use Rattle.std.specs.Prelude.{ℕ, Bool, false, List, eqb, None, Option, Some}
use Rattle.store.specs.declared.Survey.{Survey}
use Rattle.store.specs.Sound.{survey}

unfoldable pub of_size : Option Survey → ℕ → Bool
of_size None n = false
of_size (Some found) n = eqb found.n n

unfoldable pub sound_for : List ℕ → ℕ → Bool
sound_for s n = of_size (survey s) n
