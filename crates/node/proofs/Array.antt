-- Arrays of structs: their length.
use Prim.Native.Nat.{ℕ}
use mathlib.Core.Path.{◌≡◌, ◌∙◌, sym}
use mathlib.Core.List.{List, map}
use lib.ListN.{length, length-map}

-- owning the array tells the length of the list of its elements' fields
pub length_mapped : {X Y : Type 0} (f : X → Y) (l : List X) (n : ℕ) → length (map f l) ≡ n → length l ≡ n
length_mapped f l n p = sym (length-map l f) ∙ p
