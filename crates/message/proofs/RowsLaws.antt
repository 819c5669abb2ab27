-- Laws of the rows beside a message: padded, they are as many as asked, and those below are the list's.
use Prim.Native.Nat.{ℕ, zero, suc, ◌<◌}
use native.Mathlib.Nat.{not-suc-le-zero, le_of_suc-le-suc}
use mathlib.Core.Path.{◌≡◌, refl, ap}
use mathlib.Core.List.{List, [], ◌∷◌}
use lib.ListN.{length, get_or}
use Rattle.item.specs.Item.{zero_item}
use Rattle.item.specs.declared.Item.{Item}
use Rattle.message.specs.Rows.{padded}

pub length_padded : (m : ℕ) (items : List Item) → length (padded m items) ≡ m
unfolding padded
length_padded zero items = refl
length_padded (suc m) [] = ap suc (length_padded m [])
length_padded (suc m) (i ∷ items) = ap suc (length_padded m items)

pub get_or_padded : (m : ℕ) (items : List Item) (i : ℕ) → i < m → get_or (padded m items) i zero_item ≡ get_or items i zero_item
unfolding padded
get_or_padded zero items i h = absurd (not-suc-le-zero h)
get_or_padded (suc m) [] zero h = refl
get_or_padded (suc m) [] (suc i) h = get_or_padded m [] i (le_of_suc-le-suc h)
get_or_padded (suc m) (x ∷ items) zero h = refl
get_or_padded (suc m) (x ∷ items) (suc i) h = get_or_padded m items i (le_of_suc-le-suc h)
