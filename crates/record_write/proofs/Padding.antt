-- The rows that are kept, and zero items in place of the others.
use Prim.Native.Nat.{ℕ, zero, suc, ◌+◌, ◌-◌, ◌≤◌}
use native.Mathlib.Omega.{arith}
use borrow.Rule.Slice.PartMut.{put_mid}
use mathlib.Core.Path.{◌≡◌, refl, ap, ◌∙◌}
use mathlib.Core.List.{List, [], ◌∷◌, ◌++◌, append-nil}
use native.Mathlib.Nat.{zero-add, suc-add}
use lib.ListN.{length, take, drop, replicate, length-drop, drop_of_length-le}
use lib.Seq.{length-take-le}
use Rattle.item.specs.Item.{zero_item}
use Rattle.item.specs.declared.Item.{Item}
use Rattle.record.specs.Layout.{padded}

zero_items : (m : ℕ) → replicate m zero_item ≡ padded m []
unfolding padded
zero_items zero = refl
zero_items (suc m) = ap (λ (l : List Item). zero_item ∷ l) (zero_items m)

padded_zeros : (held m : ℕ) (items : List Item) → length items ≡ held + m → take held items ++ replicate m zero_item ≡ padded (held + m) (take held items)
unfolding padded
padded_zeros zero m items h = rw zero-add (zero_items m)
padded_zeros (suc held) m [] h = absurd (omega arith)
padded_zeros (suc held) m (i ∷ items) h = rw suc-add (ap (λ (l : List Item). i ∷ l) (padded_zeros held m items (omega arith)))

-- as code fills all but the first `held` of n items
pub padded_filled : (n held : ℕ) (items zeros : List Item) (z : Item) → length items ≡ n → held ≤ n → z ≡ zero_item
    → zeros ≡ replicate (length (take (n - held) (drop held items))) z → put_mid held (n - held) items zeros ≡ padded n (take held items)
padded_filled n held items zeros z l h ez e =
    let k : length (take (n - held) (drop held items)) ≡ n - held = length-take-le (n - held) (drop held items) (omega (arith, length-drop held items)) in
    let past : drop (n - held) (drop held items) ≡ [] = drop_of_length-le (drop held items) {i = n - held} (omega (arith, length-drop held items)) in
    ap (λ (r : List Item). take held items ++ (zeros ++ r)) past
    ∙ ap (λ (r : List Item). take held items ++ r) (append-nil zeros ∙ e ∙ (λ i. replicate (k i) (ez i)))
    ∙ padded_zeros held (n - held) items (omega arith)
    ∙ ap (λ (k : ℕ). padded k (take held items)) (omega arith)
