-- An array made by calls at 0, 1 and so on of a closure that stays as it is has at each place what the closure gives there;
-- and rows that are each merged with the table's item are the merge of all.
use Prim.Native.Nat.{ℕ, zero, suc, ◌+◌, ◌<◌}
use mathlib.Core.Path.{◌≡◌, refl, subst, ◌∙◌}
use mathlib.Core.Bool.{Bool}
use mathlib.Core.List.{List, [], ◌∷◌}
use lib.ListN.{length, get_or}
use native.Mathlib.Omega.{arith}
use denote.Param.Members.{Mut, Called}
use Rattle.std.specs.Array.{IsFromFnResult, IsFromFnResultFrom}
use Rattle.item.specs.Item.{zero_item}
use Rattle.item.specs.Row.{zero_row}
use Rattle.item.specs.declared.Item.{Item}
use Rattle.item.specs.declared.Row.{Row}
use Rattle.protocol.specs.Merge.{merge_row, merge_rows}

module _ {F B : Type 0} {g : Mut F (ℕ × Unit {0}) B} {f : F} (value : ℕ → B)
    (gives : (i : ℕ) (y : B) (f' : F) → Called g f (i, tt) y f' → (y ≡ value i) × (f' ≡ f)) where
  made_from : (ys : List B) (i n k j : ℕ) (d : B) → IsFromFnResultFrom g f ys i n → k < n → i + k ≡ j → get_or ys j d ≡ value j
  made_from ys i zero k j d made h e = absurd (omega arith)
  made_from ys i (suc n) zero j d (f', y, here, call, made) h e =
      let at : i ≡ j = omega arith in
      subst (λ (k : ℕ). get_or ys k d ≡ value k) at (here.1 d ∙ (gives i y f' call).0)
  made_from ys i (suc n) (suc k) j d (f', y, here, call, made) h e =
      let rest = subst (λ (p : F). IsFromFnResultFrom g p ys (i + 1) n) (gives i y f' call).1 made in
      made_from ys (i + 1) n k j d rest (omega arith) (omega arith)

  pub made_at : (ys : List B) (n k : ℕ) (d : B) → IsFromFnResult g f ys n → k < n → get_or ys k d ≡ value k
  made_at ys n k d made h = made_from ys 0 n k k d made.each h (omega arith)

pub merged : (first : Bool) (rows : List Row) (items : List Item) (new : List Row) → length rows ≡ length new → length items ≡ length new
    → ((k : ℕ) → k < length new → get_or new k zero_row ≡ merge_row first (get_or rows k zero_row) (get_or items k zero_item))
    → new ≡ merge_rows first rows items
unfolding merge_rows
merged first [] items [] h k e = refl
merged first [] items (n ∷ new) h k e = absurd (omega arith)
merged first (row ∷ rows) items [] h k e = absurd (omega arith)
merged first (row ∷ rows) [] (n ∷ new) h k e = absurd (omega arith)
merged first (row ∷ rows) (item ∷ items) (n ∷ new) h k e =
    λ j. e 0 (omega arith) j ∷ merged first rows items new (omega arith) (omega arith) (λ k h. e (suc k) (omega arith)) j
