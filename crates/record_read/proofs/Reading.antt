-- A loop that reads rows into a list of max_nodes items, one after the other: a turn of it, and its last state. And the rows
-- of a record's bytes, as it reads them.
use Prim.Native.Nat.{ℕ, ◌+◌, ◌*◌, ◌≤◌, ◌<◌}
use mathlib.Core.Path.{◌≡◌, sym, ◌∙◌}
use mathlib.Core.List.{List}
use native.Mathlib.Omega.{arith}
use native.Mathlib.Numerals.{add-one}
use lib.ListN.{length, get_or, set, take, length-set}
use lib.Seq.{take-suc, take-suc-set, take_all}
use Rattle.item.specs.Maxima.{max_nodes}
use Rattle.item.specs.Item.{zero_item}
use Rattle.item.specs.declared.Item.{Item}
use Rattle.record.specs.Layout.{rows_at, row_size, item_in, rows_of}
use Rattle.record.proofs.LayoutLaws.{length_items, get_or_items}

-- at place j the items before it are those of the rows
abbrev pub RowsRead : List Item → ℕ → List Item → Type 0
RowsRead rows j items = (j ≤ max_nodes) × (length items ≡ max_nodes) × (take j items ≡ take j rows)

module _ (rows : List Item) (long : length rows ≡ max_nodes) (j : ℕ) (items : List Item) (before : RowsRead rows j items) where
  pub row_read : {i : Item} → j < max_nodes → i ≡ get_or rows j zero_item → RowsRead rows (j + 1) (set items j i)
  row_read {i} h e = (
    omega arith,
    simp length-set before.1,
    rw (add-one, take-suc-set items j i (omega arith), take-suc rows j zero_item (omega arith), before.2, e),
  )

  pub rows_read : max_nodes ≤ j → items ≡ rows
  rows_read h = sym (take_all j items (omega arith)) ∙ before.2 ∙ take_all j rows (omega arith)

-- ---- the rows of a record

pub length_rows : (r : List ℕ) → length (rows_of r) ≡ max_nodes
unfolding rows_of
length_rows r = length_items max_nodes r rows_at

pub row_at : (r : List ℕ) (j : ℕ) → j < max_nodes → get_or (rows_of r) j zero_item ≡ item_in r (rows_at + j * row_size)
unfolding rows_of
row_at r = get_or_items max_nodes r rows_at
