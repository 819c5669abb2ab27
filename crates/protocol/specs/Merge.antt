-- The greatest items of the tables counted so far, one for each row, and the rows whose greatest index came with two tags.
use Rattle.std.specs.Prelude.{ℕ, Bool, true, cond, List, [], ◌∷◌, Option, position}
use Rattle.item.specs.Item.{ranks_below, same_item}
use Rattle.item.specs.declared.Item.{Item}
use Rattle.item.specs.declared.Row.{Row}
use Rattle.protocol.specs.Node.{rebuilt_row}

-- the same row, marked
abbrev pub marked_row : Row → Row
marked_row row = record row { marked = true }

-- a row after one more table: "the first table is taken whole, and later a row is marked while its greatest index has
-- come with two tags (the first tag is kept)"
unfoldable pub merge_row : Bool → Row → Item → Row
merge_row first row item =
    cond first (rebuilt_row item)
    (cond (ranks_below row.item item) (rebuilt_row item)
    (cond (ranks_below item row.item) row
    (cond (same_item item row.item) row (marked_row row))))

-- every row, with the item that the table has for it
unfoldable pub merge_rows : Bool → List Row → List Item → List Row
merge_rows first [] items = []
merge_rows first (row ∷ rows) [] = row ∷ rows
merge_rows first (row ∷ rows) (item ∷ items) = merge_row first row item ∷ merge_rows first rows items

-- the lowest marked row, if one is marked
unfoldable pub lowest_marked : List Row → Option ℕ
lowest_marked rows = position (λ row. row.marked) rows
