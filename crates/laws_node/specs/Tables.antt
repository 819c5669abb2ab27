-- What a row is after any tables, in the order in which they were counted (document 01: "the first table is taken whole,
-- and later a row is marked while its greatest index has come with two tags (the first tag is kept)"). `came_row` says it
-- of the whole list of the items that came for the row, with no merge.
use Rattle.std.specs.Prelude.{ℕ, zero, max, ◌≡◌, Bool, true, false, cond, not, ◌&&◌, ◌||◌, List, [], ◌∷◌, eqb}
use Rattle.item.specs.Item.{tags_agree}
use Rattle.item.specs.Row.{zero_row}
use Rattle.item.specs.declared.Item.{Item}
use Rattle.item.specs.declared.Row.{Row}
use Rattle.item.specs.declared.Tag.{Tag}
use Rattle.protocol.specs.Merge.{merge_row}

-- an item's index as a number
abbrev pub rank : Item → ℕ
rank item = item.index.0

-- the greatest index that came
unfoldable pub top_rank : List Item → ℕ
top_rank [] = zero
top_rank (item ∷ items) = max (rank item) (top_rank items)

-- whether this index came
unfoldable pub came : ℕ → List Item → Bool
came i [] = false
came i (item ∷ items) = eqb (rank item) i || came i items

-- the tag that first came with this index
unfoldable pub first_tag : ℕ → List Item → Tag
first_tag i [] = record { 0 = 0 }
first_tag i (item ∷ items) = cond (eqb (rank item) i) item.tag (first_tag i items)

-- whether this index came with a tag other than this one
unfoldable pub other_tag : ℕ → Tag → List Item → Bool
other_tag i tag [] = false
other_tag i tag (item ∷ items) = (eqb (rank item) i && not (tags_agree item.tag tag)) || other_tag i tag items

-- whether this index came with two tags
unfoldable pub two_tags : ℕ → List Item → Bool
two_tags i items = other_tag i (first_tag i items) items

-- the row for which these items came: the greatest index, the tag that first came with it, and the mark of two tags
unfoldable pub came_row : List Item → Row
came_row items =
    record {
      item = record { index = record { 0 = top_rank items }; tag = first_tag (top_rank items) items };
      incarnation = record { 0 = 0 };
      attempt = record { 0 = 0 };
      marked = two_tags (top_rank items) items;
    }

-- a row after further tables, one after the other
unfoldable pub merged_onto : Row → List Item → Row
merged_onto row [] = row
merged_onto row (item ∷ items) = merged_onto (merge_row false row item) items

-- a row after these tables, the first of them taken whole
unfoldable pub merged_row : List Item → Row
merged_row [] = zero_row
merged_row (item ∷ items) = merged_onto (merge_row true zero_row item) items

-- after any tables, each row is the greatest index that came, with the tag that first came with it, and is marked exactly
-- if that index came with two tags
unfoldable pub TablesMerged : Type 0
TablesMerged = (items : List Item) → merged_row items ≡ came_row items
