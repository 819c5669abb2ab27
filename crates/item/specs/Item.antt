-- Items (document 01: "An item is an index with a tag") and how they rank.
use Rattle.std.specs.Prelude.{suc, Bool, ◌&&◌, eqb}
use Rattle.item.specs.declared.Tag.{Tag}
use Rattle.item.specs.declared.Item.{Item}
use Rattle.item.specs.Counter.{index_below}

-- "index 0, tag 0": the item of a node that has settled nothing
abbrev pub zero_item : Item
zero_item = record { index = record { 0 = 0 }; tag = record { 0 = 0 } }

-- the item of the index one above, with this tag
abbrev pub item_above : Item → Tag → Item
item_above last tag = record { index = record { 0 = suc last.index.0 }; tag = tag }

-- two tags agree exactly if they are equal
unfoldable pub tags_agree : Tag → Tag → Bool
tags_agree t u = eqb t.0 u.0

-- items rank by their index
unfoldable pub ranks_below : Item → Item → Bool
ranks_below i j = index_below i.index j.index

-- "same item": the same index with the same tag
unfoldable pub same_item : Item → Item → Bool
same_item i j = eqb i.index.0 j.index.0 && tags_agree i.tag j.tag
