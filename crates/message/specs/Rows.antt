-- The rows beside a message (document 01): "Only Table has rows: n of them, then zeros."
use Rattle.std.specs.Prelude.{ℕ, zero, suc, min, List, [], ◌∷◌, take}
use Rattle.item.specs.Item.{zero_item}
use Rattle.item.specs.Maxima.{max_nodes}
use Rattle.item.specs.declared.Item.{Item}
use Rattle.message.specs.declared.Message.{Message}
use Rattle.message.specs.declared.Message.TheVariants.{Store, Stored, Confirm, Confirmed, Fetch, Table}

-- "Only Table has rows: n of them"
unfoldable pub rows_held : Message → ℕ → ℕ
rows_held (Store attempt item) n = 0
rows_held (Stored other attempt item) n = 0
rows_held (Confirm other attempt item) n = 0
rows_held (Confirmed other attempt item) n = 0
rows_held Fetch n = 0
rows_held (Table other) n = min n max_nodes

-- m items: those of the list, and then zero items
unfoldable pub padded : ℕ → List Item → List Item
padded zero items = []
padded (suc m) [] = zero_item ∷ padded m []
padded (suc m) (i ∷ items) = i ∷ padded m items

-- the rows beside a message: "n of them, then zeros"
unfoldable pub held_rows : Message → ℕ → List Item → List Item
held_rows m n rows = padded max_nodes (take (rows_held m n) rows)
