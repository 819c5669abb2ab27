-- Rows: what a node keeps of each writer.
use Rattle.std.specs.Prelude.{Bool, false, ◌&&◌}
use Rattle.std.specs.Bool.{beq}
use Rattle.item.specs.declared.Row.{Row}
use Rattle.item.specs.Counter.{same_incarnation, same_attempt}
use Rattle.item.specs.Item.{zero_item, same_item}

-- "(0, 0 if set up or rebuilt)": the row of a writer of whom nothing is known
abbrev pub zero_row : Row
zero_row = record { item = zero_item; incarnation = record { 0 = 0 }; attempt = record { 0 = 0 }; marked = false }

-- the rows are equal in every field
unfoldable pub same_row : Row → Row → Bool
same_row r s =
    same_item r.item s.item &&
    (same_incarnation r.incarnation s.incarnation &&
    (same_attempt r.attempt s.attempt &&
    beq r.marked s.marked))
