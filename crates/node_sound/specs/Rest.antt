-- When a node is at rest: no row is marked, and nobody is counted or asked. And when no row from n on has a number but 0.
use Rattle.std.specs.Prelude.{ℕ, Bool, not, ◌&&◌, List, drop, bit_or}
use Rattle.std.specs.List.{list_all}
use Rattle.item.specs.Counter.{same_incarnation, same_attempt}
use Rattle.item.specs.Item.{zero_item, same_item}
use Rattle.item.specs.declared.Row.{Row}
use Rattle.protocol.specs.declared.Node.{Node}
use Rattle.protocol.specs.declared.Peer.{Peer}

abbrev pub unmarked : Row → Bool
unmarked row = not row.marked

-- neither counted nor asked, "unused fields zero"
abbrev pub absent : Peer → Bool
absent peer = not peer.present && same_incarnation peer.incarnation (record { 0 = 0 })

unfoldable pub at_rest : Node → Bool
at_rest node = (list_all unmarked node.rows && list_all absent node.counted) && list_all absent node.asked

-- every field of a row is zero but for its mark, which is not looked at
unfoldable pub numbers_zero : Row → Bool
numbers_zero row =
    same_item row.item zero_item &&
    (same_incarnation row.incarnation (record { 0 = 0 }) && same_attempt row.attempt (record { 0 = 0 }))

-- the bits that stand in the numbers of a row, joined
abbrev pub row_bits : Row → ℕ
row_bits row = bit_or (bit_or (bit_or row.item.index.0 row.item.tag.0) row.incarnation.0) row.attempt.0

-- "rows from n on" are zero, as far as their numbers go
unfoldable pub unused_zero : ℕ → List Row → Bool
unused_zero n rows = list_all numbers_zero (drop n rows)
