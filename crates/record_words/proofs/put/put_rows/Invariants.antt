-- `record_words::put::put_rows` meets its contract. The invariant: the rows passed are written, by `with_row_read`.
use Prim.Native.Nat.{◌*◌}
use mathlib.Core.Path.{◌≡◌}
use lib.ListN.{take}
use Rattle.endian.specs.Part.{with_part}
use Rattle.record.specs.Layout.{rows_of}
use Rattle.record_words.specs.Numbers.{rows_first, row_numbers}
use Rattle.record_words.proofs.put.put_rows.Given as goal

abbrev pub invariant-loop-j : goal.invariant-loop-j
invariant-loop-j l = l.numbers ≡ with_part (2 * l.j) l.initial.numbers rows_first (row_numbers (take l.j (rows_of l.r)))
