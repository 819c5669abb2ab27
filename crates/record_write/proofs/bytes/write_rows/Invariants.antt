-- `record_write::bytes::write_rows` meets its contract. The invariant: the rows passed are written, by `with_rows_more`.
use Rattle.record.specs.Layout.{rows_at, row_size, rows_bytes}
use Rattle.endian.specs.Part.{with_part}
use lib.ListN.{take}
use mathlib.Core.Path.{◌≡◌}
use Prim.Native.Nat.{◌*◌}
use Rattle.record_write.proofs.bytes.write_rows.Given as goal

abbrev pub invariant-loop-j : goal.invariant-loop-j
invariant-loop-j l = l.r ≡ with_part (l.j * row_size) l.initial.r rows_at (rows_bytes (take l.j l.row-items))
