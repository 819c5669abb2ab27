use mathlib.Core.Path.{sym, ◌∙◌}
use native.Mathlib.Omega.{arith}
use Rattle.record.specs.Layout.{rows_of}
use Rattle.record_read.proofs.Reading.{row_read, rows_read, length_rows, row_at}
use Rattle.record_read.proofs.fields.read_rows.Goals as goal

pub loop-j-preserved : goal.loop-j-preserved
loop-j-preserved c =
    let l = c.loop-j in
    let r = c.args.r.now in
    row_read (rows_of r) (length_rows r) l.j l.row-items l.invariant (omega arith) (c.read_item.ensures ∙ sym (row_at r l.j (omega arith)))

pub returns : goal.returns
returns c =
    let l = c.loop-j in
    let r = c.args.r.now in
    rows_read (rows_of r) (length_rows r) l.j l.row-items l.invariant (omega arith)
