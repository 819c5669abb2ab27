use native.Mathlib.Omega.{arith}
use mathlib.Core.Path.{sym, ◌∙◌}
use Rattle.record_read.proofs.Reading.{row_read, rows_read}
use Rattle.record_words.specs.Numbers.{rows_from}
use Rattle.record_words.proofs.NumberLaws.{length_rows_from, row_from}
use Rattle.record_words.proofs.rows.rows_in.Goals as goal

pub loop-j-preserved : goal.loop-j-preserved
loop-j-preserved c =
    let l = c.loop-j in
    let ns = c.args.numbers.now in
    row_read (rows_from ns) (length_rows_from ns) l.j l.row-items l.invariant (omega arith) (c.item_in.ensures ∙ sym (row_from ns l.j (omega arith)))

pub returns : goal.returns
returns c =
    let l = c.loop-j in
    let ns = c.args.numbers.now in
    rows_read (rows_from ns) (length_rows_from ns) l.j l.row-items l.invariant (omega arith)
