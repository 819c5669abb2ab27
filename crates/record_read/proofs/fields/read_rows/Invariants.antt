-- `record_read::fields::read_rows` meets its contract. The invariant: the items before place j are the record's rows.
use Rattle.record.specs.Layout.{rows_of}
use Rattle.record_read.proofs.Reading.{RowsRead}
use Rattle.record_read.proofs.fields.read_rows.Given as goal

abbrev pub invariant-loop-j : goal.invariant-loop-j
invariant-loop-j l = RowsRead (rows_of l.r) l.j l.row-items
