-- `record_words::rows::rows_in` meets its contract. The invariant: the items before place j are the rows of the numbers.
use Rattle.record_read.proofs.Reading.{RowsRead}
use Rattle.record_words.specs.Numbers.{rows_from}
use Rattle.record_words.proofs.rows.rows_in.Given as goal

abbrev pub invariant-loop-j : goal.invariant-loop-j
invariant-loop-j l = RowsRead (rows_from l.numbers) l.j l.row-items
