-- `record_words::put::put` meets its contract: two parts that meet are all.
use native.Mathlib.Omega.{arith}
use Rattle.record.specs.Layout.{rows_of}
use Rattle.record_read.proofs.Reading.{length_rows}
use Rattle.record_words.proofs.NumberLaws.{with_all_numbers}
use Rattle.record_words.proofs.put.put.Goals as goal

pub returns : goal.returns
returns c =
    let a = c.args in
    let r = a.r.now in
    rw (c.put_rows.ensures, c.put_fields.ensures) (with_all_numbers a.numbers.now a.next a.fields (rows_of r) (omega arith) (length_rows r))
