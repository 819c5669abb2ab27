-- `record_words::write_record` meets its contract: each way out by one law of `RecordLaws`.
use native.Mathlib.Omega.{arith}
use Rattle.record_words.proofs.NumberLaws.{stated_short}
use Rattle.record_words.proofs.RecordLaws.{write_none, write_refused, write_stated}
use Rattle.record_words.proofs.write_record.Goals as goal

pub returns-in_default : goal.returns-in_default
returns-in_default c = let a = c.args in let h = c.in_default.ensures in write_none a.bytes.now a.«record» a.n a.numbers.now (omega arith)

pub returns-in_default-try_from : goal.returns-in_default-try_from
returns-in_default-try_from c =
    let a = c.args in
    write_refused a.bytes.now a.«record» a.n a.numbers.now c.in-Some.ensures.0 (stated_short a.n a.numbers.now c.in_default-try_from.ensures.1)

pub returns-in_default-stated : goal.returns-in_default-stated
returns-in_default-stated c =
    let a = c.args in
    rw (← c.in-Ok.ensures.1.same) (write_refused a.bytes.now a.«record» a.n c.in-Ok.numbers.now c.in-Some.ensures.0 c.in_default-stated.ensures)

pub returns : goal.returns
returns c =
    let a = c.args in
    let m = c.in-Some-stated.ensures in
    rw (← c.in-Ok.ensures.1.same)
    (write_stated a.bytes.now a.«record» a.n c.in-Ok.numbers.now _ _ _ _ c.in-Some.a c.in-Some.ensures m.0 m.1 m.2 c.rows_in.ensures c.write_record.ensures)
