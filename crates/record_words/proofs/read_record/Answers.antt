-- `record_words::read_record` meets its contract: each way out by one law of `RecordLaws`.
use Rattle.record_words.proofs.RecordLaws.{read_short, read_none, read_lent}
use Rattle.record_words.proofs.read_record.Goals as goal

pub returns-in_default : goal.returns-in_default
returns-in_default c = let a = c.args in read_short a.bytes.now a.«record» a.n a.numbers.now c.in_default.ensures.cases

pub returns-in_default-record_at : goal.returns-in_default-record_at
returns-in_default-record_at c =
    let a = c.args in rw c.in-Some.ensures.cases.same (read_none a.bytes.now a.«record» a.n a.numbers.now c.in_default-record_at.ensures)

pub returns : goal.returns
returns c =
    let a = c.args in
    let whole = c.in-Some.ensures.cases in
    let e = c.read_numbers.ensures in
    read_lent a.bytes.now a.«record» a.n a.numbers.now whole.long _ c.in-Some-record_at.ensures.0 _ _ e.0 (rw whole.same at e.1)
