-- `record_words::put::put_fields` meets its contract: numbers stored one after the other are a part.
use native.Mathlib.Omega.{arith}
use Rattle.endian.proofs.PartLaws.{sets_is}
use Rattle.record_words.specs.Numbers.{field_numbers}
use Rattle.record_words.proofs.put.put_fields.Goals as goal

pub returns : goal.returns
unfolding field_numbers
returns c =
    let a = c.args in
    rw (c.from.ensures, c.from-2.ensures, c.from-3.ensures, c.from-4.ensures, c.from-5.ensures)
    (sets_is (field_numbers a.next a.fields) a.numbers.now 0 (omega arith))
