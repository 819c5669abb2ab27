-- The library's text of a number is the definition's (`decimal_is`).
use Rattle.script.proofs.Writing.{decimal_is}
use Rattle.answers.proofs.put_number.Goals as goal

pub returns : goal.returns
returns c =
    let w = c.put_text.ensures in
    record {
      begins = rw (decimal_is c.args.v c.ranges.v.fits, ← c.format.ensures.text, ← c.as_bytes.ensures.value) w.begins;
      whole = rw (decimal_is c.args.v c.ranges.v.fits, ← c.format.ensures.text, ← c.as_bytes.ensures.value) w.whole;
    }
