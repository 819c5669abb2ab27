-- Or is 0 exactly if both are (`or_zero`), so each turn is `zero_more`.
use Rattle.std.proofs.Common.{arith}
use Rattle.endian.proofs.ZeroLaws.{zero_more}
use Rattle.record_words.proofs.fields.is_zero.Goals as goal

pub loop-x-preserved : goal.loop-x-preserved
loop-x-preserved c = zero_more c.args.numbers.now c.loop-x.x-index c.loop-x.joined (omega arith) c.loop-x.invariant
