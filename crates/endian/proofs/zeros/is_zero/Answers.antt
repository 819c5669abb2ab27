-- Or is 0 exactly if both are (`or_zero`), so each turn is `zero_more`.
use Rattle.std.proofs.Common.{arith}
use Rattle.endian.proofs.ZeroLaws.{zero_more}
use Rattle.endian.proofs.zeros.is_zero.Goals as goal

pub loop-b-preserved : goal.loop-b-preserved
loop-b-preserved c = zero_more c.args.s.now c.loop-b.b-index c.loop-b.joined (omega arith) c.loop-b.invariant
