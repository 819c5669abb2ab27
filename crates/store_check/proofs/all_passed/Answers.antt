use Rattle.store_check.proofs.Passing.{passed_more}
use Rattle.store_check.proofs.all_passed.Goals as goal

pub loop-p-preserved : goal.loop-p-preserved
loop-p-preserved c = let l = c.loop-p in passed_more c.args.passed.now l.p-index l.all c.loop-p-test.true l.invariant
