-- `drill_run::feed`: the piece begins where the drill stands, and its lines are taken from there.
use native.Mathlib.Omega.{arith}
use Rattle.drill_run.proofs.feed.Goals as goal

pub returns : goal.returns
returns c =
    let f = c.first_line-first.ensures in
    c.lend_nodes.ensures _ _ (f.0 _) (λ rests. f.1.ended rests (omega arith))
