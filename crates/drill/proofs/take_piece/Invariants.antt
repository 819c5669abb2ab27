use Rattle.std.proofs.Common.{length, ◌-◌, ◌≤◌, ◌≡◌}
use Rattle.drill_run.proofs.Whole.{TakenTo}
use Rattle.drill.proofs.take_piece.Given as goal

abbrev pub invariant-loop-from : goal.invariant-loop-from
invariant-loop-from g l =
    (l.from ≤ length l.piece) × (length l.store ≡ length l.fn.store) × (length l.out ≡ length l.fn.out) × TakenTo l.piece l.fn.progress l.fn.store l.from l.progress l.store

abbrev pub decreases-loop-from : goal.decreases-loop-from
decreases-loop-from g l = length l.piece - l.from
