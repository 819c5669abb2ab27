-- `drill_run::lines::take_lines` meets its contract. The invariant: what was reached before the loop leads to what is reached here,
-- with the nodes, the store and the bytes printed as they are here.
use Rattle.drill_run.specs.Taking.{Takes}
use Rattle.drill_run.proofs.Turns.{left}
use Rattle.drill_run.proofs.lines.take_lines.Given as goal

abbrev pub invariant-loop-position : goal.invariant-loop-position
invariant-loop-position l =
    Takes l.piece l.initial.out l.initial.position l.initial.nodes l.initial.store l.out l.position l.nodes l.store

abbrev pub decreases-loop-position : goal.decreases-loop-position
decreases-loop-position l = left l.piece l.position
