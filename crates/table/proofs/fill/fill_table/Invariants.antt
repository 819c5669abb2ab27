-- The nodes before `i` are set up, the others as they were.
use Rattle.std.proofs.Common.{◌≡◌}
use Rattle.table.specs.Fill.{fresh_to}
use Rattle.table.proofs.fill.fill_table.Given as goal

abbrev pub invariant-loop-i : goal.invariant-loop-i
invariant-loop-i l = l.table ≡ fresh_to l.n l.initial.table l.i
