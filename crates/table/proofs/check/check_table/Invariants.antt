-- The nodes before `i` are checked: `ok` says whether the table has n nodes and those are sound.
use Rattle.std.proofs.Common.{◌≡◌}
use Rattle.table.proofs.CheckLaws.{sound_to}
use Rattle.table.proofs.check.check_table.Given as goal

abbrev pub invariant-loop-i : goal.invariant-loop-i
invariant-loop-i l = l.ok ≡ sound_to l.n l.table l.i
