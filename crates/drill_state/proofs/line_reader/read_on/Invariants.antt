-- `drill_state::line_reader::read_on` meets its contract. The invariant: what was reached at the start and holds there holds here, whatever
-- nodes and store are held; a byte, a line that is unread and one that asks something keep it.
use Prim.Native.Nat.{◌-◌, ◌<◌, ◌^◌}
use lib.ListN.{length}
use Rattle.drill_state.proofs.Laws.{Kept}
use Rattle.drill_state.proofs.line_reader.read_on.Given as goal

abbrev pub invariant-loop-here : goal.invariant-loop-here
invariant-loop-here l = (l.here.count < 2 ^ 64) × Kept l.piece l.initial.out l.fn.from l.out l.here

abbrev pub decreases-loop-here : goal.decreases-loop-here
decreases-loop-here l = length l.piece - l.here.next
