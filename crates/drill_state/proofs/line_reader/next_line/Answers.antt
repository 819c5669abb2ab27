-- `drill_state::line_reader::next_line`: what was asked is answered, and the reading goes on from there.
use Rattle.drill_state.specs.Position.{resting_at, nothing_asked}
use Rattle.drill_state.proofs.Laws.{answers}
use Rattle.drill_state.proofs.line_reader.next_line.Goals as goal

pub returns : goal.returns
unfolding resting_at nothing_asked
returns c =
    let a = c.args in
    let r = c.read_on.ensures in
    record {
      reached = λ asked t before sb nodes store e so.
          r.reached before sb _ _ (rw c.size_then-n.ensures (answers _ before sb nodes store _ a.position asked t a.answer e _ _ c.print_line-at.ensures so));
      onward = r.onward;
    }
