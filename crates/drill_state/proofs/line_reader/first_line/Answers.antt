-- `drill_state::line_reader::first_line`: a piece begins at rest.
use Rattle.drill_state.specs.Position.{resting_at, nothing_asked}
use Rattle.drill_state.proofs.Laws.{begins}
use Rattle.drill_state.proofs.line_reader.first_line.Goals as goal

pub returns : goal.returns
unfolding resting_at nothing_asked
returns c =
    let r = c.read_on.ensures in
    (λ store. r.reached _ store _ store (begins _ _ store _), r.onward)
