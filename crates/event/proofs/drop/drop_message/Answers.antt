-- `event::drop::drop_message` meets its contract.
use Rattle.event.proofs.Laws.{given, dropped_none, dropped_some}
use mathlib.Core.Path.{◌∙◌}
use Rattle.event.proofs.drop.drop_message.Goals as goal

pub returns-in_default : goal.returns-in_default
returns-in_default c node =
    let a = c.args in
    let e = given (dropped_none node a.s.now a.r c.in_default.is) in
    (e.0, e.2)

pub returns : goal.returns
returns c node =
    let a = c.args in
    let e = given (dropped_some node a.s.now a.r c.in-Some.is) in
    (e.0, c.drop_message.ensures ∙ e.2)
