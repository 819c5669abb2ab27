-- `delivering::deliver_table` meets its contract: the rows are those of the record, and what is decided of them is carried out.
use Rattle.std.specs.Prelude.{◌≡◌, Err}
use Rattle.event.proofs.Laws.{given, carried_err}
use Rattle.event.specs.Act.{Gives, carried_out}
use Rattle.protocol.specs.Answer.{step_after}
use Rattle.protocol.specs.Fetching.{on_table}
use Rattle.protocol.specs.declared.Step.{Step}
use borrow.Author.Rules.{rules}
use mathlib.Core.Path.{ap, subst, ◌∙◌}
use Rattle.delivering.proofs.deliver_table.Goals as goal

pub returns-in_err-step : goal.returns-in_err-step
unfolding step_after
returns-in_err-step c =
    let a = c.args in
    let e = given (carried_err a.node.now a.s.now a.free a.sender _ (rw c.rows-items.ensures at c.in_err-step.ensures)) in
    let r : c.from_residual.result ≡ Err c.in_err-step.field-0.0 = search rules in
    (rw r e.0, e.1, e.2)

pub returns : goal.returns
unfolding step_after
returns c =
    let a = c.args in
    let d = c.carry_out in
    subst (λ (step : Step). Gives (carried_out a.node.now a.s.now a.free a.sender step) d.result d.new.node d.new.s)
    (c.in_ok-step.ensures ∙ ap (on_table a.node.now a.sender a.incarnation a.other) c.rows-items.ensures)
    d.ensures
