-- `engine::deliver` meets its contract: a refusal, or what is decided by what is seen of the node or by the whole node.
use borrow.Author.Rules.{rules}
use mathlib.Core.Path.{◌≡◌, ◌∙◌}
use Rattle.std.specs.Prelude.{Err}
use Rattle.protocol.specs.Answer.{step_after}
use Rattle.protocol.specs.Deliver.{deliver_step}
use Rattle.engine.specs.Decided.{decided_step}
use Rattle.engine.proofs.Agree.{found_agrees}
use Rattle.engine.proofs.deliver.Goals as goal

pub returns-in_err-decision : goal.returns-in_err-decision
unfolding step_after decided_step deliver_step
returns-in_err-decision c =
    let a = c.args in
    let e = found_agrees a.envelope.message a.node a.envelope.sender a.envelope.incarnation a.items _ _ c.view_of-view.ensures c.decide.ensures in
    let r : c.from_residual.result ≡ Err c.in_err-decision.field-0.0 = search rules in
    rw r (rw c.in_err-decision.was at e)

pub returns-in-Change : goal.returns-in-Change
unfolding step_after decided_step deliver_step
returns-in-Change c =
    let a = c.args in
    let e = found_agrees a.envelope.message a.node a.envelope.sender a.envelope.incarnation a.items _ _ c.view_of-view.ensures c.decide.ensures in
    c.step_of.ensures ∙ (rw c.in-Change.is at (rw c.in_ok-decision.was at e))

pub returns-in-Table : goal.returns-in-Table
unfolding step_after decided_step deliver_step
returns-in-Table c =
    let a = c.args in
    let e = found_agrees a.envelope.message a.node a.envelope.sender a.envelope.incarnation a.items _ _ c.view_of-view.ensures c.decide.ensures in
    c.on_table.ensures ∙ (rw c.in-Table.is at (rw c.in_ok-decision.was at e))
