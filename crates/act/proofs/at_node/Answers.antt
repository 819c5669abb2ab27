-- `act::at_node` meets its contract.
use Rattle.std.specs.Prelude.{◌≡◌, Err}
use Rattle.event.proofs.Laws.{given, at_none, at_some, carried_err}
use Rattle.event.specs.Act.{Gives, carried_out, Outcome}
use Rattle.protocol.specs.Answer.{step_after}
use borrow.Author.Rules.{rules}
use native.Mathlib.Omega.{arith}
use mathlib.Core.Path.{sym, ap, subst, ◌∙◌}
use Rattle.act.proofs.at_node.Goals as goal

pub returns-then-seen-k : goal.returns-then-seen-k
returns-then-seen-k c = let a = c.args in given (at_none a.node.now a.s.now a.seen a.k _ c.if-seen-k.true)

pub returns-in_err-step : goal.returns-in_err-step
unfolding step_after
returns-in_err-step c =
    let a = c.args in
    let e = given (at_some a.node.now a.s.now a.seen a.k (step_after a.node.now a.decision) (omega (arith, c.if-seen-k.false))
    ∙ carried_err a.node.now a.s.now a.seen.free a.k _ (sym (ap (step_after a.node.now) c.in_err-step.was))) in
    let r : c.from_residual.result ≡ Err c.in_err-step.field-0.0 = search rules in
    (rw r e.0, e.1, e.2)

pub returns : goal.returns
unfolding step_after
returns c =
    let a = c.args in
    let d = c.carry_out in
    let e = at_some a.node.now a.s.now a.seen a.k (step_after a.node.now a.decision) (omega (arith, c.if-seen-k.false))
    ∙ ap (carried_out a.node.now a.s.now a.seen.free a.k) (ap (step_after a.node.now) c.in_ok-step.was) in
    subst (λ (o : Outcome). Gives o d.result d.new.node d.new.s) (sym e) d.ensures
