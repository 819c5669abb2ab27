-- `event::commit::carry_out` meets its contract.
use Rattle.event.proofs.Laws.{given, carried_refused, carried_full, carried_sent}
use native.Mathlib.Omega.{arith}
use mathlib.Core.Path.{◌∙◌}
use Rattle.event.proofs.commit.carry_out.Goals as goal

pub returns-in-Refused : goal.returns-in-Refused
returns-in-Refused c = let a = c.args in given (carried_refused a.node.now a.s.now a.free a.back a.step c.in-Refused.is)

pub returns-then-free-count : goal.returns-then-free-count
returns-then-free-count c =
    let a = c.args in
    given (carried_full a.node.now a.s.now a.free a.back a.step c.in_default.not-Refused (omega (arith, c.if-free-count.true, c.count.ensures)))

pub returns : goal.returns
returns c =
    let a = c.args in
    let e = given (carried_sent a.node.now a.s.now a.free a.back a.step c.in_default.not-Refused (omega (arith, c.if-free-count.false, c.count.ensures))) in
    (e.0, e.1, c.put_into.ensures ∙ e.2)
