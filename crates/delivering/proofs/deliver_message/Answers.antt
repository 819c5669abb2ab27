-- `delivering::deliver_message` meets its contract: no message, a refusal, what is decided by what is seen of the node, or a Table.
use Rattle.std.specs.Prelude.{◌≡◌, Err}
use Rattle.event.proofs.Laws.{given, carried_err, delivered_none, delivered_some}
use Rattle.event.specs.Act.{Outcome, Gives}
use Rattle.record.specs.Layout.{record_of, rows_of}
use Rattle.protocol.specs.Deliver.{deliver_step}
use Rattle.engine.specs.Decided.{decided_step}
use Rattle.engine.proofs.Agree.{found_agrees}
use borrow.Author.Rules.{rules}
use mathlib.Core.Path.{refl, sym, subst, ◌∙◌}
use Rattle.delivering.proofs.deliver_message.Goals as goal

pub returns-in_default : goal.returns-in_default
returns-in_default c = let a = c.args in given (delivered_none a.node.now a.s.now a.r a.free c.in_default.is)

pub returns-in_err-decision : goal.returns-in_err-decision
unfolding decided_step deliver_step
returns-in_err-decision c =
    let a = c.args in
    let found = c.in-Some.envelope in
    let rows = rows_of (record_of a.s.now a.r) in
    let decided = found_agrees found.message a.node.now found.sender found.incarnation rows _ _ c.view_of-view.ensures c.decide.ensures in
    let e = given (delivered_some a.node.now a.s.now a.r a.free (deliver_step a.node.now found rows) c.in-Some.is refl
    ∙ carried_err a.node.now a.s.now a.free found.sender _ (rw c.in_err-decision.was at decided)) in
    let r : c.from_residual.result ≡ Err c.in_err-decision.field-0.0 = search rules in
    (rw r e.0, e.1, e.2)

pub returns-in-Change : goal.returns-in-Change
unfolding decided_step deliver_step
returns-in-Change c =
    let a = c.args in
    let found = c.in-Some.envelope in
    let rows = rows_of (record_of a.s.now a.r) in
    let decided = found_agrees found.message a.node.now found.sender found.incarnation rows _ _ c.view_of-view.ensures c.decide.ensures in
    let e = delivered_some a.node.now a.s.now a.r a.free _ c.in-Some.is (rw c.in-Change.is at (rw c.in_ok-decision.was at decided)) in
    let d = c.carry_decision in
    subst (λ (o : Outcome). Gives o d.result d.new.node d.new.s) (sym e) d.ensures

pub returns-in-Table : goal.returns-in-Table
unfolding decided_step deliver_step
returns-in-Table c =
    let a = c.args in
    let found = c.in-Some.envelope in
    let rows = rows_of (record_of a.s.now a.r) in
    let decided = found_agrees found.message a.node.now found.sender found.incarnation rows _ _ c.view_of-view.ensures c.decide.ensures in
    let e = delivered_some a.node.now a.s.now a.r a.free _ c.in-Some.is (rw c.in-Table.is at (rw c.in_ok-decision.was at decided)) in
    let d = c.deliver_table in
    subst (λ (o : Outcome). Gives o d.result d.new.node d.new.s) (sym e) d.ensures
