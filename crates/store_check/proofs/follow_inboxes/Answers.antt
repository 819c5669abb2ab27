use Rattle.std.proofs.Common.{◌+◌, ◌-◌, Some, sym, ◌∙◌, arith}
use Rattle.store.specs.Records.{records_of}
use Rattle.store.specs.Chain.{walked}
use Rattle.store_check.proofs.Passing.{inboxes_stop, inboxes_out, inboxes_turn}
use Rattle.store_check.proofs.follow_inboxes.Goals as goal

pub returns-in_err-last : goal.returns-in_err-last
returns-in_err-last c =
    let a = c.args in
    let l = c.loop-k in
    rw c.from_residual.ensures
    (sym (inboxes_stop (a.n - (l.k + 1)) a.n (records_of a.s.now) (l.k + 1))
    ∙ sym (inboxes_turn a.n a.s.now l.k c.first_of.result l.passed l.last _ c.loop-k-test.true c.first_of.ensures c.in_err-last.ensures)
    ∙ l.invariant)

pub loop-k-preserved : goal.loop-k-preserved
loop-k-preserved c =
    let a = c.args in
    let l = c.loop-k in
    sym (inboxes_turn a.n a.s.now l.k c.first_of.result l.passed l.last _ c.loop-k-test.true c.first_of.ensures c.in_ok-last.ensures) ∙ l.invariant

pub returns : goal.returns
returns c =
    let a = c.args in
    let l = c.loop-k in
    sym (inboxes_out (a.n - l.k) a.n (records_of a.s.now) l.k (Some (walked l.passed l.last)) (omega arith)) ∙ l.invariant
