use Rattle.drill_run.proofs.Turns.{nearer, turned}
use Rattle.drill_run.proofs.lines.take_lines.Goals as goal

pub loop-position-init : goal.loop-position-init
loop-position-init c = λ before sb so stops. (so, stops)

pub loop-position-smaller : goal.loop-position-smaller
loop-position-smaller c =
    nearer c.args.piece.now c.next_line-position.new.out c.loop-position.position c.next_line-position.result c.in-Some.asked c.in-Some.is
    c.next_line-position.ensures.onward

pub loop-position-preserved : goal.loop-position-preserved
loop-position-preserved c =
    let l = c.loop-position in
    let a = c.args in
    turned a.piece.now a.out.now a.first a.nodes.now a.store.now l.out l.position l.nodes l.store l.invariant c.in-Some.asked c.in-Some.is
    c.operate_first-answer.result c.operate_first-answer.new.nodes c.operate_first-answer.new.store c.operate_first-answer.ensures
    c.next_line-position.new.out c.next_line-position.result c.next_line-position.ensures

pub returns : goal.returns
returns c = (c.in_default.is, c.loop-position.invariant)
