-- `act::on_sound` meets its contract: an arm for each event.
use Rattle.event.proofs.Laws.{sound_write, sound_retry, sound_crash, sound_start, sound_drop, sound_deliver, dropped_node}
use Rattle.event.specs.Act.{Gives, Outcome}
use mathlib.Core.Path.{sym, ap, subst, ◌∙◌}
use Rattle.act.proofs.on_sound.Goals as goal

pub returns-in-Write : goal.returns-in-Write
returns-in-Write c =
    let a = c.args in
    let d = c.at_node in
    subst (λ (o : Outcome). Gives o d.result d.new.node d.new.s) (sym (sound_write a.node.now a.s.now a.seen a.reading _ c.in-Write.is c.write.ensures)) d.ensures

pub returns-in-Retry : goal.returns-in-Retry
returns-in-Retry c =
    let a = c.args in
    let d = c.at_node-in-Retry in
    subst (λ (o : Outcome). Gives o d.result d.new.node d.new.s) (sym (sound_retry a.node.now a.s.now a.seen a.reading _ c.in-Retry.is c.retry.ensures)) d.ensures

pub returns-in-Crash : goal.returns-in-Crash
returns-in-Crash c =
    let a = c.args in
    let d = c.at_node-in-Crash in
    subst (λ (o : Outcome). Gives o d.result d.new.node d.new.s) (sym (sound_crash a.node.now a.s.now a.seen a.reading _ c.in-Crash.is c.crash.ensures)) d.ensures

pub returns-in-Start : goal.returns-in-Start
returns-in-Start c =
    let a = c.args in
    let d = c.at_node-in-Start in
    subst (λ (o : Outcome). Gives o d.result d.new.node d.new.s) (sym (sound_start a.node.now a.s.now a.seen a.reading _ c.in-Start.is c.start.ensures)) d.ensures

pub returns-in-Drop : goal.returns-in-Drop
returns-in-Drop c =
    let a = c.args in
    let number = c.in-Drop.«record» in
    let e = sym (sound_drop a.node.now a.s.now a.seen a.reading c.in-Drop.is) in
    let d = c.drop_message.ensures a.node.now in (
      d.0 ∙ ap (λ (o : Outcome). o.answer) e,
      sym (dropped_node a.reading a.node.now a.s.now number) ∙ ap (λ (o : Outcome). o.node) e,
      d.1 ∙ ap (λ (o : Outcome). o.store) e,
    )

pub returns-in-Deliver : goal.returns-in-Deliver
returns-in-Deliver c =
    let a = c.args in
    let d = c.deliver_message in
    subst (λ (o : Outcome). Gives o d.result d.new.node d.new.s) (sym (sound_deliver a.node.now a.s.now a.seen a.reading c.in-Deliver.is)) d.ensures
