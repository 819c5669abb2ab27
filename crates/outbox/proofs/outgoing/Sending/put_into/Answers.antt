use mathlib.Core.Path.{refl, sym, ◌∙◌}
use native.Mathlib.Omega.{arith}
use Rattle.store.specs.Records.{on_records}
use Rattle.store.specs.Change.{put_each}
use Rattle.protocol.specs.Outgoing.{outgoing}
use Rattle.outbox.proofs.Places.{left_cons, left_none}
use Rattle.outbox.proofs.Each.{put_turn, put_end}
use Rattle.outbox.proofs.outgoing.Sending.put_into.Goals as goal

pub loop-k-init : goal.loop-k-init
unfolding outgoing
loop-k-init c = refl

pub loop-k-preserved : goal.loop-k-preserved
loop-k-preserved c =
    let l = c.loop-k in
    let a = c.args in
    sym (put_turn l.s c.row_items-items.result _ _ _ (left_cons a.self.now.node.now a.self.now.sends a.self.now.back l.k (omega arith)) c.put_one.ensures) ∙ l.invariant

pub returns : goal.returns
returns c =
    let l = c.loop-k in
    let a = c.args in
    let r = c.row_items-items in
    sym (put_end l.s r.result (left_none a.self.now.node.now a.self.now.sends a.self.now.back l.k (omega arith)))
    ∙ l.invariant
    ∙ (λ j. on_records (λ rs. put_each rs (outgoing a.self.now.node.now a.self.now.sends a.self.now.back) (r.ensures j)) a.s.now)
