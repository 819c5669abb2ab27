-- `node_sound::node_sound` meets its contract: of a node that is Up, Idle and at rest the rows from n on are left to look at.
use mathlib.Core.Path.{sym, ◌∙◌}
use Rattle.node_sound.proofs.Resting.{rest_sound, rest_unused}
use Rattle.node.proofs.Answered.{answered}
use Rattle.node_sound.proofs.node_sound.Goals as goal

pub returns-then-is_at_rest : goal.returns-then-is_at_rest
returns-then-is_at_rest c =
    let a = c.args in
    let node = a.node.now in
    let rest = answered c.is_at_rest.ensures c.if-is_at_rest.true in
    let idle = answered c.is_up_idle.ensures c.if-is_up_idle.true in
    c.unused_zero.ensures
    ∙ sym
    (rest_sound node rest a.n idle a.place c.if-node-place.false c.if-node-n.false
    ∙ rest_unused node rest a.n idle)
