-- The first nodes are lent as the table to the group's `set_up`, or to its `perform`, and come back before the others.
use Rattle.on_first_nodes.proofs.First.{set_up_gives, call_gives}
use Rattle.on_first_nodes.proofs.operate_first.Goals as goal

pub returns-in-SetUp : goal.returns-in-SetUp
returns-in-SetUp c =
    let a = c.args in
    set_up_gives a.asked a.nodes.now a.store.now _ _ _ _ _ c.in-SetUp.is c.first_nodes.ensures.value c.set_up.ensures

pub returns-in-Call : goal.returns-in-Call
returns-in-Call c =
    let a = c.args in
    call_gives a.asked a.nodes.now a.store.now _ _ _ _ _ _ c.in-Call.is c.first_nodes-in-Call.ensures.value c.perform.ensures
