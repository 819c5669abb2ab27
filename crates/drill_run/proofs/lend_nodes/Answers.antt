-- `drill_run::lend_nodes` meets its contract: the nodes are lent to the lines, and where they end the piece was taken.
use Rattle.drill_run.proofs.Ending.{fed_feeds}
use Rattle.drill_run.proofs.lend_nodes.Goals as goal

pub returns : goal.returns
returns c =
    let a = c.args in
    let t = c.take_lines-last in
    fed_feeds a.piece.now a.out.now a.first a.nodes a.store.now t.new.out t.result t.new.nodes t.new.store t.ensures c.fed.result c.fed.ensures
