-- `group::preparing::prepare` meets its contract.
use Rattle.group.proofs.SetUpLaws.{size_wrong, nodes_wrong, length_wrong, all_right}
use mathlib.Core.Path.{sym}
use Rattle.group.proofs.preparing.prepare.Goals as goal

pub returns-then-not-valid_size : goal.returns-then-not-valid_size
returns-then-not-valid_size c = let a = c.args in size_wrong a.n a.nodes a.s.now (sym c.if-not-valid_size.ensures)

pub returns-then-nodes-n : goal.returns-then-nodes-n
returns-then-nodes-n c = let a = c.args in nodes_wrong a.n a.nodes a.s.now (sym c.if-not-valid_size.ensures) c.if-nodes-n.true

pub returns-then-s-ne-LENGTH : goal.returns-then-s-ne-LENGTH
returns-then-s-ne-LENGTH c = let a = c.args in length_wrong a.n a.nodes a.s.now (sym c.if-not-valid_size.ensures) c.if-nodes-n.false c.if-s-ne-LENGTH.true

pub returns : goal.returns
returns c = let a = c.args in all_right a.n a.nodes a.s.now _ (sym c.if-not-valid_size.ensures) c.if-nodes-n.false c.if-s-ne-LENGTH.false c.set_up.ensures
