-- `store_check::head_zero` meets its contract: the spare byte, and the head from the end of its fields on, which is a part of the bytes.
use Rattle.endian.specs.Zero.{all_zero}
use Rattle.store.proofs.Lent.{head_rest, head_rest_none, head_zero_is, head_spare}
use Rattle.store.specs.Head.{inbox_at}
use Rattle.std.proofs.Common.{◌+◌, ◌*◌, sym, ap, ◌∙◌, arith}
use Rattle.store_check.proofs.head_zero.Goals as goal

pub returns-then-s-ne0 : goal.returns-then-s-ne0
returns-then-s-ne0 c = sym (head_spare c.args.s.now c.if-s-ne0.true)

pub returns-then-n-ge-INBOXES : goal.returns-then-n-ge-INBOXES
unfolding inbox_at
returns-then-n-ge-INBOXES c = let g = c.group_size-n in let s = c.args.s.now in sym (head_zero_is s g.result c.if-s-ne0.false g.ensures ∙ head_rest_none s (4 + g.result * 2) (omega arith))

pub returns : goal.returns
unfolding inbox_at
returns c = let g = c.group_size-n in let s = c.args.s.now in c.is_zero.ensures ∙ ap all_zero (head_rest s (4 + g.result * 2) (omega arith)) ∙ sym (head_zero_is s g.result c.if-s-ne0.false g.ensures)
