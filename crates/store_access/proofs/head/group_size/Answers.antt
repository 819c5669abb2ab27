-- `store_access::head::group_size` meets its contract: the byte stands at the same place of the bytes as of the head.
use lib.ListN.{get_or-eq_default}
use Rattle.store.proofs.Lent.{head_byte}
use Rattle.store.specs.Head.{group_size, size_at}
use native.Mathlib.Omega.{arith}
use mathlib.Core.Path.{sym, ◌∙◌}
use Rattle.store_access.proofs.head.group_size.Goals as goal

pub returns-in_default : goal.returns-in_default
unfolding group_size
returns-in_default c = let s = c.args.s.now in sym (sym (head_byte s size_at (omega arith)) ∙ get_or-eq_default s 0 (omega (arith, c.in_default.ensures.lookup.3)))

pub returns : goal.returns
unfolding group_size
returns c = c.from.ensures ∙ c.in-Some.ensures.lookup.3.1 0 ∙ head_byte c.args.s.now size_at (omega arith)
