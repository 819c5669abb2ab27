-- `store_access::head::first_free` meets its contract: the number stands at the same place of the bytes as of the head.
use Rattle.store.proofs.Lent.{head_number}
use Rattle.store.specs.Head.{first_free}
use native.Mathlib.Omega.{arith}
use mathlib.Core.Path.{◌∙◌}
use Rattle.store_access.proofs.head.first_free.Goals as goal

pub returns : goal.returns
unfolding first_free
returns c = c.from.ensures ∙ c.read.ensures ∙ head_number c.args.s.now 0 (omega arith)
