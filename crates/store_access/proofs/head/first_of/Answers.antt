-- `store_access::head::first_of` meets its contract: past the head there is no number, else it stands at the same place of the bytes.
use Rattle.store.proofs.Lent.{head_number, head_none}
use Rattle.store.specs.Head.{first_of, inbox_at}
use native.Mathlib.Omega.{arith}
use mathlib.Core.Path.{sym, ◌∙◌}
use Prim.Native.Nat.{◌+◌, ◌*◌}
use Rattle.store_access.proofs.head.first_of.Goals as goal

pub returns-then-k-ge-INBOXES : goal.returns-then-k-ge-INBOXES
unfolding first_of inbox_at
returns-then-k-ge-INBOXES c = sym (head_none c.args.s.now (4 + c.args.k * 2) (omega arith))

pub returns : goal.returns
unfolding first_of inbox_at
returns c = let a = c.args in c.from.ensures ∙ c.read.ensures ∙ head_number a.s.now (4 + a.k * 2) (omega arith)
