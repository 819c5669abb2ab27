-- `store_access::head::set_group_size` meets its contract: a byte of the bytes is that byte of the head.
use Rattle.record.proofs.RecordLaws.{with_record_none}
use Rattle.store.proofs.Lent.{head_set}
use Rattle.store.specs.Head.{size_at}
use native.Mathlib.Omega.{arith}
use mathlib.Core.Path.{sym}
use Rattle.store_access.proofs.head.set_group_size.Goals as goal

pub returns-then-s-lt-SIZE : goal.returns-then-s-lt-SIZE
returns-then-s-lt-SIZE c = sym (with_record_none c.args.s.now 0 _ (omega arith))

pub returns : goal.returns
returns c = let a = c.args in head_set a.s.now size_at _ (omega arith) (omega arith)
