-- `store_access::head::set_first_of` meets its contract: past the head nothing is written.
use Rattle.record.specs.Layout.{with_record, record_of}
use Rattle.endian.proofs.NumberLaws.{with_number_none}
use Rattle.record.proofs.RecordLaws.{length_record_most}
use Rattle.store.specs.Head.{inbox_at}
use Rattle.store.proofs.Lent.{with_own}
use native.Mathlib.Omega.{arith}
use mathlib.Core.Path.{sym, ap, ◌∙◌}
use Prim.Native.Nat.{◌+◌, ◌*◌}
use Rattle.store_access.proofs.head.set_first_of.Goals as goal

pub returns-then-k-ge-INBOXES : goal.returns-then-k-ge-INBOXES
unfolding inbox_at
returns-then-k-ge-INBOXES c =
    let a = c.args in
    let s = a.s.now in
    sym (ap (with_record s 0) (with_number_none 2 (record_of s 0) (4 + a.k * 2) a.i (omega (arith, length_record_most s 0))) ∙ with_own s 0)
