-- `store_access::links::clear` meets its contract: nothing past the end, else the part lent comes back as zeros.
use Rattle.record.specs.Record.{no_record}
use native.Mathlib.Omega.{arith}
use mathlib.Core.Path.{sym, ap, ◌∙◌}
use Prim.Native.Nat.{◌+◌, ◌-◌}
use lib.ListN.{length}
use borrow.Rule.Slice.PartMut.{put_mid}
use Rattle.endian.specs.Zero.{zeros}
use Rattle.record.specs.Layout.{record_size}
use Rattle.record.proofs.RecordLaws.{length_record_of, lent_at, back_at, with_record_none}
use Rattle.store_access.proofs.links.clear.Goals as goal

pub returns-in_default : goal.returns-in_default
returns-in_default c = let a = c.args in let h = c.in_default.ensures in sym (with_record_none a.s.now a.i no_record (omega arith))

pub returns : goal.returns
unfolding no_record
returns c =
    let a = c.args in
    let s = a.s.now in
    let from = c.in-Some.a in
    let h = c.in-Some.ensures in
    ap (put_mid from (from + record_size - from) s) (c.clear.ensures ∙ ap zeros (ap length (lent_at s a.i from h) ∙ length_record_of s a.i h.0))
    ∙ back_at s a.i from h no_record
