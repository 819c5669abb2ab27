-- `store_access::head::set_number` meets its contract: the head lent comes back with the two lowest bytes of the number.
use Rattle.record.proofs.RecordLaws.{with_low, record_lent, record_back, with_record_none}
use Rattle.record.specs.Layout.{record_of}
use Rattle.endian.specs.Number.{with_number}
use borrow.Rule.Slice.PartMut.{put_mid}
use mathlib.Core.List.{List}
use lib.ListN.{length, take, drop}
use native.Mathlib.Omega.{arith}
use mathlib.Core.Path.{sym, ap, ◌∙◌}
use Prim.Native.Nat.{ℕ, ◌+◌, ◌*◌, ◌≤◌}
use Rattle.store_access.proofs.head.set_number.Goals as goal

pub returns-then-s-lt-SIZE : goal.returns-then-s-lt-SIZE
returns-then-s-lt-SIZE c = sym (with_record_none c.args.s.now 0 _ (omega arith))

pub returns : goal.returns
returns c =
    let a = c.args in
    let s = a.s.now in
    let h : 0 * 272 + 272 ≤ length s = omega arith in
    ap (put_mid 0 272 s) (c.write.ensures ∙ with_low (take 272 (drop 0 s)) a.at a.i ∙ ap (λ (r : List ℕ). with_number 2 r a.at a.i) (record_lent s 0 h))
    ∙ record_back s 0 (with_number 2 (record_of s 0) a.at a.i) h
