-- `record_write::bytes::write_item` meets its contract: two numbers that meet are one part, by `with_item`.
use native.Mathlib.Omega.{arith}
use Rattle.record.proofs.LayoutLaws.{with_item}
use Rattle.record_write.proofs.bytes.write_item.Goals as goal

pub returns : goal.returns
returns c = let a = c.args in rw (c.write-2.ensures, c.write.ensures) (with_item a.r.now a.at a.item (omega (arith, c.requires)))
