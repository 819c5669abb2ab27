-- `record_write::bytes::write_fields` meets its contract: parts that meet are one, by `with_fields`.
use native.Mathlib.Omega.{arith}
use Rattle.record.proofs.LayoutLaws.{with_fields}
use Rattle.record_write.proofs.bytes.write_fields.Goals as goal

pub returns : goal.returns
returns c = let a = c.args in rw (c.write_item.ensures, c.write-3.ensures, c.write-2.ensures, c.write.ensures, c.address_byte.ensures) (with_fields a.r.now a.fields (omega arith))
