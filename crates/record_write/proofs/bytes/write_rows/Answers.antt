use Rattle.record.proofs.LayoutLaws.{with_rows_more}
use Rattle.record.specs.Layout.{rows_bytes}
use Rattle.endian.proofs.PartLaws.{with_nothing}
use mathlib.Core.Path.{sym, ◌∙◌}
use native.Mathlib.Omega.{arith}
use Rattle.record_write.proofs.bytes.write_rows.Goals as goal

pub loop-j-init : goal.loop-j-init
unfolding rows_bytes
loop-j-init c = sym (with_nothing _ _)

pub loop-j-preserved : goal.loop-j-preserved
loop-j-preserved c = let l = c.loop-j in c.write_item.ensures ∙ rw l.invariant (with_rows_more _ _ _ (omega arith) (omega arith) (omega arith))
