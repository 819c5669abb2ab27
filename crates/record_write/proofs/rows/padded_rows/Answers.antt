-- `record_write::rows::padded_rows` meets its contract, by `padded_filled`.
use Rattle.record_write.proofs.Padding.{padded_filled}
use Rattle.record.proofs.LayoutLaws.{length_mapped}
use lib.ListN.{length}
use mathlib.Core.Path.{◌≡◌}
use Rattle.record_write.proofs.rows.padded_rows.Goals as goal

pub returns : goal.returns
returns c = let a = c.args in let l : length a.rows ≡ 15 = search length_mapped in padded_filled 15 a.held a.rows _ _ l c.requires c.zero.ensures (c.fill.ensures.after (λ y e. e))
