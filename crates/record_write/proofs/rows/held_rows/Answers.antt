-- `record_write::rows::held_rows` meets its contract: as many rows as the kind has, padded.
use Rattle.record.proofs.KindLaws.{rows_held_most}
use Rattle.record_write.proofs.rows.held_rows.Goals as goal

pub padded_rows-requires : goal.padded_rows-requires
padded_rows-requires c = rw c.rows_held.ensures (rows_held_most _ _)
