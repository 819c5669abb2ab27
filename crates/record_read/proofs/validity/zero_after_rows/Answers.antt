-- `record_read::validity::zero_after_rows` meets its contract: the test of the length, then that of the bytes after the rows of the kind.
use Rattle.record_read.proofs.ReadableLaws.{rows_of_kind_most}
use Rattle.record_read.proofs.validity.zero_after_rows.Goals as goal

pub zero_from_row-requires : goal.zero_from_row-requires
zero_from_row-requires c = rw c.rows_of_kind.ensures (rows_of_kind_most _ _)
