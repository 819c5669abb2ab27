-- `record_read::read` meets its contract: no message where there is no record.
use Rattle.record.specs.Record.{read_record}
use Rattle.record_read.proofs.read.Goals as goal

pub returns-in_err-record_at : goal.returns-in_err-record_at
unfolding read_record
returns-in_err-record_at c = rw (c.from_residual.ensures, c.in_err-record_at.ensures)
