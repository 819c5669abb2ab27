-- `record_read::items::rows` meets its contract: zero items where there is no record.
use Rattle.endian.specs.Part.{part, whole}
use Rattle.endian.specs.Number.{number_at, value}
use Rattle.record.specs.Layout.{rows_of, items_in, item_in}
use Rattle.record_read.proofs.items.rows.Goals as goal

pub returns-in_default : goal.returns-in_default
unfolding rows_of items_in item_in number_at value part whole
returns-in_default c = rw (c.zero.ensures, c.in_default.ensures)
