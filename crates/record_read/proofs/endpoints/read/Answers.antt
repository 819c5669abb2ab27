-- `record_read::endpoints::read` meets its contract: the message of a readable record has the record's own fields.
use mathlib.Core.Path.{sym, ◌∙◌}
use Rattle.record_read.proofs.Found.{ends_fault, ends_found}
use Rattle.record_read.proofs.endpoints.read.Goals as goal

pub returns-then-not-is_readable : goal.returns-then-not-is_readable
returns-then-not-is_readable c = sym (ends_fault _ _ (sym c.is_readable.ensures ∙ c.if-not-is_readable.true))

pub returns : goal.returns
returns c = ends_found _ _ c.read_fields-fields.result (sym c.is_readable.ensures ∙ c.if-not-is_readable.false) c.read_fields-fields.ensures
