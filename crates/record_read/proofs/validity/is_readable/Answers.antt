-- `record_read::validity::is_readable` meets its contract: no message where a byte stands after the rows, else what the fields say.
use mathlib.Core.Path.{sym, ap, ◌∙◌}
use Rattle.record.specs.Kind.{message_of}
use Rattle.record.specs.declared.kinds.Fields.{Fields}
use Rattle.record_read.specs.Known.{is_known}
use Rattle.record_read.proofs.ReadableLaws.{readable_stray, readable_known}
use Rattle.record_read.proofs.validity.is_readable.Goals as goal

pub returns-else-zero_after_rows : goal.returns-else-zero_after_rows
returns-else-zero_after_rows c = c.if-zero_after_rows.false ∙ sym (readable_stray _ _ (sym c.zero_after_rows.ensures ∙ c.if-zero_after_rows.false))

pub returns-then-zero_after_rows : goal.returns-then-zero_after_rows
returns-then-zero_after_rows c =
    let z = sym c.zero_after_rows.ensures ∙ c.if-zero_after_rows.true in
    c.is_known.ensures ∙ ap (λ (f : Fields). is_known (message_of f)) c.read_fields.ensures ∙ sym (readable_known _ _ z)
