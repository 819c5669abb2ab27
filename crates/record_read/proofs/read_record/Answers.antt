-- `record_read::read_record` meets its contract: the message of the fields, unless a byte after its rows is not 0.
use native.Mathlib.Omega.{arith}
use mathlib.Core.Path.{sym, ap, ◌∙◌}
use Rattle.record.specs.Kind.{message_of}
use Rattle.record.proofs.RecordLaws.{read_found}
use Rattle.record_read.proofs.ReadableLaws.{zero_read, zero_long, read_stray}
use Rattle.record_read.proofs.read_record.Goals as goal

pub returns-then-not-zero_after_rows : goal.returns-then-not-zero_after_rows
returns-then-not-zero_after_rows c = sym (read_stray _ _ (sym c.zero_after_rows.ensures ∙ c.if-not-zero_after_rows.true))

pub returns : goal.returns
returns c =
    let r = c.args.r.now in
    let f = c.read_fields-fields in
    let m = c.in_ok-message.message in
    let e = sym c.message_of.ensures ∙ c.in_ok-message.was in
    let z = sym c.zero_after_rows.ensures ∙ c.if-not-zero_after_rows.false in
    let again = zero_read c.args.n r m (ap message_of (sym f.ensures) ∙ e) (zero_long _ _ z) in
    sym (read_found c.args.n r f.result m (omega arith) f.ensures e (sym again ∙ z))
