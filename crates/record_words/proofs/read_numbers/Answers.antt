-- `record_words::read_numbers` meets its contract: no number changes where the record is no message, else `numbers_straight`.
use native.Mathlib.Omega.{arith}
use mathlib.Core.Path.{sym, ap, ◌∙◌}
use mathlib.Core.Bool.{Bool, cond}
use Rattle.record.specs.Kind.{message_of}
use Rattle.record.specs.declared.kinds.Fields.{Fields}
use Rattle.record_read.specs.Known.{is_known}
use Rattle.record.specs.Layout.{next_of}
use Rattle.record_read.proofs.ReadableLaws.{readable_stray, readable_known}
use Rattle.record_words.specs.Numbers.{record_numbers}
use Rattle.record_words.proofs.RecordLaws.{numbers_straight}
use Rattle.record_words.proofs.read_numbers.Goals as goal

pub returns-then-not-zero_after_rows : goal.returns-then-not-zero_after_rows
returns-then-not-zero_after_rows c =
    let q = readable_stray _ _ (sym c.zero_after_rows.ensures ∙ c.if-not-zero_after_rows.true) in
    (sym q, rw q)

pub returns-then-not-is_known : goal.returns-then-not-is_known
returns-then-not-is_known c =
    let z = sym c.zero_after_rows.ensures ∙ c.if-not-zero_after_rows.false in
    let says = readable_known _ _ z ∙ sym (ap (λ (f : Fields). is_known (message_of f)) c.read_fields-fields.ensures) in
    let q = says ∙ (sym c.is_known.ensures ∙ c.if-not-is_known.true) in
    (sym q, rw q)

pub returns : goal.returns
unfolding next_of
returns c =
    let r = c.args.r.now in
    let ns = c.args.numbers.now in
    let z = sym c.zero_after_rows.ensures ∙ c.if-not-zero_after_rows.false in
    let says = readable_known _ _ z ∙ sym (ap (λ (f : Fields). is_known (message_of f)) c.read_fields-fields.ensures) in
    let q = says ∙ (sym c.is_known.ensures ∙ c.if-not-is_known.false) in
    let f = c.read_fields-fields in
    let straight = numbers_straight c.args.n r ns _ f.result (omega arith) q c.read.ensures f.ensures in
    (sym q, c.put.ensures ∙ straight ∙ sym (ap (λ (t : Bool). cond t (record_numbers c.args.n r) ns) q))
