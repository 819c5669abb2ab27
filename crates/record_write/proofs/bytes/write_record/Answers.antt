-- `record_write::bytes::write_record` meets its contract: three groups that meet are the record, by `with_groups`.
use Rattle.record.proofs.LayoutLaws.{length_mapped, length_layout, with_groups}
use native.Mathlib.Omega.{arith}
use mathlib.Core.Path.{◌≡◌, sym, ap, ◌∙◌}
use mathlib.Core.List.{◌++◌}
use lib.ListN.{length, drop}
use Rattle.item.specs.Maxima.{max_nodes}
use Rattle.endian.proofs.PartLaws.{with_none, with_is, with_all}
use Rattle.record.specs.Layout.{record_size, layout_bytes}
use Rattle.record_write.proofs.bytes.write_record.Goals as goal

pub returns-in_default : goal.returns-in_default
returns-in_default c = let a = c.args in sym (with_none record_size a.r.now 0 _ c.in_default.ensures.cases)

pub returns : goal.returns
returns c =
    let a = c.args in
    let r = c.in-Some.r.now in
    let whole = layout_bytes a.next a.fields a.rows in
    let long : length a.rows ≡ max_nodes = search length_mapped in
    let e : c.write_rows.new.r ≡ whole =
    rw (c.write_rows.ensures, c.write_fields.ensures, c.write.ensures) (with_groups r a.next a.fields a.rows (omega arith) long)
    ∙ with_all record_size r whole (omega arith) (length_layout a.next a.fields a.rows long) in
    ap (λ l. l ++ drop record_size a.r.now) e ∙ sym (with_is record_size a.r.now 0 whole (omega (arith, c.in-Some.ensures.cases)))
