-- `record_write::write` meets its contract: nothing past the end, else the part lent comes back as the record.
use borrow.Rule.Slice.PartMut.{put_mid}
use Rattle.item.specs.Maxima.{max_nodes}
use Rattle.item.specs.declared.Item.{Item}
use Rattle.endian.specs.Part.{with_part}
use Rattle.record.specs.Layout.{record_size, next_at, record_of, layout_bytes, held_rows}
use mathlib.Core.List.{List}
use Rattle.endian.proofs.PartLaws.{with_all}
use Rattle.record.proofs.LayoutLaws.{length_layout, length_padded}
use Rattle.record.specs.Kind.{fields_of, rows_held}
use Rattle.record.specs.Record.{record_bytes}
use Prim.Native.Nat.{ℕ, ◌+◌, ◌-◌}
use lib.ListN.{length, take}
use native.Mathlib.Omega.{arith}
use mathlib.Core.Path.{◌≡◌, sym, ap, ◌∙◌}
use Rattle.record.proofs.RecordLaws.{length_record_of, lent_at, back_at, with_record_none}
use Rattle.record_write.proofs.write.Goals as goal

pub returns-in_default : goal.returns-in_default
returns-in_default c = let a = c.args in let h = c.in_default.ensures in sym (with_record_none a.s.now a.i _ (omega arith))

pub returns : goal.returns
unfolding record_bytes held_rows
returns c =
    let a = c.args in
    let s = a.s.now in
    let from = c.in-Some.a in
    let h = c.in-Some.ensures in
    let held : List Item = held_rows a.envelope.message a.n a.rows in
    let whole : List ℕ = layout_bytes a.next (fields_of a.envelope) held in
    let long : length whole ≡ record_size =
    length_layout a.next (fields_of a.envelope) held (length_padded max_nodes (take (rows_held a.envelope.message a.n) a.rows)) in
    ap (put_mid from (from + record_size - from) s)
    (c.write_record.ensures
    ∙ (λ j. with_part record_size (lent_at s a.i from h j) next_at (layout_bytes a.next (c.fields_of-fields.ensures j) (c.held_rows-held.ensures j)))
    ∙ with_all record_size (record_of s a.i) whole (length_record_of s a.i h.0) long)
    ∙ back_at s a.i from h whole
