-- Laws of one record at the boundary: each way out of the two calls.
use Prim.Native.Nat.{ℕ, ◌+◌, ◌-◌, ◌*◌, ◌≤◌, ◌<◌}
use native.Mathlib.Omega.{arith}
use mathlib.Core.Path.{◌≡◌, sym, ap, ◌∙◌}
use mathlib.Core.Bool.{Bool, true, false, cond, and-false}
use mathlib.Core.List.{List, []}
use lib.Dec.{eqb}
use lib.ListN.{length, length-append, get_or, take, drop}
use borrow.Rule.Slice.PartMut.{put_mid}
use borrow.Author.Tests.{eq-eqb, ne_eqb, le-leb, lt-leb}
use Rattle.item.specs.Maxima.{max_nodes}
use Rattle.item.specs.declared.Item.{Item}
use Rattle.endian.specs.Part.{with_part}
use Rattle.endian.proofs.PartLaws.{with_all}
use Rattle.record.specs.declared.kinds.Fields.{Fields}
use Rattle.record.specs.Layout.{rows_of, next_of, next_at, fields_in, layout_bytes, record_size, record_of, with_record}
use Rattle.record.proofs.LayoutLaws.{length_layout}
use Rattle.record_words.specs.Numbers.{number_count, field_numbers, row_numbers, numbers_of, fields_from, rows_from, stated, numbers_as, record_numbers, numbers_bytes, is_found, is_stated}
use Rattle.record_read.proofs.Reading.{length_rows}
use Rattle.record_words.proofs.NumberLaws.{length_field_numbers, length_row_numbers, length_rows_from}
use Rattle.record_words.proofs.ReadBackLaws.{bytes_straight}
use Rattle.record.specs.Record.{read_record}
use Rattle.record.proofs.RecordLaws.{length_record_of, lent_at, back_at}
use Rattle.record_read.specs.Readable.{readable}
use Rattle.record_read.proofs.ReadableLaws.{holds}
use Rattle.record_words.specs.Records.{may_read, numbers_read, may_write, bytes_written}
use Rattle.std.specs.Prelude.{Option}
use Rattle.message.specs.declared.Envelope.{Envelope}

length_numbers : (next : ℕ) (f : Fields) (rows : List Item) → length rows ≡ max_nodes → length (numbers_of next f rows) ≡ number_count
unfolding numbers_of
length_numbers next f rows l =
    let a = length-append (field_numbers next f) (row_numbers rows) in
    omega (arith, a, length_field_numbers next f, length_row_numbers rows, l)

-- a readable record has the numbers of its own fields and rows
pub numbers_straight : (n : ℕ) (r ns : List ℕ) (next : ℕ) (f : Fields) → length ns ≡ number_count → readable n r ≡ true → next ≡ next_of r → f ≡ fields_in r
    → with_part number_count ns 0 (numbers_of next f (rows_of r)) ≡ record_numbers n r
unfolding record_numbers numbers_as
numbers_straight n r ns next f l h en ef =
    let m = holds n r h in
    with_all number_count ns (numbers_of next f (rows_of r)) l (length_numbers next f (rows_of r) (length_rows r))
    ∙ (λ j. numbers_of (en j) ((ef ∙ sym m.fields) j) (rows_of r))
    ∙ sym (ap (λ (a : Option Envelope). numbers_as a r) m.found)

module _ (s : List ℕ) (i n : ℕ) (ns : List ℕ) where
  -- ---- reading

  pub read_short : (length ns ≡ number_count → ⊥) → (false ≡ may_read s i n ns) × (ns ≡ numbers_read s i n ns)
  unfolding may_read numbers_read
  read_short h = (rw (ne_eqb (length ns) number_count h), rw (ne_eqb (length ns) number_count h))

  -- what the record lent gives
  pub read_lent : length ns ≡ number_count → (r : List ℕ) → r ≡ record_of s i → (b : Bool) (after : List ℕ) → b ≡ readable n r → after ≡ cond (readable n r) (record_numbers n r) ns
      → (b ≡ may_read s i n ns) × (after ≡ numbers_read s i n ns)
  unfolding may_read numbers_read readable
  read_lent l r er b after eb ea = (
    eb ∙ rw (er, eq-eqb (length ns) number_count l),
    ea ∙ rw (er, eq-eqb (length ns) number_count l),
  )

  -- a record that is not there
  pub read_none : record_of s i ≡ [] → (false ≡ may_read s i n ns) × (ns ≡ numbers_read s i n ns)
  unfolding may_read numbers_read read_record is_found
  read_none h =
      (rw (h, and-false (eqb (length ns) number_count)), rw (h, and-false (eqb (length ns) number_count)))

  -- ---- writing

  pub write_none : length s < i * record_size + record_size → (false ≡ may_write s i n ns) × (s ≡ bytes_written s i n ns)
  unfolding may_write bytes_written
  write_none h = (rw (lt-leb (i * record_size + record_size) (length s) h), rw (lt-leb (i * record_size + record_size) (length s) h))

  pub write_refused : i * record_size + record_size ≤ length s → is_stated (stated n ns) ≡ false → (false ≡ may_write s i n ns) × (s ≡ bytes_written s i n ns)
  unfolding may_write bytes_written
  write_refused h q = (rw (le-leb (i * record_size + record_size) (length s) h, q), rw (le-leb (i * record_size + record_size) (length s) h, q))

  -- what the numbers say stands in the record as it is, and comes back with the part lent
  pub write_stated : (next : ℕ) (f : Fields) (rows : List Item) (r : List ℕ) (a : ℕ) → (i * record_size + record_size ≤ length s) × (a ≡ i * record_size)
      → is_stated (stated n ns) ≡ true → next ≡ get_or ns 0 0 → f ≡ fields_from ns → rows ≡ rows_from ns
      → r ≡ with_part record_size (take (a + record_size - a) (drop a s)) next_at (layout_bytes next f rows)
      → (true ≡ may_write s i n ns) × (put_mid a (a + record_size - a) s r ≡ bytes_written s i n ns)
  unfolding may_write bytes_written
  write_stated next f rows r a h q en ef er e =
      let whole : List ℕ = layout_bytes next f rows in
      let long : length whole ≡ record_size = length_layout next f rows (ap length er ∙ length_rows_from ns) in
      let is : whole ≡ numbers_bytes n ns = (λ j. layout_bytes (en j) (ef j) (er j)) ∙ bytes_straight n ns q in (
        rw (le-leb (i * record_size + record_size) (length s) h.0, q),
        ap (put_mid a (a + record_size - a) s)
            (e ∙ ap (λ (r : List ℕ). with_part record_size r next_at whole) (lent_at s i a h) ∙ with_all record_size (record_of s i) whole (length_record_of s i h.0) long)
            ∙ back_at s i a h whole
            ∙ ap (with_record s i) is
            ∙ rw (le-leb (i * record_size + record_size) (length s) h.0, q),
      )
