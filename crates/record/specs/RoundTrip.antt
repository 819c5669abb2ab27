-- Reading undoes writing, writing undoes reading, and different messages have different bytes: for every kind, group,
-- number and row.
use Rattle.std.specs.Prelude.{ℕ, ◌^◌, ◌<◌, ◌≡◌, List, [], ◌∷◌, Some}
use Rattle.item.specs.Maxima.{tag_size}
use Rattle.item.specs.declared.Item.{Item}
use Rattle.message.specs.declared.Envelope.{Envelope}
use Rattle.endian.specs.Number.{AreBytes}
use Rattle.record.specs.declared.kinds.Fields.{Fields}
use Rattle.record.specs.Layout.{index_size, rows_of, next_of, held_rows}
use Rattle.record.specs.Kind.{fields_of}
use Rattle.record.specs.Record.{record_bytes, read_record}

-- an item's numbers within their widths
unfoldable pub ItemFits : Item → Type 0
ItemFits i = (i.index.0 < 256 ^ index_size) × (i.tag.0 < 256 ^ tag_size)

unfoldable pub RowsFit : List Item → Type 0
RowsFit [] = Unit {0}
RowsFit (i ∷ rows) = ItemFits i × RowsFit rows

-- the numbers of a message within their widths: four bits for sender and addressee, 32 bits for the counters
unfoldable pub FieldsFit : Fields → Type 0
FieldsFit f =
    (f.sender < 16) × (f.addressee < 16) × (f.incarnation.0 < 256 ^ 4) × (f.other.0 < 256 ^ 4) × (f.attempt.0 < 256 ^ 4) ×
    ItemFits f.item

unfoldable pub Fits : Envelope → Type 0
Fits e = FieldsFit (fields_of e)

-- reading what was written gives it back: the message, its rows with zero items after them, and next
unfoldable pub ReadsBack : Type 0
ReadsBack =
    (n next : ℕ) (e : Envelope) (rows : List Item) → next < 256 ^ 2 → Fits e → RowsFit rows →
    (read_record n (record_bytes n next e rows) ≡ Some e) ×
    (rows_of (record_bytes n next e rows) ≡ held_rows e.message n rows) ×
    (next_of (record_bytes n next e rows) ≡ next)

-- writing what was read gives the bytes back, next and the address byte included
unfoldable pub WritesBack : Type 0
WritesBack =
    (n : ℕ) (r : List ℕ) (e : Envelope) → AreBytes r → read_record n r ≡ Some e → record_bytes n (next_of r) e (rows_of r) ≡ r

-- different messages have different bytes: equal bytes are of one message, with one next and the same rows
unfoldable pub Differ : Type 0
Differ =
    (n next next' : ℕ) (e e' : Envelope) (rows rows' : List Item) →
    next < 256 ^ 2 → Fits e → RowsFit rows → next' < 256 ^ 2 → Fits e' → RowsFit rows' →
    record_bytes n next e rows ≡ record_bytes n next' e' rows' →
    (e ≡ e') × (held_rows e.message n rows ≡ held_rows e'.message n rows') × (next ≡ next')
