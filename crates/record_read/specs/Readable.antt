-- A readable record (document 01, "Message store"): "unused bytes are zero, and a read that finds otherwise gives a fault,
-- not a message".
use Rattle.std.specs.Prelude.{ℕ, min, ◌+◌, ◌*◌, Bool, true, false, cond, ◌&&◌, List, eqb, length, get_or, drop, None, Option, Some}
use Rattle.item.specs.Maxima.{max_nodes}
use Rattle.endian.specs.Zero.{all_zero}
use Rattle.record.specs.Kind.{table_kind}
use Rattle.record.specs.Layout.{record_size, kind_at, rows_at, row_size}
use Rattle.record.specs.Record.{read_record}
use Rattle.message.specs.declared.Envelope.{Envelope}

unfoldable pub is_found : Option Envelope → Bool
is_found None = false
is_found (Some e) = true

-- whether the bytes of a record are a message in a group of n
unfoldable pub readable : ℕ → List ℕ → Bool
readable n r = is_found (read_record n r)

-- ---- the same by kind and fields

-- "Only Table has rows: n of them"
unfoldable pub rows_of_kind : ℕ → ℕ → ℕ
rows_of_kind kind n = cond (eqb kind table_kind) (min n max_nodes) 0

-- every byte after the rows of the record's kind is zero
unfoldable pub zero_after_kind : ℕ → List ℕ → Bool
zero_after_kind n r = eqb (length r) record_size && all_zero (drop (rows_at + rows_of_kind (get_or r kind_at 0) n * row_size) r)
