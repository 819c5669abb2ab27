-- A whole record (document 01, "Message store"): written, read, and what the chains need of it.
use Rattle.std.specs.Prelude.{ℕ, ◌+◌, ◌*◌, Bool, ◌&&◌, cond, List, eqb, length, drop, None, Option, Some}
use Rattle.item.specs.declared.Item.{Item}
use Rattle.message.specs.declared.Message.{Message}
use Rattle.message.specs.declared.Envelope.{Envelope}
use Rattle.endian.specs.Number.{with_number}
use Rattle.endian.specs.Zero.{zeros, all_zero}
use Rattle.record.specs.declared.kinds.Fields.{Fields}
use Rattle.record.specs.Layout.{record_size, rows_at, row_size, next_at, kind_at, fields_in, layout_bytes}
use Rattle.record.specs.Kind.{fields_of, message_of, rows_held}
pub use Rattle.record.specs.Layout.{held_rows}

-- the bytes of a record that holds a message, for a group of n
unfoldable pub record_bytes : ℕ → ℕ → Envelope → List Item → List ℕ
record_bytes n next e rows = layout_bytes next (fields_of e) (held_rows e.message n rows)

-- the message under the sender, addressee and incarnation that fields say
abbrev pub envelope_of : Fields → Message → Envelope
envelope_of f m = record { sender = f.sender; addressee = f.addressee; incarnation = f.incarnation; message = m }

-- every byte after the rows of this message is zero
unfoldable pub zero_after_rows : ℕ → Message → List ℕ → Bool
zero_after_rows n m r = all_zero (drop (rows_at + rows_held m n * row_size) r)

unfoldable pub read_as : ℕ → Option Message → List ℕ → Option Envelope
read_as n None r = None
read_as n (Some m) r = cond (zero_after_rows n m r) (Some (envelope_of (fields_in r) m)) None

-- what a record says in a group of n: "a read that finds otherwise gives a fault, not a message". Sender, addressee and
-- next are not judged here.
unfoldable pub read_record : ℕ → List ℕ → Option Envelope
read_record n r = cond (eqb (length r) record_size) (read_as n (message_of (fields_in r)) r) None

-- the record with another next
unfoldable pub with_next : List ℕ → ℕ → List ℕ
with_next r next = with_number 2 r next_at next

-- a record of zeros: "a dropped one is cleared"
unfoldable pub no_record : List ℕ
no_record = zeros record_size

-- "free records are zero after next"
unfoldable pub zero_after_next : List ℕ → Bool
zero_after_next r = eqb (length r) record_size && all_zero (drop kind_at r)
