-- The bytes of a record (document 01, "Message store"), said once for the reader and the writer:
--   "0-1 next; 2 kind; 3 sender × 16 + addressee
--    4-7 sender's incarnation; 8-11 other incarnation; 12-15 attempt
--    16-23 index; 24-31 tag; 32-271 fifteen rows of index and tag"
use Rattle.std.specs.Prelude.{ℕ, zero, suc, ◌+◌, ◌-◌, ◌*◌, ◌/◌, ◌%◌, List, [], ◌∷◌, ◌++◌, get_or}
use Rattle.item.specs.Maxima.{max_nodes, tag_size}
use Rattle.item.specs.declared.Item.{Item}
unfoldable pub use Rattle.message.specs.Rows.{padded, held_rows}
use Rattle.endian.specs.Number.{bytes, number_at}
use Rattle.record.specs.declared.kinds.Fields.{Fields}
use Rattle.record.specs.Chunk.{chunk, with_chunk}

-- "240 records of 272 bytes"
abbrev pub record_size : ℕ
record_size = 272

-- where each field begins
abbrev pub next_at : ℕ
next_at = 0

abbrev pub kind_at : ℕ
kind_at = 2

abbrev pub address_at : ℕ
address_at = 3

abbrev pub incarnation_at : ℕ
incarnation_at = 4

abbrev pub other_at : ℕ
other_at = 8

abbrev pub attempt_at : ℕ
attempt_at = 12

abbrev pub item_at : ℕ
item_at = 16

abbrev pub rows_at : ℕ
rows_at = 32

-- an item is its index and then its tag, in a row as in the record itself
abbrev pub index_size : ℕ
index_size = 8

abbrev pub row_size : ℕ
row_size = index_size + tag_size

-- ---- the writer's side: a list of bytes for each group of fields, in the order of the table

unfoldable pub item_bytes : Item → List ℕ
item_bytes i = bytes index_size i.index.0 ++ bytes tag_size i.tag.0

-- "sender × 16 + addressee": half a byte for each
unfoldable pub address_byte : ℕ → ℕ → ℕ
address_byte sender addressee = sender % 16 * 16 + addressee % 16

-- from the kind up to the rows
abbrev pub fields_size : ℕ
fields_size = rows_at - kind_at

unfoldable pub field_bytes : Fields → List ℕ
field_bytes f =
    f.kind ∷ address_byte f.sender f.addressee ∷
    bytes 4 f.incarnation.0 ++ (bytes 4 f.other.0 ++ (bytes 4 f.attempt.0 ++ item_bytes f.item))

unfoldable pub rows_bytes : List Item → List ℕ
rows_bytes [] = []
rows_bytes (i ∷ items) = item_bytes i ++ rows_bytes items

-- next, the fields and the rows: a whole record
abbrev pub layout_bytes : ℕ → Fields → List Item → List ℕ
layout_bytes next f rows = bytes 2 next ++ (field_bytes f ++ rows_bytes rows)

-- ---- the reader's side: what stands at each place. Outside the record every number is 0.

unfoldable pub item_in : List ℕ → ℕ → Item
item_in r at = record { index = record { 0 = number_at index_size r at }; tag = record { 0 = number_at tag_size r (at + index_size) } }

unfoldable pub fields_in : List ℕ → Fields
fields_in r =
    record {
      kind = get_or r kind_at 0;
      sender = get_or r address_at 0 / 16;
      addressee = get_or r address_at 0 % 16;
      incarnation = record { 0 = number_at 4 r incarnation_at };
      other = record { 0 = number_at 4 r other_at };
      attempt = record { 0 = number_at 4 r attempt_at };
      item = item_in r item_at;
    }

-- m items from a place on
unfoldable pub items_in : ℕ → List ℕ → ℕ → List Item
items_in zero r at = []
items_in (suc m) r at = item_in r at ∷ items_in m r (at + row_size)

-- "fifteen rows of index and tag"
unfoldable pub rows_of : List ℕ → List Item
rows_of r = items_in max_nodes r rows_at

-- "Records are chained by a next index"
unfoldable pub next_of : List ℕ → ℕ
next_of r = number_at 2 r next_at

unfoldable pub record_of : List ℕ → ℕ → List ℕ
record_of s i = chunk record_size s i

unfoldable pub with_record : List ℕ → ℕ → List ℕ → List ℕ
with_record s i r = with_chunk record_size s i r
