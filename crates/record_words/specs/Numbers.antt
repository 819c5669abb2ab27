-- The numbers of a record, in the order of document 01's layout: "next; kind; sender .. addressee; sender's incarnation;
-- other incarnation; attempt; index; tag; .. fifteen rows of index and tag".
use Rattle.std.specs.Prelude.{ℕ, zero, suc, ◌+◌, ◌*◌, ◌^◌, Bool, true, false, ◌&&◌, cond, List, [], ◌∷◌, ◌++◌, eqb, ltb, length, get_or, drop, None, Option, Some}
use Rattle.item.specs.Maxima.{max_nodes}
use Rattle.item.specs.declared.Item.{Item}
use Rattle.endian.specs.Zero.{all_zero}
use Rattle.record.specs.Kind.{fields_of, message_of, rows_held}
use Rattle.record.specs.declared.kinds.Fields.{Fields}
use Rattle.record.specs.Layout.{next_of, rows_of}
use Rattle.record.specs.Record.{envelope_of, record_bytes, read_record}
unfoldable pub use Rattle.record_read.specs.Readable.{is_found}
use Rattle.message.specs.declared.Envelope.{Envelope}
use Rattle.message.specs.declared.Message.{Message}

-- where the rows begin, how many numbers they are, and how many all are
abbrev pub rows_first : ℕ
rows_first = 9

abbrev pub rows_count : ℕ
rows_count = 2 * max_nodes

abbrev pub number_count : ℕ
number_count = rows_first + rows_count

-- ---- the numbers of a record

unfoldable pub field_numbers : ℕ → Fields → List ℕ
field_numbers next f =
    next ∷ f.kind ∷ f.sender ∷ f.addressee ∷ f.incarnation.0 ∷ f.other.0 ∷ f.attempt.0 ∷ f.item.index.0 ∷ f.item.tag.0 ∷ []

unfoldable pub row_numbers : List Item → List ℕ
row_numbers [] = []
row_numbers (i ∷ rows) = i.index.0 ∷ i.tag.0 ∷ row_numbers rows

unfoldable pub numbers_of : ℕ → Fields → List Item → List ℕ
numbers_of next f rows = field_numbers next f ++ row_numbers rows

-- ---- what numbers say

unfoldable pub item_from : List ℕ → ℕ → Item
item_from ns at = record { index = record { 0 = get_or ns at 0 }; tag = record { 0 = get_or ns (at + 1) 0 } }

unfoldable pub fields_from : List ℕ → Fields
fields_from ns =
    record {
      kind = get_or ns 1 0;
      sender = get_or ns 2 0;
      addressee = get_or ns 3 0;
      incarnation = record { 0 = get_or ns 4 0 };
      other = record { 0 = get_or ns 5 0 };
      attempt = record { 0 = get_or ns 6 0 };
      item = record { index = record { 0 = get_or ns 7 0 }; tag = record { 0 = get_or ns 8 0 } };
    }

-- m items from a place on
unfoldable pub items_from : ℕ → List ℕ → ℕ → List Item
items_from zero ns at = []
items_from (suc m) ns at = item_from ns at ∷ items_from m ns (at + 2)

unfoldable pub rows_from : List ℕ → List Item
rows_from ns = items_from max_nodes ns rows_first

-- as many numbers as a record has, each within its field: next 16 bits, kind 8, sender and addressee 4 each, the two
-- incarnations and the attempt 32. Index and tag take every number of 64 bits.
unfoldable pub numbers_fit : List ℕ → Bool
numbers_fit ns =
    eqb (length ns) number_count && (ltb (get_or ns 0 0) (2 ^ 16) && (ltb (get_or ns 1 0) (2 ^ 8) && (ltb (get_or ns 2 0) (2 ^ 4) && (ltb (get_or ns 3 0) (2 ^ 4) &&
    (ltb (get_or ns 4 0) (2 ^ 32) && (ltb (get_or ns 5 0) (2 ^ 32) && ltb (get_or ns 6 0) (2 ^ 32)))))))

-- next and the message that fitting numbers say in a group of n, if every number after its rows is 0: nothing handed in is
-- lost
unfoldable pub stated_as : ℕ → Option Message → List ℕ → Option (ℕ × Envelope)
stated_as n None ns = None
stated_as n (Some m) ns =
    cond (all_zero (drop (rows_first + 2 * rows_held m n) ns)) (Some (get_or ns 0 0, envelope_of (fields_from ns) m)) None

unfoldable pub stated : ℕ → List ℕ → Option (ℕ × Envelope)
stated n ns = cond (numbers_fit ns) (stated_as n (message_of (fields_from ns)) ns) None

-- ---- numbers and bytes

-- the numbers of a record that is a message in a group of n; none where it is no message
unfoldable pub numbers_as : Option Envelope → List ℕ → List ℕ
numbers_as None r = []
numbers_as (Some e) r = numbers_of (next_of r) (fields_of e) (rows_of r)

unfoldable pub record_numbers : ℕ → List ℕ → List ℕ
record_numbers n r = numbers_as (read_record n r) r

-- the bytes of the record that numbers say in a group of n; none where they say none
unfoldable pub bytes_as : ℕ → Option (ℕ × Envelope) → List ℕ → List ℕ
bytes_as n None ns = []
bytes_as n (Some s) ns = record_bytes n s.0 s.1 (rows_from ns)

unfoldable pub numbers_bytes : ℕ → List ℕ → List ℕ
numbers_bytes n ns = bytes_as n (stated n ns) ns

-- whether they are a record
unfoldable pub is_stated : Option (ℕ × Envelope) → Bool
is_stated None = false
is_stated (Some s) = true
