-- A store of bytes stays one: whatever is put, dropped or set up writes bytes.
use Prim.Native.Nat.{ℕ, zero, suc, ◌+◌, ◌*◌, ◌%◌, ◌<◌}
use native.Mathlib.Omega.{arith}
use mathlib.Core.List.{List, [], ◌∷◌, ◌++◌}
use lib.Dec.{leb, eqb}
use lib.ListN.{length, take, drop, set}
use Rattle.endian.specs.Number.{bytes, with_number, AreBytes}
use Rattle.endian.proofs.NumberLaws.{bytes_take, bytes_drop}
use Rattle.endian.specs.Part.{with_part}
use Rattle.endian.specs.Zero.{zeros}
use Rattle.item.specs.Maxima.{tag_size}
use Rattle.item.proofs.Tests.{by_cond}
use Rattle.item.specs.declared.Item.{Item}
use Rattle.record.specs.declared.kinds.Fields.{Fields}
use Rattle.message.specs.declared.Envelope.{Envelope}
use Rattle.message.specs.declared.Message.{Message}
use Rattle.message.specs.declared.Message.TheVariants as message
use Rattle.std.specs.Prelude.{Option, Some, None}
use Rattle.record.specs.Kind.{kind_of, fields_of}
use Rattle.record.specs.Layout.{record_size, next_at, index_size, item_bytes, address_byte, field_bytes, rows_bytes, held_rows}
use Rattle.record.specs.Chunk.{cut}
use Rattle.record.specs.Record.{record_bytes, with_next, no_record}
use Rattle.store.specs.Chain.{before_from, next_in}
use Rattle.store.specs.Change.{with_next_in, appended, taken, put_in, put_each, unlinked, freed, drop_in, free_records, empty_head, empty_records}
use Rattle.store.specs.Head.{size_at, first_free, first_of, group_size, with_first_free, with_first_of}
use Rattle.store.specs.Records.{record_count, record_in, records_of, joined}
use Rattle.operations.proofs.Fitting.{set_any}

-- ---- lists of bytes

nil_bytes : AreBytes []
unfolding AreBytes
nil_bytes i = omega arith

cons_bytes : (b : ℕ) (l : List ℕ) → b < 256 → AreBytes l → AreBytes (b ∷ l)
unfolding AreBytes
cons_bytes b l h k zero = h
cons_bytes b l h k (suc i) = k i

append_bytes : (a b : List ℕ) → AreBytes a → AreBytes b → AreBytes (a ++ b)
unfolding AreBytes
append_bytes [] b h k i = k i
append_bytes (x ∷ a) b h k zero = h 0
append_bytes (x ∷ a) b h k (suc i) = append_bytes a b (λ j. h (suc j)) k i

number_bytes : (w v : ℕ) → AreBytes (bytes w v)
unfolding bytes
number_bytes zero v = nil_bytes
number_bytes (suc w) v = cons_bytes (v % 256) _ (omega arith) (number_bytes w _)

zeros_bytes : (n : ℕ) → AreBytes (zeros n)
unfolding zeros
zeros_bytes zero = nil_bytes
zeros_bytes (suc n) = cons_bytes 0 _ (omega arith) (zeros_bytes n)

with_bytes : (w : ℕ) (s : List ℕ) (at v : ℕ) → AreBytes s → AreBytes (with_number w s at v)
unfolding with_number with_part
with_bytes w s at v h =
    by_cond AreBytes (leb (at + w) (length s)) _ _
    (λ _. append_bytes (take at s) _ (bytes_take at s h) (append_bytes (bytes w v) _ (number_bytes w v) (bytes_drop (at + w) s h)))
    (λ _. h)

-- ---- a record

kind_small : (m : Message) → kind_of m < 256
unfolding kind_of
kind_small (message.Store attempt item) = omega arith
kind_small (message.Stored other attempt item) = omega arith
kind_small (message.Confirm other attempt item) = omega arith
kind_small (message.Confirmed other attempt item) = omega arith
kind_small message.Fetch = omega arith
kind_small (message.Table other) = omega arith

item_bytes_lem : (i : Item) → AreBytes (item_bytes i)
unfolding item_bytes
item_bytes_lem i = append_bytes (bytes index_size i.index.0) _ (number_bytes index_size i.index.0) (number_bytes tag_size i.tag.0)

rows_bytes_lem : (items : List Item) → AreBytes (rows_bytes items)
unfolding rows_bytes
rows_bytes_lem [] = nil_bytes
rows_bytes_lem (i ∷ items) = append_bytes (item_bytes i) _ (item_bytes_lem i) (rows_bytes_lem items)

fields_bytes : (f : Fields) → f.kind < 256 → AreBytes (field_bytes f)
unfolding field_bytes address_byte
fields_bytes f h =
    cons_bytes f.kind _ h (cons_bytes (f.sender % 16 * 16 + f.addressee % 16) _ (omega arith)
    (append_bytes (bytes 4 f.incarnation.0) _ (number_bytes 4 f.incarnation.0)
    (append_bytes (bytes 4 f.other.0) _ (number_bytes 4 f.other.0)
    (append_bytes (bytes 4 f.attempt.0) _ (number_bytes 4 f.attempt.0) (item_bytes_lem f.item)))))

record_bytes_lem : (n next : ℕ) (e : Envelope) (rows : List Item) → AreBytes (record_bytes n next e rows)
unfolding record_bytes fields_of
record_bytes_lem n next e rows =
    append_bytes (bytes 2 next) _ (number_bytes 2 next)
    (append_bytes (field_bytes (fields_of e)) _ (fields_bytes (fields_of e) (kind_small e.message)) (rows_bytes_lem (held_rows e.message n rows)))

empty_bytes : (next : ℕ) → AreBytes (with_next no_record next)
unfolding with_next no_record
empty_bytes next = with_bytes 2 (zeros record_size) next_at next (zeros_bytes record_size)

-- ---- records

abbrev pub Bytewise : List (List ℕ) → Type 0
Bytewise rs = (i : ℕ) → AreBytes (record_in rs i)

set_bytes : (rs : List (List ℕ)) (i : ℕ) (r : List ℕ) → Bytewise rs → AreBytes r → Bytewise (set rs i r)
unfolding record_in
set_bytes rs i r h k = set_any AreBytes rs i r [] k h

next_bytes : (rs : List (List ℕ)) (i next : ℕ) → Bytewise rs → Bytewise (with_next_in rs i next)
unfolding with_next_in with_next
next_bytes rs i next h = set_bytes rs i _ h (with_bytes 2 (record_in rs i) next_at next (h i))

free_bytes : (rs : List (List ℕ)) (i : ℕ) → Bytewise rs → Bytewise (with_first_free rs i)
unfolding with_first_free
free_bytes rs i h = set_bytes rs 0 _ h (with_bytes 2 (record_in rs 0) _ i (h 0))

first_bytes : (rs : List (List ℕ)) (k i : ℕ) → Bytewise rs → Bytewise (with_first_of rs k i)
unfolding with_first_of
first_bytes rs k i h = set_bytes rs 0 _ h (with_bytes 2 (record_in rs 0) _ i (h 0))

taken_bytes : (rs : List (List ℕ)) (e : Envelope) (rows : List Item) → Bytewise rs → Bytewise (taken rs e rows)
unfolding taken
taken_bytes rs e rows h = set_bytes _ (first_free rs) _ (free_bytes rs (next_in rs (first_free rs)) h) (record_bytes_lem (group_size rs) 0 e rows)

put_bytes : (rs : List (List ℕ)) (e : Envelope) (rows : List Item) → Bytewise rs → Bytewise (put_in rs e rows)
unfolding put_in appended
put_bytes rs e rows h =
    by_cond Bytewise (eqb (first_free rs) 0) _ _ (λ _. h)
    (λ _. by_cond Bytewise (eqb (first_of (taken rs e rows) e.addressee) 0) _ _
    (λ _. first_bytes (taken rs e rows) e.addressee (first_free rs) (taken_bytes rs e rows h))
    (λ _. next_bytes (taken rs e rows) _ (first_free rs) (taken_bytes rs e rows h)))

pub put_each_bytes : (os : List (Option Envelope)) (rs : List (List ℕ)) (rows : List Item) → Bytewise rs → Bytewise (put_each rs os rows)
unfolding put_each
put_each_bytes [] rs rows h = h
put_each_bytes (None ∷ os) rs rows h = put_each_bytes os rs rows h
put_each_bytes (Some e ∷ os) rs rows h = put_each_bytes os (put_in rs e rows) rows (put_bytes rs e rows h)

pub drop_bytes : (rs : List (List ℕ)) (k r : ℕ) → Bytewise rs → Bytewise (drop_in rs k r)
unfolding drop_in freed unlinked
drop_bytes rs k r h =
    free_bytes _ r (set_bytes _ r _
    (by_cond Bytewise (eqb (first_of rs k) r) _ _
    (λ _. first_bytes rs k (next_in rs r) h)
    (λ _. next_bytes rs (before_from (length rs) rs r (first_of rs k)) (next_in rs r) h))
    (empty_bytes _))

free_records_bytes : (left i : ℕ) → Bytewise (free_records left i)
unfolding free_records record_in
free_records_bytes zero i j = nil_bytes
free_records_bytes (suc zero) i zero = empty_bytes 0
free_records_bytes (suc zero) i (suc j) = nil_bytes
free_records_bytes (suc (suc left)) i zero = empty_bytes (suc i)
free_records_bytes (suc (suc left)) i (suc j) = free_records_bytes (suc left) (suc i) j

head_bytes : (n : ℕ) → n < 256 → AreBytes (empty_head n)
unfolding empty_head no_record AreBytes
head_bytes n h = set_any (λ (b : ℕ). b < 256) (with_number 2 (zeros record_size) next_at 1) size_at n 0 h (with_bytes 2 (zeros record_size) next_at 1 (zeros_bytes record_size))

pub empty_records_bytes : (count n : ℕ) → n < 256 → Bytewise (empty_records count n)
unfolding empty_records record_in
empty_records_bytes zero n h i = nil_bytes
empty_records_bytes (suc left) n h zero = head_bytes n h
empty_records_bytes (suc left) n h (suc i) = free_records_bytes left 1 i

-- ---- the store

pub joined_bytes : (rs : List (List ℕ)) → Bytewise rs → AreBytes (joined rs)
unfolding joined record_in
joined_bytes [] h = nil_bytes
joined_bytes (r ∷ rs) h = append_bytes r (joined rs) (h 0) (joined_bytes rs (λ i. h (suc i)))

cut_bytes : (size k : ℕ) (s : List ℕ) → AreBytes s → Bytewise (cut size k s)
unfolding cut record_in
cut_bytes size zero s h i = nil_bytes
cut_bytes size (suc k) s h zero = bytes_take size s h
cut_bytes size (suc k) s h (suc i) = cut_bytes size k (drop size s) (bytes_drop size s h) i

pub records_bytes : (s : List ℕ) → AreBytes s → Bytewise (records_of s)
unfolding records_of
records_bytes s h = cut_bytes record_size record_count s h
