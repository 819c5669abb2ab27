-- Laws of one record.
use Prim.Native.Nat.{ℕ, ◌+◌, ◌-◌, ◌*◌, ◌/◌, ◌%◌, ◌≤◌, ◌<◌}
use mathlib.Core.Path.{◌≡◌, sym, ap, ◌∙◌}
use mathlib.Core.Bool.{true}
use mathlib.Core.List.{List, []}
use borrow.Author.Tests.{eq-eqb}
use borrow.Rule.Slice.PartMut.{put_mid}
use native.Mathlib.Omega.{arith}
use lib.ListN.{length, take, drop, get_or}
use Rattle.endian.specs.Part.{with_part}
use Rattle.endian.proofs.PartLaws.{by_order, part_is, part_none, length_part, lent, put_back, with_none}
use Rattle.endian.specs.Number.{with_number}
use Rattle.endian.proofs.NumberLaws.{bytes_low}
use Rattle.record.specs.Chunk.{chunk, with_chunk, cut}
use Rattle.record.proofs.ChunkLaws.{get_or_cut}
use Rattle.record.specs.Layout.{record_of, with_record, record_size, fields_in}
use Rattle.message.specs.declared.Message.{Message}
use Rattle.record.specs.declared.kinds.Fields.{Fields}
use Rattle.record.specs.Kind.{message_of}
use Rattle.record.specs.Record.{read_record, read_as, zero_after_rows, envelope_of}
use Rattle.std.specs.Prelude.{None, Option, Some, MatchOption}
use Rattle.std.specs.Simd.{first_chunks}
use Rattle.std.specs.Slice.{IsItemAt}
use Rattle.std.proofs.Common.{Bor}

-- a record whose fields are a message, with zeros after its rows
pub read_found : (n : ℕ) (r : List ℕ) (f : Fields) (m : Message) → length r ≡ record_size → f ≡ fields_in r
    → message_of f ≡ Some m → zero_after_rows n m r ≡ true → read_record n r ≡ Some (envelope_of f m)
unfolding read_record read_as
read_found n r f m l ef em z = rw (eq-eqb (length r) record_size l, ← ef, em, z, ef)

-- of a number only its two lowest bytes are written
pub with_low : (r : List ℕ) (at v : ℕ) → with_number 2 r at (v % 65536) ≡ with_number 2 r at v
unfolding with_number
with_low r at v = ap (with_part 2 r at) (bytes_low 2 v)

-- ---- the records of a store

module _ (s : List ℕ) (i : ℕ) where
  pub record_none : length s < i * record_size + record_size → record_of s i ≡ []
  unfolding record_of chunk
  record_none h = part_none record_size s (i * record_size) h

  pub length_record_of : i * record_size + record_size ≤ length s → length (record_of s i) ≡ record_size
  unfolding record_of chunk
  length_record_of h = length_part record_size s (i * record_size) h

  record_is : i * record_size + record_size ≤ length s → record_of s i ≡ take record_size (drop (i * record_size) s)
  unfolding record_of chunk
  record_is h = part_is record_size s (i * record_size) h

  pub length_record_most : length (record_of s i) ≤ record_size
  length_record_most =
      by_order (i * record_size + record_size) (length s)
      (λ h. omega (arith, length_record_of h))
      (λ h. rw (record_none h) (omega arith))

  -- the record as code lends it
  pub record_lent : i * record_size + record_size ≤ length s
      → take (i * record_size + record_size - i * record_size) (drop (i * record_size) s) ≡ record_of s i
  unfolding record_of chunk
  record_lent h = lent record_size s (i * record_size) h

  -- and has it back as r
  pub record_back : (r : List ℕ) → i * record_size + record_size ≤ length s
      → put_mid (i * record_size) (i * record_size + record_size - i * record_size) s r ≡ with_record s i r
  unfolding with_record with_chunk
  record_back r h = put_back record_size s (i * record_size) r h

  -- the same where code begins it at a
  module _ (a : ℕ) (h : (i * record_size + record_size ≤ length s) × (a ≡ i * record_size)) where
    pub lent_at : take (a + record_size - a) (drop a s) ≡ record_of s i
    lent_at = rw h.1 (record_lent h.0)

    pub back_at : (r : List ℕ) → put_mid a (a + record_size - a) s r ≡ with_record s i r
    back_at r = rw h.1 (record_back r h.0)

  pub with_record_none : (r : List ℕ) → length s < i * record_size + record_size → with_record s i r ≡ s
  unfolding with_record with_chunk
  with_record_none r h = with_none record_size s (i * record_size) r h

-- ---- the records of a store as arrays

-- array i of a store's bytes is record i
pub array_is_record : (s : List ℕ) (i : ℕ) (all : List (List ℕ)) → all ≡ first_chunks record_size (length s / record_size) s
    → length all ≡ length s / record_size → (o : Option (Bor (List ℕ))) → IsItemAt all i o
    → MatchOption o (record_of s i ≡ []) (λ r. (r.now ≡ record_of s i) × (length r.now ≡ record_size))
unfolding cut
array_is_record s i all e l None h = record_none s i (omega (arith, h.3))
array_is_record s i all e l (Some r) h =
    let k : i * record_size + record_size ≤ length s = omega (arith, h.3.0) in
    let p : r.now ≡ record_of s i =
    h.1 ∙ ap (λ a. get_or a i r.now) e ∙ get_or_cut record_size (length s / record_size) s i r.now (rw l at h.3.0) ∙ sym (record_is s i k) in
    (p, ap length p ∙ length_record_of s i k)
