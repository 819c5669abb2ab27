-- Lent bytes against records: a record read or written at its place in the bytes is the record of the list, and so are
-- the head's fields. One law for each, cited wherever code over bytes meets a definition over records.
use Prim.Native.Nat.{ℕ, suc, ◌+◌, ◌-◌, ◌*◌, ◌≤◌, ◌<◌}
use mathlib.Core.Path.{◌≡◌, sym, ap, ◌∙◌}
use mathlib.Core.Logic.{◌≢◌}
use mathlib.Core.Bool.{true, false}
use mathlib.Core.List.{List, [], ◌++◌}
use native.Mathlib.Omega.{arith}
use borrow.Author.Tests.{eq-eqb, ne_eqb}
use lib.ListN.{length, take, drop, get_or, set, length-set, drop_of_length-le, take-append-drop, get_or-eq_default}
use lib.Seq.{get_or-take, take-take, set_out, set-append_left, length-take-le, take_all, drop-drop}
use Rattle.endian.specs.Part.{part, whole}
use Rattle.endian.proofs.PartLaws.{by_order, take_of_drop, part_is, with_is, with_none}
use Rattle.endian.specs.Number.{value, number_at, with_number}
use Rattle.endian.proofs.NumberLaws.{number_none, length_with_number}
use Rattle.endian.specs.Zero.{all_zero}
use Rattle.endian.proofs.ZeroLaws.{length_zeros}
use Rattle.record.specs.Chunk.{cut, chunk, with_chunk}
use Rattle.record.proofs.ChunkLaws.{cut_chunk, cut_with}
use Rattle.record.specs.Layout.{record_size, next_at, record_of, with_record, next_of}
use Rattle.record.proofs.RecordLaws.{record_none, length_record_of, with_record_none}
use Rattle.record.specs.Record.{with_next, no_record}
use Rattle.store.specs.Records.{record_count, right_length, records_of, record_in, on_records}
use Rattle.store.proofs.Joined.{records_count, joined_records}
use Rattle.store.specs.Head.{free_at, spare_at, inbox_at, group_size, head_zero, with_first_free, with_first_of}
use Rattle.store.specs.Chain.{next_in}
use Rattle.store.specs.Change.{with_next_in}

-- ---- records

module _ (s : List ℕ) (long : length s ≡ record_count * record_size) where
  pub right : right_length s ≡ true
  unfolding right_length
  right = eq-eqb (length s) (record_count * record_size) long

  -- record i, cut out once or read at its place
  pub record_in_lem : (i : ℕ) → record_in (records_of s) i ≡ record_of s i
  unfolding record_in records_of record_of
  record_in_lem i =
      by_order (suc i) record_count
      (λ h. cut_chunk record_size record_count s i h long)
      (λ h. get_or-eq_default (records_of s) [] (omega (arith, records_count s)) ∙ sym (record_none s i (omega arith)))

  -- record i written at its place
  pub records_with : (i : ℕ) (r : List ℕ) → (i < record_count → length r ≡ record_size) → records_of (with_record s i r) ≡ set (records_of s) i r
  unfolding records_of with_record
  records_with i r lr =
      by_order (suc i) record_count
      (λ h. cut_with record_size record_count s i r (lr h) h long)
      (λ h. ap records_of (with_record_none s i r (omega arith)) ∙ sym (set_out (records_of s) i r (omega (arith, records_count s))))

  -- what comes after record i
  pub next_in_lem : (i : ℕ) → next_of (record_of s i) ≡ next_in (records_of s) i
  unfolding next_in
  next_in_lem i = ap next_of (sym (record_in_lem i))

  length_in : (i : ℕ) → i < record_count → length (record_of s i) ≡ record_size
  length_in i h = length_record_of s i (omega arith)

  -- a number of record i written
  pub records_number : (i at v : ℕ) → records_of (with_record s i (with_number 2 (record_of s i) at v)) ≡ set (records_of s) i (with_number 2 (record_in (records_of s) i) at v)
  records_number i at v =
      records_with i (with_number 2 (record_of s i) at v) (λ h. length_with_number 2 (record_of s i) at v ∙ length_in i h)
      ∙ ap (λ (r : List ℕ). set (records_of s) i (with_number 2 r at v)) (sym (record_in_lem i))

  -- a byte of the head written
  pub records_byte : (at v : ℕ) → records_of (with_record s 0 (set (record_of s 0) at v)) ≡ set (records_of s) 0 (set (record_in (records_of s) 0) at v)
  records_byte at v =
      records_with 0 (set (record_of s 0) at v) (λ h. length-set (record_of s 0) at v ∙ length_in 0 h)
      ∙ ap (λ (r : List ℕ). set (records_of s) 0 (set r at v)) (sym (record_in_lem 0))

  pub records_free : (i : ℕ) → records_of (with_record s 0 (with_number 2 (record_of s 0) free_at i)) ≡ with_first_free (records_of s) i
  unfolding with_first_free
  records_free i = records_number 0 free_at i

  pub records_first : (k i : ℕ) → records_of (with_record s 0 (with_number 2 (record_of s 0) (inbox_at k) i)) ≡ with_first_of (records_of s) k i
  unfolding with_first_of
  records_first k i = records_number 0 (inbox_at k) i

  pub records_next : (i next : ℕ) → records_of (with_record s i (with_next (record_of s i) next)) ≡ with_next_in (records_of s) i next
  unfolding with_next with_next_in
  records_next i next = records_number i next_at next

  -- record i cleared
  pub records_clear : (i : ℕ) → records_of (with_record s i no_record) ≡ set (records_of s) i no_record
  unfolding no_record
  records_clear i = records_with i no_record (λ h. length_zeros record_size)

-- a record that is written as it is
pub with_own : (s : List ℕ) (i : ℕ) → with_record s i (record_of s i) ≡ s
unfolding with_record with_chunk record_of chunk
with_own s i =
    let at : ℕ = i * record_size in
    let rest : drop (at + record_size) s ≡ drop record_size (drop at s) = sym (drop-drop record_size at s) in
    by_order (at + record_size) (length s)
    (λ h.
    with_is record_size s at (part record_size s at) h
    ∙ (λ j. take at s ++ (part_is record_size s at h j ++ rest j))
    ∙ ap (λ (l : List ℕ). take at s ++ l) (take-append-drop record_size (drop at s))
    ∙ take-append-drop at s)
    (λ h. with_none record_size s at (part record_size s at) h)

-- ---- the head

-- what stands in the head stands at the same place in the bytes
pub head_number : (s : List ℕ) (at : ℕ) → at + 2 ≤ record_size → number_at 2 s at ≡ number_at 2 (record_in (records_of s) 0) at
unfolding record_in records_of cut number_at part
head_number s at h =
    ap (λ (l : List ℕ). value (whole 2 l))
    (take_of_drop 2 at s ∙ ap (drop at) (sym (take-take (at + 2) record_size s h)) ∙ sym (take_of_drop 2 at (take record_size s)))

pub head_byte : (s : List ℕ) (at : ℕ) → at < record_size → get_or s at 0 ≡ get_or (record_in (records_of s) 0) at 0
unfolding record_in records_of cut
head_byte s at h = sym (get_or-take record_size s at 0 h)

length_head : (s : List ℕ) → length (record_in (records_of s) 0) ≤ record_size
unfolding record_in records_of cut
length_head s =
    by_order record_size (length s)
    (λ k. omega (arith, length-take-le record_size s k))
    (λ k. omega (arith, ap length (take_all record_size s (omega arith))))

-- a number that does not lie within the head
pub head_none : (s : List ℕ) (at : ℕ) → record_size < at + 2 → number_at 2 (record_in (records_of s) 0) at ≡ 0
head_none s at h = number_none 2 (record_in (records_of s) 0) at (omega (arith, length_head s))

-- the head from a place on
pub head_rest : (s : List ℕ) (at : ℕ) → at ≤ record_size → take (record_size - at) (drop at s) ≡ drop at (record_in (records_of s) 0)
unfolding record_in records_of cut
head_rest s at h =
    let e : at + (record_size - at) ≡ record_size = omega arith in
    take_of_drop (record_size - at) at s ∙ ap (λ (k : ℕ). drop at (take k s)) e

pub head_rest_none : (s : List ℕ) (at : ℕ) → record_size ≤ at → all_zero (drop at (record_in (records_of s) 0)) ≡ true
unfolding all_zero
head_rest_none s at h = ap all_zero (drop_of_length-le (record_in (records_of s) 0) {i = at} (omega (arith, length_head s)))

pub head_zero_is : (s : List ℕ) (n : ℕ) → get_or s spare_at 0 ≡ 0 → n ≡ group_size (records_of s)
    → head_zero (records_of s) ≡ all_zero (drop (inbox_at n) (record_in (records_of s) 0))
unfolding head_zero
head_zero_is s n z e = rw (← head_byte s spare_at (omega arith), eq-eqb (get_or s spare_at 0) 0 z, ← e)

pub head_spare : (s : List ℕ) → get_or s spare_at 0 ≢ 0 → head_zero (records_of s) ≡ false
unfolding head_zero
head_spare s d = rw (← head_byte s spare_at (omega arith), ne_eqb (get_or s spare_at 0) 0 d)

-- a byte of the head written
pub head_set : (s : List ℕ) (at v : ℕ) → record_size ≤ length s → at < record_size → set s at v ≡ with_record s 0 (set (record_of s 0) at v)
unfolding with_record with_chunk record_of chunk
head_set s at v h l =
    let lt : length (take record_size s) ≡ record_size = length-take-le record_size s h in
    ap (λ (r : List ℕ). set r at v) (sym (take-append-drop record_size s))
    ∙ set-append_left (take record_size s) (drop record_size s) at v (omega arith)
    ∙ ap (λ (r : List ℕ). set r at v ++ drop record_size s) (sym (part_is record_size s 0 (omega arith)))
    ∙ sym (with_is record_size s 0 (set (part record_size s 0) at v) (omega arith))

-- ---- a change of the records, made in the bytes

pub changed : (change : List (List ℕ) → List (List ℕ)) (s s' : List ℕ) → records_of s' ≡ change (records_of s)
    → length s ≡ record_count * record_size → length s' ≡ record_count * record_size → s' ≡ on_records change s
unfolding on_records
changed change s s' e l l' = sym (rw (right s l, ← e) (joined_records s' (right s' l')))

pub unchanged : (change : List (List ℕ) → List (List ℕ)) (s : List ℕ) → length s ≢ record_count * record_size → s ≡ on_records change s
unfolding on_records right_length
unchanged change s d = rw (ne_eqb (length s) (record_count * record_size) d)
