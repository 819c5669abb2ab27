-- Set-up: the records of zero bytes, a turn of the loop that links them, and the head at the end. Everything is over the
-- number of records.
use Rattle.std.proofs.Common.{◌≡◌, ℕ, zero, suc, ◌+◌, ◌*◌, ◌<◌, ◌≤◌, List, [], ◌∷◌, ◌++◌, length, get_or, take, drop, set, replicate, sym, refl, ap, ◌∙◌, not-suc-le-zero, suc-mul, add_comm, add-one, arith, drop_of_length-le, length-take-le, drop-cons, take-suc, take_at, drop_at}
use lib.ListN.{length-replicate, get_or-replicate, replicate-append-replicate}
use lib.Seq.{append_snoc, set_at, get_or_at, split_at}
use Rattle.endian.specs.Part.{with_part}
use Rattle.endian.specs.Number.{bytes, with_number}
use Rattle.endian.specs.Zero.{zeros}
use Rattle.endian.proofs.ZeroLaws.{length_zeros}
use Rattle.record.specs.Chunk.{cut}
use Rattle.record.specs.Layout.{record_size}
use Rattle.record.specs.Record.{with_next, no_record}
use Rattle.store.specs.Records.{record_count, records_of, record_in}
use Rattle.store.specs.Head.{size_at, with_first_free}
use Rattle.store.specs.Change.{with_next_in, free_records, empty_head, empty_records}
use Rattle.store.proofs.Locality.{length_free_records}
use Rattle.store_change.specs.Linked.{linked_records}

-- ---- zero bytes

cut_zeros : (size k : ℕ) → cut size k (zeros (k * size)) ≡ replicate k (zeros size)
unfolding cut zeros
cut_zeros size zero = refl
cut_zeros size (suc k) =
    let e : zeros (suc k * size) ≡ zeros size ++ zeros (k * size) =
    ap zeros (suc-mul k size ∙ add_comm (k * size) size) ∙ sym (replicate-append-replicate size (k * size) 0) in
    ap (cut size (suc k)) e
    ∙ (λ j. take_at (zeros size) (zeros (k * size)) size (length_zeros size) j ∷ cut size k (drop_at (zeros size) (zeros (k * size)) size (length_zeros size) j))
    ∙ ap (λ (rs : List (List ℕ)). zeros size ∷ rs) (cut_zeros size k)

-- ---- the free chain

free_next : (left i j : ℕ) → suc j < left → get_or (free_records left i) j [] ≡ with_next no_record (suc (i + j))
unfolding free_records
free_next zero i j h = absurd (not-suc-le-zero h)
free_next (suc zero) i j h = let z : ⊥ = omega arith in absurd z
free_next (suc (suc left)) i zero h = ap (λ (k : ℕ). with_next no_record (suc k)) (omega arith)
free_next (suc (suc left)) i (suc j) h =
    free_next (suc left) (suc i) j (omega arith) ∙ ap (λ (k : ℕ). with_next no_record (suc k)) (omega arith)

free_last : (left i : ℕ) → get_or (free_records (suc left) i) left [] ≡ with_next no_record 0
unfolding free_records
free_last zero i = refl
free_last (suc left) i = free_last left (suc i)

-- a cleared record ends a chain
no_next : with_next no_record 0 ≡ no_record
unfolding with_next no_record zeros with_number with_part bytes
no_next = refl

last_one : (m : ℕ) → 1 ≤ m → no_record ≡ get_or (no_record ∷ free_records m 1) m []
last_one zero h = let z : ⊥ = omega arith in absurd z
last_one (suc m) h = sym (free_last m 1 ∙ no_next)

-- ---- linked up to record i

unfoldable pub linked_to : ℕ → ℕ → List (List ℕ)
linked_to count i = take i (linked_records count) ++ drop i (replicate count no_record)

module _ (left : ℕ) where
  length_linked : length (linked_records (suc left)) ≡ suc left
  unfolding linked_records
  length_linked = ap suc (length_free_records left 1)

  linked_start : cut record_size (suc left) (zeros (suc left * record_size)) ≡ linked_to (suc left) 1
  unfolding linked_to linked_records no_record
  linked_start = cut_zeros record_size (suc left)

  rest : (i : ℕ) → i < suc left → drop i (replicate (suc left) no_record) ≡ no_record ∷ drop (suc i) (replicate (suc left) no_record)
  rest i h =
      drop-cons (replicate (suc left) no_record) i [] (omega (arith, length-replicate (suc left) no_record))
      ∙ ap (λ (r : List ℕ). r ∷ drop (suc i) (replicate (suc left) no_record)) (get_or-replicate (suc left) i no_record [] h)

  front : (i : ℕ) → i < suc left → length (take i (linked_records (suc left))) ≡ i
  front i h = length-take-le i (linked_records (suc left)) (omega (arith, length_linked))

  linked_next : (i : ℕ) → 1 ≤ i → suc i < suc left → get_or (linked_records (suc left)) i [] ≡ with_next no_record (i + 1)
  unfolding linked_records
  linked_next zero l h = let z : ⊥ = omega arith in absurd z
  linked_next (suc i) l h = free_next left 1 i (omega arith) ∙ ap (with_next no_record) (omega arith)

  pub linked_turn : (i : ℕ) → 1 ≤ i → suc i < suc left → with_next_in (linked_to (suc left) i) i (i + 1) ≡ linked_to (suc left) (i + 1)
  unfolding linked_to with_next_in record_in
  linked_turn i l h =
      let p : List (List ℕ) = take i (linked_records (suc left)) in
      let q : List (List ℕ) = drop (suc i) (replicate (suc left) no_record) in
      let lp : length p ≡ i = front i (omega arith) in
      rw (rest i (omega arith), get_or_at p no_record q [] i lp, add-one i)
      (set_at p no_record q (with_next no_record (suc i)) i lp
      ∙ ap (λ (r : List ℕ). p ++ r ∷ q) (sym (linked_next i l h ∙ ap (with_next no_record) (add-one i)))
      ∙ sym (append_snoc p (get_or (linked_records (suc left)) i []) q)
      ∙ ap (λ (l : List (List ℕ)). l ++ q) (sym (take-suc (linked_records (suc left)) i [] (omega (arith, length_linked)))))

  linked_last : 1 ≤ left → no_record ≡ get_or (linked_records (suc left)) left []
  unfolding linked_records
  linked_last l = last_one left l

  pub linked_end : 1 ≤ left → linked_to (suc left) left ≡ linked_records (suc left)
  unfolding linked_to
  linked_end l =
      let whole : linked_records (suc left) ≡ take left (linked_records (suc left)) ++ get_or (linked_records (suc left)) left [] ∷ drop (suc left) (linked_records (suc left)) =
      split_at (linked_records (suc left)) left [] (omega (arith, length_linked)) in
      ap (λ (r : List (List ℕ)). take left (linked_records (suc left)) ++ r) (rest left (omega arith)
      ∙ (λ j. linked_last l j ∷ none j))
      ∙ sym whole
    where
      none : drop (suc left) (replicate (suc left) no_record) ≡ drop (suc left) (linked_records (suc left))
      none =
          drop_of_length-le (replicate (suc left) no_record) {i = suc left} (omega (arith, length-replicate (suc left) no_record))
          ∙ sym (drop_of_length-le (linked_records (suc left)) {i = suc left} (omega (arith, length_linked)))

  -- ---- the head

  pub head_set : (n : ℕ) → set (with_first_free (linked_records (suc left)) 1) 0 (set (record_in (with_first_free (linked_records (suc left)) 1) 0) size_at n) ≡ empty_records (suc left) n
  unfolding with_first_free linked_records record_in empty_records empty_head
  head_set n = refl

pub zero_linked : (len : ℕ) → len ≡ record_count * record_size → records_of (zeros len) ≡ linked_to record_count 1
unfolding records_of
zero_linked len e = ap (λ (k : ℕ). cut record_size record_count (zeros k)) e ∙ linked_start 239
