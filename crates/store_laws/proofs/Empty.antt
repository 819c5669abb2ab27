-- Set-up (document 01): "free chain 1, 2, .. 239; inboxes empty", said for any number of records.
use Prim.Native.Nat.{ℕ, zero, suc, ◌+◌, ◌-◌, ◌^◌, ◌≤◌, ◌<◌}
use mathlib.Core.Path.{◌≡◌, refl, sym, ap, subst, ◌∙◌}
use mathlib.Core.Bool.{true}
use mathlib.Core.Logic.{◌≢◌, inr}
use mathlib.Core.List.{List, [], ◌∷◌}
use native.Mathlib.Omega.{arith}
use native.Mathlib.Nat.{not-suc-le-zero, le_of_suc-le-suc}
use borrow.Author.Tests.{eq-eqb}
use lib.ListN.{length, drop, get_or, get_or-replicate, length-replicate, get_or-eq_default}
use lib.Seq.{get_or-set_other, get_or-drop, take-set-le}
use Rattle.item.specs.Maxima.{valid_size}
use Rattle.item.proofs.Tests.{and_both}
use Rattle.endian.specs.Part.{part, whole}
use Rattle.endian.proofs.PartLaws.{by_order}
use Rattle.endian.specs.Number.{value, number_at, with_number}
use Rattle.endian.proofs.NumberLaws.{number_two, number_none, number_of_with}
use Rattle.endian.specs.Zero.{zeros, all_zero}
use Rattle.record.specs.Layout.{record_size, next_at, next_of}
use Rattle.record.specs.Record.{no_record, zero_after_next}
use Rattle.store.specs.Records.{record_in, record_count}
use Rattle.store.specs.Head.{size_at, spare_at, inbox_at, first_free, group_size, first_of, head_zero}
use Rattle.store.specs.Chain.{next_in}
use Rattle.store.specs.Sound.{sound_records, free_count}
use Rattle.store.specs.Change.{free_records, empty_head, empty_records}
use Rattle.store.proofs.Bytes.{byte_other, cleared_zero, next_cleared, length_no_record}
use Rattle.store.proofs.Locality.{free_record, length_empty, empty_size, empty_sized}
use Rattle.store_laws.specs.Lists.{times, times_on, free_list, inbox_list, numbers_from}
use Rattle.store_laws.specs.Standing.{Leads, IsChain, OnChains}
use Rattle.store_laws.proofs.Times.{by_same, times_head, times_other}
use Rattle.store_laws.proofs.OnChains.{free_is, inbox_is, chains_sound, free_count_lem}
use Rattle.store_laws.proofs.Sound.{Sound}

pub length_numbers : (left i : ℕ) → length (numbers_from left i) ≡ left
unfolding numbers_from
length_numbers zero i = refl
length_numbers (suc left) i = ap suc (length_numbers left (suc i))

-- each of them stands there once, and no other
numbers_out : (left i r : ℕ) → (i ≤ r → i + left ≤ r) → times r (numbers_from left i) ≡ 0
unfolding numbers_from times
numbers_out zero i r h = refl
numbers_out (suc left) i r h =
    times_other i r (numbers_from left (suc i)) (λ e. absurd (omega (arith, h (omega arith))))
    ∙ numbers_out left (suc i) r (λ l. omega (arith, h (omega arith)))

numbers_in : (left i r : ℕ) → i ≤ r → r < i + left → times r (numbers_from left i) ≡ 1
unfolding numbers_from
numbers_in zero i r a b = absurd (omega arith)
numbers_in (suc left) i r a b =
    by_same i r
    (λ e. times_head i r (numbers_from left (suc i)) e ∙ ap suc (numbers_out left (suc i) r (λ l. absurd (omega arith))))
    (λ d. times_other i r (numbers_from left (suc i)) d ∙ numbers_in left (suc i) r (omega arith) (omega arith))

no_inboxes : (r left k : ℕ) → times_on r left (λ _. []) k ≡ 0
unfolding times_on times
no_inboxes r zero k = refl
no_inboxes r (suc left) k = omega (arith, no_inboxes r left (suc k))

-- ---- the head

zero_byte : (m i : ℕ) → get_or (zeros m) i 0 ≡ 0
unfolding zeros
zero_byte m i =
    by_order (suc i) m
    (λ h. get_or-replicate m i 0 0 h)
    (λ h. get_or-eq_default (zeros m) 0 (omega (arith, length-replicate {A = ℕ} m 0)))

-- from its byte 3 on it is zero
head_byte : (n i : ℕ) → spare_at ≤ i → get_or (empty_head n) i 0 ≡ 0
unfolding empty_head no_record
head_byte n i h =
    get_or-set_other (with_number 2 no_record next_at 1) size_at i n 0 (omega arith)
    ∙ byte_other 2 no_record next_at 1 i (inr (omega arith))
    ∙ zero_byte record_size i

bytes_zero : (l : List ℕ) → ((i : ℕ) → get_or l i 0 ≡ 0) → all_zero l ≡ true
unfolding all_zero
bytes_zero [] z = refl
bytes_zero (b ∷ l) z = and_both (eq-eqb b 0 (z 0)) (bytes_zero l (λ i. z (suc i)))

module _ (left n : ℕ) where
  -- the records of which this is said
  abbrev rs : List (List ℕ)
  rs = empty_records (suc (suc left)) n

  empty_head_lem : head_zero rs ≡ true
  unfolding head_zero empty_records record_in inbox_at
  empty_head_lem =
      and_both (eq-eqb (get_or (empty_head n) spare_at 0) 0 (head_byte n spare_at (omega arith)))
      (bytes_zero (drop (inbox_at (group_size rs)) (empty_head n))
      (λ i. get_or-drop (inbox_at (group_size rs)) (empty_head n) i 0 ∙ head_byte n (inbox_at (group_size rs) + i) (omega arith)))

  empty_free : first_free rs ≡ 1
  unfolding first_free empty_records record_in empty_head number_at part
  empty_free =
      ap (λ (l : List ℕ). value (whole 2 l)) (take-set-le 2 (with_number 2 no_record next_at 1) size_at n (omega arith))
      ∙ number_of_with 2 no_record next_at 1 (omega (arith, length_no_record)) (omega arith)

  empty_first : (k : ℕ) → first_of rs k ≡ 0
  unfolding first_of empty_records record_in inbox_at
  empty_first k =
      by_order (inbox_at k + 2) (length (empty_head n))
      (λ h. number_two (empty_head n) (inbox_at k) h ∙ omega (arith, head_byte n (inbox_at k) (omega arith), head_byte n (inbox_at k + 1) (omega arith)))
      (λ h. number_none 2 (empty_head n) (inbox_at k) h)

-- ---- the free chain

-- records that are free records from number i on are a chain
free_leads : (rs : List (List ℕ)) (left i : ℕ) → i ≢ 0 → i + left < 256 ^ 2 → ((m : ℕ) → record_in rs (i + m) ≡ record_in (free_records (suc left) i) m)
    → IsChain rs i (numbers_from (suc left) i)
unfolding Leads numbers_from free_records next_in record_in
free_leads rs zero i d s same = (refl, d, ap next_of (ap (record_in rs) i_zero ∙ same 0) ∙ next_cleared 0 (omega arith))
  where
    i_zero : i ≡ i + 0
    i_zero = omega arith
free_leads rs (suc left) i d s same = (
  refl,
  d,
  subst (λ (x : ℕ). IsChain rs x (numbers_from (suc left) (suc i))) (sym (ap next_of (ap (record_in rs) i_zero ∙ same 0) ∙ next_cleared (suc i) (omega arith)))
      (free_leads rs left (suc i) (omega arith) (omega arith) (λ m. ap (record_in rs) (shift m) ∙ same (suc m))),
)
  where
    i_zero : i ≡ i + 0
    i_zero = omega arith

    shift : (m : ℕ) → suc i + m ≡ i + suc m
    shift m = omega arith

numbers_within : (left i r : ℕ) → 0 < times r (numbers_from left i) → (i ≤ r) × (r < i + left)
numbers_within left i r h =
    by_order i r
    (λ a. by_order (suc r) (i + left) (λ b. (a, b)) (λ b. absurd (omega (arith, numbers_out left i r (λ _. omega arith)))))
    (λ a. absurd (omega (arith, numbers_out left i r (λ l. absurd (omega arith)))))

-- every record from 1 is free
free_zero_record : (left n r : ℕ) → r ≢ 0 → r < suc (suc left) → zero_after_next (record_in (empty_records (suc (suc left)) n) r) ≡ true
unfolding empty_records record_in
free_zero_record left n zero d h = absurd (d refl)
free_zero_record left n (suc j) d h = free_record (λ q. zero_after_next q ≡ true) cleared_zero (suc left) 1 j (le_of_suc-le-suc h)

module _ (left n : ℕ) (few : suc (suc left) ≤ 256 ^ 2) where
  empty_chain : IsChain (rs left n) 1 (numbers_from (suc left) 1)
  unfolding empty_records record_in
  empty_chain = free_leads (rs left n) left 1 (omega arith) (omega arith) (λ m. ap (record_in (rs left n)) (one_more m))
    where
      one_more : (m : ℕ) → 1 + m ≡ suc m
      one_more m = omega arith

  empty_chains : OnChains (rs left n) (numbers_from (suc left) 1) (λ _. [])
  unfolding Leads times
  empty_chains =
      record {
        free_chain = subst (λ (x : ℕ). IsChain (rs left n) x (numbers_from (suc left) 1)) (sym (empty_free left n)) empty_chain;
        inbox_chain = λ k h. empty_first left n k;
        once = λ r d h. omega (arith, numbers_in (suc left) 1 r (omega arith) (omega (arith, length_empty (suc (suc left)) n)), no_inboxes r (group_size (rs left n)) 0);
        no_other = λ r h. omega (arith, numbers_out (suc left) 1 r (λ _. omega (arith, length_empty (suc (suc left)) n)), no_inboxes r (group_size (rs left n)) 0);
        free_zero = λ r h. let w = numbers_within (suc left) 1 r h in free_zero_record left n r (omega (arith, w.0)) (omega (arith, w.1));
        inbox_owned = λ k h r u. absurd (not-suc-le-zero u);
      }

-- ---- the law

pub record EmptyDone (count n : ℕ) : Type 0 where
  pub sound : Sound (empty_records count n)
  pub size : group_size (empty_records count n) ≡ n
  pub free : free_list (empty_records count n) ≡ numbers_from (count - 1) 1
  pub inboxes : (k : ℕ) → k < n → inbox_list (empty_records count n) k ≡ []
  pub counted : free_count (empty_records count n) ≡ count - 1

pub empty_done : (count n : ℕ) → 2 ≤ count → count ≤ 256 ^ 2 → valid_size n ≡ true → EmptyDone count n
empty_done zero n some few v = absurd (omega arith)
empty_done (suc zero) n some few v = absurd (omega arith)
empty_done (suc (suc left)) n some few v = done left n few v
  where
    done : (left n : ℕ) → suc (suc left) ≤ 256 ^ 2 → valid_size n ≡ true → EmptyDone (suc (suc left)) n
    done left n few v =
        let c : OnChains (rs left n) (numbers_from (suc left) 1) (λ _. []) = empty_chains left n few in
        let s : sound_records (rs left n) ≡ true = chains_sound (ap valid_size (empty_size (suc left) n) ∙ v) (empty_head_lem left n) c in
        let less : suc left ≡ suc (suc left) - 1 = omega arith in
        record {
          sound = record { is_sound = s; sized = empty_sized (suc (suc left)) n; few = omega (arith, length_empty (suc (suc left)) n) };
          size = empty_size (suc left) n;
          free = free_is c ∙ ap (λ (m : ℕ). numbers_from m 1) less;
          inboxes = λ k h. inbox_is c k (omega (arith, empty_size (suc left) n));
          counted = free_count_lem (rs left n) s ∙ ap length (free_is c) ∙ length_numbers (suc left) 1 ∙ less;
        }

-- of the store itself
pub set_up_done : (n : ℕ) → valid_size n ≡ true → EmptyDone record_count n
set_up_done n v = empty_done record_count n (omega arith) (omega arith) v
