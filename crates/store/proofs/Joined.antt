-- Bytes and records: records joined and cut again are the same, and so are bytes cut and joined again.
use Prim.Native.Nat.{ℕ, zero, suc, ◌*◌, ◌<◌}
use mathlib.Core.Path.{◌≡◌, refl, sym, ap, ◌∙◌}
use mathlib.Core.Bool.{true}
use mathlib.Core.List.{List, [], ◌∷◌, ◌++◌}
use native.Mathlib.Omega.{arith}
use native.Mathlib.Nat.{suc-mul, not-suc-le-zero, add_comm}
use borrow.Author.Tests.{eqb-true, eq-eqb}
use lib.ListN.{length, take, drop, length-drop, length-append, take-append-drop}
use lib.Seq.{take_at, drop_at, length-take-le}
use Rattle.record.specs.Chunk.{cut}
use Rattle.record.specs.Layout.{record_size}
use Rattle.store.specs.Records.{record_in, record_count, right_length, records_of, joined, on_records}

-- every record has this size
unfoldable pub Sized : ℕ → List (List ℕ) → Type 0
Sized size rs = (i : ℕ) → i < length rs → length (record_in rs i) ≡ size

-- ---- over the size and the number of records

pub length_joined : (size : ℕ) (rs : List (List ℕ)) → Sized size rs → length (joined rs) ≡ length rs * size
unfolding joined Sized record_in
length_joined size [] s = omega arith
length_joined size (r ∷ rs) s =
    length-append r (joined rs) ∙ rw (s 0 (omega arith), length_joined size rs (λ i h. s (suc i) (omega arith)), suc-mul (length rs) size) (add_comm size (length rs * size))

-- records joined and cut again are the same
pub cut_joined : (size : ℕ) (rs : List (List ℕ)) → Sized size rs → cut size (length rs) (joined rs) ≡ rs
unfolding joined cut Sized record_in
cut_joined size [] s = refl
cut_joined size (r ∷ rs) s =
    (λ j. take_at r (joined rs) size (s 0 (omega arith)) j ∷ cut size (length rs) (drop_at r (joined rs) size (s 0 (omega arith)) j))
    ∙ ap (λ (l : List (List ℕ)). r ∷ l) (cut_joined size rs (λ i h. s (suc i) (omega arith)))

pub length_cut : (size k : ℕ) (s : List ℕ) → length (cut size k s) ≡ k
unfolding cut
length_cut size zero s = refl
length_cut size (suc k) s = ap suc (length_cut size k (drop size s))

pub cut_sized : (size k : ℕ) (s : List ℕ) → length s ≡ k * size → Sized size (cut size k s)
unfolding cut Sized record_in
cut_sized size zero s e i h = absurd (not-suc-le-zero h)
cut_sized size (suc k) s e zero h = length-take-le size s (omega (arith, suc-mul k size))
cut_sized size (suc k) s e (suc i) h = cut_sized size k (drop size s) (length-drop size s ∙ omega (arith, suc-mul k size)) i (omega arith)

-- and bytes cut and joined again
pub joined_cut : (size k : ℕ) (s : List ℕ) → length s ≡ k * size → joined (cut size k s) ≡ s
unfolding joined cut
joined_cut size zero [] e = refl
joined_cut size zero (b ∷ s) e = absurd (omega arith)
joined_cut size (suc k) s e =
    ap (λ (l : List ℕ). take size s ++ l) (joined_cut size k (drop size s) (length-drop size s ∙ omega (arith, suc-mul k size)))
    ∙ take-append-drop size s

-- ---- a store

pub records_count : (s : List ℕ) → length (records_of s) ≡ record_count
unfolding records_of
records_count s = length_cut record_size record_count s

right_length_lem : (s : List ℕ) → right_length s ≡ true → length s ≡ record_count * record_size
unfolding right_length
right_length_lem s e = eqb-true (length s) (record_count * record_size) e

pub records_sized : (s : List ℕ) → right_length s ≡ true → Sized record_size (records_of s)
unfolding records_of
records_sized s e = cut_sized record_size record_count s (right_length_lem s e)

pub joined_records : (s : List ℕ) → right_length s ≡ true → joined (records_of s) ≡ s
unfolding records_of
joined_records s e = joined_cut record_size record_count s (right_length_lem s e)

module _ (rs : List (List ℕ)) (many : length rs ≡ record_count) (sized : Sized record_size rs) where
  pub records_joined : records_of (joined rs) ≡ rs
  unfolding records_of
  records_joined = ap (λ (k : ℕ). cut record_size k (joined rs)) (sym many) ∙ cut_joined record_size rs sized

  pub joined_right : right_length (joined rs) ≡ true
  unfolding right_length
  joined_right = eq-eqb (length (joined rs)) (record_count * record_size) (length_joined record_size rs sized ∙ ap (λ (k : ℕ). k * record_size) many)

-- a change of the records that keeps their number and sizes, made in the bytes
module _ (change : List (List ℕ) → List (List ℕ)) (s : List ℕ) (right : right_length s ≡ true)
    (many : length (change (records_of s)) ≡ record_count) (sized : Sized record_size (change (records_of s))) where
  pub records_after : records_of (on_records change s) ≡ change (records_of s)
  unfolding on_records
  records_after = rw right (records_joined (change (records_of s)) many sized)

  pub right_after : right_length (on_records change s) ≡ true
  unfolding on_records
  right_after = rw right (joined_right (change (records_of s)) many sized)
