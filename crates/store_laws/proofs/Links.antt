-- What a change of one number does: the head's first free record, the first record of an inbox, the next of a record.
use Prim.Native.Nat.{ℕ, suc, ◌+◌, ◌^◌, ◌≤◌, ◌<◌}
use mathlib.Core.Path.{◌≡◌, sym, ap, ◌∙◌}
use mathlib.Core.Bool.{◌&&◌}
use mathlib.Core.Logic.{◌≢◌, ◌⊎◌, inl, inr, ⊎_elim}
use mathlib.Core.List.{List, [], ◌∷◌}
use native.Mathlib.Omega.{arith}
use lib.Dec.{eqb}
use lib.ListN.{length, get_or, set, drop}
use Rattle.item.specs.Maxima.{max_nodes}
use Rattle.endian.proofs.PartLaws.{by_order}
use Rattle.endian.specs.Number.{number_at, with_number}
use Rattle.endian.proofs.NumberLaws.{number_of_with}
use Rattle.endian.specs.Zero.{all_zero}
use Rattle.record.specs.Layout.{record_size, next_at, next_of}
use Rattle.record.specs.Record.{with_next}
use Rattle.store.specs.Records.{record_in}
use Rattle.store.specs.Head.{free_at, size_at, spare_at, inbox_at, first_free, group_size, first_of, head_zero, with_first_free, with_first_of}
use Rattle.store.specs.Chain.{next_in}
use Rattle.store.specs.Change.{with_next_in}
use Rattle.store.proofs.Bytes.{number_other, byte_other, drop_other}
use Rattle.store.proofs.Locality.{set_same, set_other}

-- the record numbers that a next can say
abbrev pub Small : ℕ → Type 0
Small v = v < 256 ^ 2

-- ---- where the head stays as it is

module _ (rs rs' : List (List ℕ)) (e : record_in rs' 0 ≡ record_in rs 0) where
  pub same_free : first_free rs' ≡ first_free rs
  unfolding first_free
  same_free = ap (λ (h : List ℕ). number_at 2 h free_at) e

  pub same_first : (k : ℕ) → first_of rs' k ≡ first_of rs k
  unfolding first_of
  same_first k = ap (λ (h : List ℕ). number_at 2 h (inbox_at k)) e

  pub same_head : head_zero rs' ≡ head_zero rs
  unfolding head_zero group_size
  same_head = ap (λ (h : List ℕ). eqb (get_or h spare_at 0) 0 && all_zero (drop (inbox_at (get_or h size_at 0)) h)) e

-- ---- where it has a number at `at`

head_there : (rs : List (List ℕ)) → length (record_in rs 0) ≡ record_size → 0 < length rs
unfolding record_in
head_there [] long = absurd (omega arith)
head_there (r ∷ rs) long = omega arith

module _ (rs : List (List ℕ)) (long : length (record_in rs 0) ≡ record_size) where
  module _ (at v : ℕ) where
    -- rs with v there
    abbrev with : List (List ℕ)
    with = set rs 0 (with_number 2 (record_in rs 0) at v)

    head_is : record_in with 0 ≡ with_number 2 (record_in rs 0) at v
    head_is = set_same rs 0 (with_number 2 (record_in rs 0) at v) (head_there rs long)

    head_number : at + 2 ≤ record_size → Small v → number_at 2 (record_in with 0) at ≡ v
    head_number h s = ap (λ (r : List ℕ). number_at 2 r at) head_is ∙ number_of_with 2 (record_in rs 0) at v (omega arith) s

    head_other : (b : ℕ) → (b + 2 ≤ at) ⊎ (at + 2 ≤ b) → number_at 2 (record_in with 0) b ≡ number_at 2 (record_in rs 0) b
    head_other b d = ap (λ (r : List ℕ). number_at 2 r b) head_is ∙ number_other 2 (record_in rs 0) at v 2 b d

    -- "zero where said" stays, if it is a place before the rest and not that of n or of the byte after it
    head_zero_lem : (at + 2 ≤ size_at) ⊎ (spare_at + 1 ≤ at) → at + 2 ≤ inbox_at (group_size rs) → head_zero with ≡ head_zero rs
    unfolding head_zero group_size
    head_zero_lem d h =
        let w : List ℕ = with_number 2 (record_in rs 0) at v in
        let spare : get_or w spare_at 0 ≡ get_or (record_in rs 0) spare_at 0 = byte_other 2 (record_in rs 0) at v spare_at (⊎_elim (λ (l : at + 2 ≤ size_at). inr (omega arith)) (λ (l : spare_at + 1 ≤ at). inl l) d) in
        let size : get_or w size_at 0 ≡ get_or (record_in rs 0) size_at 0 = byte_other 2 (record_in rs 0) at v size_at (⊎_elim (λ (l : at + 2 ≤ size_at). inr l) (λ (l : spare_at + 1 ≤ at). inl (omega arith)) d) in
        ap (λ (r : List ℕ). eqb (get_or r spare_at 0) 0 && all_zero (drop (inbox_at (get_or r size_at 0)) r)) head_is
        ∙ (λ i. eqb (spare i) 0 && all_zero (drop (inbox_at (size i)) w))
        ∙ ap (λ (l : List ℕ). eqb (get_or (record_in rs 0) spare_at 0) 0 && all_zero l) (drop_other 2 (record_in rs 0) at v (inbox_at (group_size rs)) h)

  -- another first free record
  module _ (v : ℕ) where
    pub free_set : Small v → first_free (with_first_free rs v) ≡ v
    unfolding first_free with_first_free
    free_set s = head_number free_at v (omega arith) s

    pub free_first : (k : ℕ) → first_of (with_first_free rs v) k ≡ first_of rs k
    unfolding first_of with_first_free inbox_at
    free_first k = head_other free_at v (inbox_at k) (inr (omega arith))

    pub free_head : head_zero (with_first_free rs v) ≡ head_zero rs
    unfolding with_first_free inbox_at
    free_head = head_zero_lem free_at v (inl (omega arith)) (omega arith)

  -- another first record of an inbox
  module _ (k v : ℕ) where
    pub first_set : k < max_nodes → Small v → first_of (with_first_of rs k v) k ≡ v
    unfolding first_of with_first_of inbox_at
    first_set h s = head_number (inbox_at k) v (omega arith) s

    pub first_other : (j : ℕ) → j ≢ k → first_of (with_first_of rs k v) j ≡ first_of rs j
    unfolding first_of with_first_of inbox_at
    first_other j d =
        head_other (inbox_at k) v (inbox_at j)
        (by_order (suc j) k (λ (l : j < k). inl (omega arith)) (λ (l : k < suc j). inr (omega (arith, d))))

    pub first_free_lem : first_free (with_first_of rs k v) ≡ first_free rs
    unfolding first_free with_first_of inbox_at
    first_free_lem = head_other (inbox_at k) v free_at (inl (omega arith))

    pub first_head : k < group_size rs → head_zero (with_first_of rs k v) ≡ head_zero rs
    unfolding with_first_of inbox_at
    first_head h = head_zero_lem (inbox_at k) v (inr (omega arith)) (omega arith)

-- ---- where another record changes

pub next_of_set : (rs : List (List ℕ)) (i j : ℕ) (r : List ℕ) → j ≢ i → next_in (set rs i r) j ≡ next_in rs j
unfolding next_in
next_of_set rs i j r d = ap next_of (set_other rs i j r d)

pub next_other : (rs : List (List ℕ)) (i v j : ℕ) → j ≢ i → next_in (with_next_in rs i v) j ≡ next_in rs j
unfolding with_next_in
next_other rs i v j d = next_of_set rs i j (with_next (record_in rs i) v) d

pub next_head : (rs : List (List ℕ)) (i v : ℕ) → i ≢ 0 → record_in (with_next_in rs i v) 0 ≡ record_in rs 0
unfolding with_next_in
next_head rs i v d = set_other rs i 0 (with_next (record_in rs i) v) (λ z. d (sym z))

pub next_set : (rs : List (List ℕ)) (i v : ℕ) → i < length rs → length (record_in rs i) ≡ record_size → Small v → next_in (with_next_in rs i v) i ≡ v
unfolding next_in with_next_in next_of with_next
next_set rs i v h long s =
    ap (λ (r : List ℕ). number_at 2 r next_at) (set_same rs i (with_number 2 (record_in rs i) next_at v) h)
    ∙ number_of_with 2 (record_in rs i) next_at v (omega arith) s
