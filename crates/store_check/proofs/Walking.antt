-- A turn of the loop that follows a chain, and where it stops: what is left to do gives the answer.
use Rattle.std.proofs.Common.{◌≡◌, ℕ, zero, suc, ◌+◌, ◌-◌, ◌*◌, ◌<◌, ◌≤◌, Bool, true, false, ◌≢◌, List, [], ◌∷◌, None, Some, length, get_or, set, sym, refl, ◌∙◌, le_of_suc-le-suc, not-suc-le-zero, add-one, arith, eq-eqb, ne_eqb}
use lib.ListN.{get_or-eq_default}
use Rattle.record.specs.Layout.{record_size, record_of, next_of}
use Rattle.store.specs.Records.{record_count, records_of}
use Rattle.store.proofs.Lent.{record_in_lem}
use Rattle.store.specs.Chain.{next_in, walked, walk}

-- within a list no default is read
pub get_or_within : {A : Type 0} (l : List A) (i : ℕ) (a b : A) → i < length l → get_or l i a ≡ get_or l i b
get_or_within [] i a b h = absurd (not-suc-le-zero h)
get_or_within (x ∷ l) zero a b h = refl
get_or_within (x ∷ l) (suc i) a b h = get_or_within l i a b (le_of_suc-le-suc h)

-- ---- one chain

module _ (b : List ℕ → Bool) (s : List ℕ) (long : length s ≡ record_count * record_size) where
  -- the chain's end, with so many records left to pass or none
  pub walk_ends : (left i : ℕ) (passed : List Bool) (count : ℕ) → i ≡ 0 → walk b left (records_of s) i passed count ≡ Some (walked passed count)
  unfolding walk
  walk_ends zero i passed count z = rw (eq-eqb i 0 z)
  walk_ends (suc left) i passed count z = rw (eq-eqb i 0 z)

  -- no end in time
  pub walk_on : (i : ℕ) (passed : List Bool) (count : ℕ) → i ≢ 0 → walk b 0 (records_of s) i passed count ≡ None
  unfolding walk
  walk_on i passed count d = rw (ne_eqb i 0 d)

  -- a record that is not there
  pub walk_past : (left i : ℕ) (passed : List Bool) (count : ℕ) → i ≢ 0 → length passed ≤ i → walk b left (records_of s) i passed count ≡ None
  unfolding walk
  walk_past zero i passed count d h = rw (ne_eqb i 0 d)
  walk_past (suc left) i passed count d h = rw (ne_eqb i 0 d, get_or-eq_default passed true {n = i} h)

  -- one that was passed before
  pub walk_met : (left i : ℕ) (passed : List Bool) (count : ℕ) → i ≢ 0 → i < length passed → get_or passed i false ≡ true
      → walk b left (records_of s) i passed count ≡ None
  unfolding walk
  walk_met zero i passed count d h p = rw (ne_eqb i 0 d)
  walk_met (suc left) i passed count d h p = rw (ne_eqb i 0 d, get_or_within passed i true false h ∙ p)

  -- one that does not belong on the chain, as the test's answer r says
  pub walk_other : {r : Bool} (left i : ℕ) (passed : List Bool) (count : ℕ) → i ≢ 0 → i < length passed → get_or passed i false ≡ false
      → r ≡ b (record_of s i) → r ≡ false → walk b left (records_of s) i passed count ≡ None
  unfolding walk
  walk_other zero i passed count d h p a r = rw (ne_eqb i 0 d)
  walk_other (suc left) i passed count d h p a r =
      rw (ne_eqb i 0 d, get_or_within passed i true false h ∙ p, record_in_lem s long i, sym a ∙ r)

  -- and one that does: a turn of the loop
  pub walk_turn : {r : Bool} (count i next : ℕ) (passed : List Bool) → count < record_count → i ≢ 0 → i < length passed → get_or passed i false ≡ false
      → r ≡ b (record_of s i) → r ≡ true → next ≡ next_of (record_of s i)
      → walk b (record_count - count) (records_of s) i passed count ≡ walk b (record_count - (count + 1)) (records_of s) next (set passed i true) (count + 1)
  unfolding walk next_in
  walk_turn count i next passed l d h e a r en =
      let k : record_count - count ≡ suc (record_count - (count + 1)) = omega arith in
      rw (k, ne_eqb i 0 d, get_or_within passed i true false h ∙ e, record_in_lem s long i, sym a ∙ r, en, add-one count)
