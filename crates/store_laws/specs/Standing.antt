-- A sound store (document 01): "every record from 1 stands once on exactly one chain (free or inbox), free records are zero
-- after next, and inbox records are readable with sender below n, not the addressee, and addressee the inbox's owner", said
-- of lists of records.
use Rattle.std.specs.Prelude.{ℕ, ◌+◌, ◌≤◌, ◌<◌, ◌≡◌, true, ◌≢◌, List, [], ◌∷◌, length}
use Rattle.item.specs.Maxima.{valid_size}
use Rattle.record.specs.Record.{zero_after_next}
use Rattle.store.specs.Chain.{next_in}
use Rattle.store.specs.Records.{record_in}
use Rattle.store.specs.Head.{first_free, group_size, first_of, head_zero}
use Rattle.store.specs.Sound.{belongs_to, sound_records}
use Rattle.store_laws.specs.Lists.{times, times_on}

-- the records of l, one after the other from record i, lead to record j
unfoldable pub Leads : List (List ℕ) → ℕ → List ℕ → ℕ → Type 0
Leads rs i [] j = i ≡ j
Leads rs i (x ∷ l) j = (x ≡ i) × (x ≢ 0) × Leads rs (next_in rs x) l j

-- l is the chain from record i: "zero ends the chain"
abbrev pub IsChain : List (List ℕ) → ℕ → List ℕ → Type 0
IsChain rs i l = Leads rs i l 0

-- how often record r stands on the chains
abbrev pub standing : List (List ℕ) → List ℕ → (ℕ → List ℕ) → ℕ → ℕ
standing rs free inbox r = times r free + times_on r (group_size rs) inbox 0

-- `free` is the free chain and `inbox k` that of node k's inbox, for each node of the group
pub record OnChains (rs : List (List ℕ)) (free : List ℕ) (inbox : ℕ → List ℕ) : Type 0 where
  pub free_chain : IsChain rs (first_free rs) free
  pub inbox_chain : (k : ℕ) → k < group_size rs → IsChain rs (first_of rs k) (inbox k)
  -- "every record from 1 stands once on exactly one chain"
  pub once : (r : ℕ) → r ≢ 0 → r < length rs → standing rs free inbox r ≡ 1
  pub no_other : (r : ℕ) → length rs ≤ r → standing rs free inbox r ≡ 0
  -- "free records are zero after next", inbox records are as they should be
  pub free_zero : (r : ℕ) → 0 < times r free → zero_after_next (record_in rs r) ≡ true
  pub inbox_owned : (k : ℕ) → k < group_size rs → (r : ℕ) → 0 < times r (inbox k) → belongs_to (group_size rs) k (record_in rs r) ≡ true

-- "n is valid, the head is zero where said above", and the records stand on chains as said
pub record StandSound (rs : List (List ℕ)) : Type 0 where
  pub valid : valid_size (group_size rs) ≡ true
  pub head : head_zero rs ≡ true
  pub free : List ℕ
  pub inbox : ℕ → List ℕ
  pub on_chains : OnChains rs free inbox

-- the executable definition of a sound store means just that
unfoldable pub SoundMeans : Type 0
SoundMeans = (rs : List (List ℕ)) → (sound_records rs ≡ true → StandSound rs) × (StandSound rs → sound_records rs ≡ true)
