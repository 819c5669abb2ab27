-- A turn of each loop of the survey, and where it stops: what is left to do gives the answer.
use Rattle.std.proofs.Common.{◌≡◌, ℕ, zero, suc, ◌+◌, ◌-◌, ◌<◌, Bool, true, false, cond, ◌&&◌, List, [], ◌∷◌, ◌++◌, None, Option, Some, length, get_or, take, sym, refl, ap, add-one, arith, take-suc}
use mathlib.Core.Bool.{and_assoc, and-true}
use Rattle.item.specs.Maxima.{valid_size}
use Rattle.store.specs.declared.Walked.{Walked}
use Rattle.record.specs.Record.{zero_after_next}
use Rattle.store.specs.Records.{record_count, records_of}
use Rattle.store.proofs.Joined.{records_count}
use Rattle.store.specs.Head.{group_size, first_free, first_of, head_zero}
use Rattle.store.specs.Chain.{walked, walk}
use Rattle.store.specs.Sound.{belongs_to, walk_inboxes, walk_free, head_passed, all_passed, all_on_chains, sound_records, last_count, free_count, survey_of}

-- ---- the inboxes, one after the other

pub inboxes_stop : (left n : ℕ) (rs : List (List ℕ)) (k : ℕ) → walk_inboxes left n rs k None ≡ None
unfolding walk_inboxes
inboxes_stop zero n rs k = refl
inboxes_stop (suc left) n rs k = refl

pub inboxes_out : (left n : ℕ) (rs : List (List ℕ)) (k : ℕ) (w : Option Walked) → left ≡ 0 → walk_inboxes left n rs k w ≡ w
unfolding walk_inboxes
inboxes_out left n rs k w e = ap (λ (m : ℕ). walk_inboxes m n rs k w) e

pub inboxes_turn : (n : ℕ) (s : List ℕ) (k first : ℕ) (passed : List Bool) (count : ℕ) (o : Option Walked) → k < n → first ≡ first_of (records_of s) k
    → o ≡ walk (belongs_to n k) record_count (records_of s) first passed 0
    → walk_inboxes (n - k) n (records_of s) k (Some (walked passed count)) ≡ walk_inboxes (n - (k + 1)) n (records_of s) (k + 1) o
unfolding walk_inboxes
inboxes_turn n s k first passed count o l ef eo =
    let m : n - k ≡ suc (n - (k + 1)) = omega arith in
    rw (m, add-one k, eo, ap (λ (m : ℕ). walk (belongs_to n k) m (records_of s) first passed 0) (sym (records_count s)), ef)

-- ---- every record passed

all_passed_append : (a b : List Bool) → all_passed (a ++ b) ≡ all_passed a && all_passed b
unfolding all_passed
all_passed_append [] b = refl
all_passed_append (x ∷ a) b = rw (all_passed_append a b) (sym (and_assoc x (all_passed a) (all_passed b)))

-- one record more, as a loop joins them
pub passed_more : (ps : List Bool) (i : ℕ) (all : Bool) → i < length ps → all ≡ all_passed (take i ps) → all && get_or ps i false ≡ all_passed (take (i + 1) ps)
unfolding all_passed
passed_more ps i all h e = rw (e, add-one, take-suc ps i false h, all_passed_append (take i ps) (get_or ps i false ∷ []), and-true (get_or ps i false))

-- ---- the free chain

pub free_is : (s : List ℕ) (first : ℕ) (passed : List Bool) (o : Option Walked) → first ≡ first_free (records_of s)
    → passed ≡ head_passed record_count → o ≡ walk zero_after_next record_count (records_of s) first passed 0 → o ≡ walk_free (records_of s)
unfolding walk_free
free_is s first passed o ef ep eo = rw (eo, ep, ef, records_count s)

-- ---- what one pass finds

module _ (rs : List (List ℕ)) (n : ℕ) (en : n ≡ group_size rs) where
  pub survey_size : false ≡ valid_size n → survey_of rs ≡ None
  unfolding survey_of sound_records
  survey_size v = rw (← en, ← v)

  pub survey_head : true ≡ valid_size n → false ≡ head_zero rs → survey_of rs ≡ None
  unfolding survey_of sound_records
  survey_head v z = rw (← en, ← v, ← z)

  pub survey_is : (o : Option Walked) → true ≡ valid_size n → true ≡ head_zero rs → o ≡ walk_inboxes n n rs 0 (walk_free rs)
      → survey_of rs ≡ cond (all_on_chains o) (Some (record { n = n; free = last_count (walk_free rs) })) None
  unfolding survey_of sound_records free_count
  survey_is o v z e = rw (← en, ← v, ← z, ← e)
