-- The executable definition of a sound store means what document 01 says of its records: the law goes both ways.
use Prim.Native.Nat.{ℕ, ◌+◌, ◌≤◌, ◌<◌}
use mathlib.Core.Path.{◌≡◌, refl, sym, ap, subst, ◌∙◌}
use mathlib.Core.Bool.{true, false≢true}
use mathlib.Core.List.{List}
use native.Mathlib.Omega.{arith}
use lib.ListN.{length}
use Rattle.std.specs.Prelude.{None, Option, Some}
use Rattle.item.specs.Maxima.{valid_size}
use Rattle.item.proofs.Tests.{and_left, and_right, and_both}
use Rattle.endian.proofs.PartLaws.{by_order}
use Rattle.record.specs.Record.{zero_after_next}
use Rattle.store.specs.declared.Walked.{Walked}
use Rattle.store.specs.Head.{first_free, group_size, first_of, head_zero}
use Rattle.store.specs.Sound.{walk_inboxes, all_passed, head_passed, walk_free, all_on_chains, last_count, sound_records, free_count}
use Rattle.store_laws.specs.Lists.{times, times_on, free_list, inbox_list}
use Rattle.store_laws.specs.Standing.{IsChain, standing, OnChains, SoundMeans}
use Rattle.store_laws.proofs.Times.{by_same, times_on_same, stands_on, stands_where, length_most}
use Rattle.store_laws.proofs.Leads.{chain_from_lem, never_zero}
use Rattle.store_laws.proofs.Walk.{mark, Gives, Followed, FollowedAll, walk_chain, chain_walk, followed_all, chains_inboxes, head_marks, head_passed_lem, beyond_passed, all_passed_lem, passed_all}

-- ---- there is one way only

module _ {rs : List (List ℕ)} {free : List ℕ} {inbox : ℕ → List ℕ} (c : OnChains rs free inbox) where
  pub head_on_none : standing rs free inbox 0 ≡ 0
  head_on_none =
      by_same (times_on 0 (group_size rs) inbox 0) 0
      (λ e. omega (arith, never_zero rs (first_free rs) free 0 c.free_chain))
      (λ d.
      let w = stands_where 0 (group_size rs) inbox 0 (omega arith) in
      absurd (omega (arith, never_zero rs (first_of rs w.0) (inbox w.0) 0 (c.inbox_chain w.0 (omega (arith, w.1))), w.2)))

  pub at_most_once : (r : ℕ) → standing rs free inbox r ≤ 1
  at_most_once r =
      by_same r 0
      (λ e. subst (λ (k : ℕ). standing rs free inbox k ≤ 1) (sym e) (omega (arith, head_on_none)))
      (λ d. by_order (length rs) r (λ h. omega (arith, c.no_other r h)) (λ h. omega (arith, c.once r d h)))

  pub free_short : length free ≤ length rs
  free_short = length_most (length rs) free (λ r h. omega (arith, c.no_other r h)) (λ r. omega (arith, at_most_once r))

  pub inbox_short : (k : ℕ) → k < group_size rs → length (inbox k) ≤ length rs
  inbox_short k h =
      length_most (length rs) (inbox k)
      (λ r l. omega (arith, c.no_other r l, stands_on r (group_size rs) inbox 0 k (omega arith) (omega arith)))
      (λ r. omega (arith, at_most_once r, stands_on r (group_size rs) inbox 0 k (omega arith) (omega arith)))

  pub free_is : free_list rs ≡ free
  unfolding free_list
  free_is = chain_from_lem rs free (length rs) (first_free rs) c.free_chain free_short

  pub inbox_is : (k : ℕ) → k < group_size rs → inbox_list rs k ≡ inbox k
  unfolding inbox_list
  inbox_is k h = chain_from_lem rs (inbox k) (length rs) (first_of rs k) (c.inbox_chain k h) (inbox_short k h)

  pub standing_is : (r : ℕ) → standing rs (free_list rs) (inbox_list rs) r ≡ standing rs free inbox r
  standing_is r = λ i. times r (free_is i) + times_on_same r (group_size rs) inbox (inbox_list rs) 0 (λ k a b. inbox_is k (omega arith)) i

  -- so these lists are the chains that the definitions follow
  pub chains_are : OnChains rs (free_list rs) (inbox_list rs)
  chains_are =
      record {
        free_chain = subst (IsChain rs (first_free rs)) (sym free_is) c.free_chain;
        inbox_chain = λ k h. subst (IsChain rs (first_of rs k)) (sym (inbox_is k h)) (c.inbox_chain k h);
        once = λ r d h. standing_is r ∙ c.once r d h;
        no_other = λ r h. standing_is r ∙ c.no_other r h;
        free_zero = λ r h. c.free_zero r (subst (λ (l : List ℕ). 0 < times r l) free_is h);
        inbox_owned = λ k b r h. c.inbox_owned k b r (subst (λ (l : List ℕ). 0 < times r l) (inbox_is k b) h);
      }

-- ---- the executable definition means it

pub sound_valid : (rs : List (List ℕ)) → sound_records rs ≡ true → valid_size (group_size rs) ≡ true
unfolding sound_records
sound_valid rs e = and_left (valid_size (group_size rs)) _ e

pub sound_head : (rs : List (List ℕ)) → sound_records rs ≡ true → head_zero rs ≡ true
unfolding sound_records
sound_head rs e = and_left (head_zero rs) _ (and_right (valid_size (group_size rs)) _ e)

-- the free chain followed, and then all inboxes
abbrev all_followed : List (List ℕ) → Option Walked
all_followed rs = walk_inboxes (group_size rs) (group_size rs) rs 0 (walk_free rs)

module _ (rs : List (List ℕ)) (e : sound_records rs ≡ true) where
  all_on_chains_lem : all_on_chains (all_followed rs) ≡ true
  unfolding sound_records
  all_on_chains_lem = and_right (head_zero rs) _ (and_right (valid_size (group_size rs)) _ e)

  ends : (w : Walked) × (all_followed rs ≡ Some w) × (all_passed w.passed ≡ true)
  unfolding all_on_chains
  ends = go (all_followed rs) all_on_chains_lem
    where
      go : (o : Option Walked) → all_on_chains o ≡ true → (w : Walked) × (o ≡ Some w) × (all_passed w.passed ≡ true)
      go None z = absurd (false≢true z)
      go (Some w) z = (w, refl, z)

  inboxes_followed : FollowedAll (group_size rs) rs (group_size rs) 0 (walk_free rs) ends.0
  inboxes_followed = followed_all (group_size rs) rs (group_size rs) 0 (walk_free rs) ends.0 ends.1

  free_followed : Followed zero_after_next (length rs) rs (first_free rs) (head_passed (length rs)) 0 inboxes_followed.first (free_list rs)
  unfolding walk_free free_list
  free_followed = walk_chain zero_after_next rs (length rs) (first_free rs) (head_passed (length rs)) 0 inboxes_followed.first inboxes_followed.before

  -- at the end every record was passed
  all_marks : (r : ℕ) → mark (head_passed (length rs)) r + standing rs (free_list rs) (inbox_list rs) r ≡ 1
  all_marks r = omega (arith, free_followed.marks r, inboxes_followed.marks r, all_passed_lem ends.0.passed ends.2 r)

  -- the records of a sound store stand on chains as document 01 says
  pub sound_chains : OnChains rs (free_list rs) (inbox_list rs)
  sound_chains =
      record {
        free_chain = free_followed.chain;
        inbox_chain = λ k h. inboxes_followed.inboxes.chain k (omega arith) (omega arith);
        once = λ r d h. omega (arith, all_marks r, head_marks (length rs) r d h);
        no_other = λ r h. omega (arith, all_marks r, beyond_passed (length rs) r h);
        free_zero = free_followed.each;
        inbox_owned = λ k h. inboxes_followed.inboxes.each k (omega arith) (omega arith);
      }

  -- how many records are free
  pub free_count_lem : free_count rs ≡ length (free_list rs)
  unfolding free_count last_count
  free_count_lem = ap last_count inboxes_followed.before ∙ omega (arith, free_followed.counted)

-- and records that do are sound
module _ {rs : List (List ℕ)} (c : OnChains rs (free_list rs) (inbox_list rs)) where
  marked : (r : ℕ) → mark (head_passed (length rs)) r + standing rs (free_list rs) (inbox_list rs) r ≡ 1
  marked r =
      by_same r 0
      (λ e. subst (λ (k : ℕ). mark (head_passed (length rs)) k + standing rs (free_list rs) (inbox_list rs) k ≡ 1) (sym e) (omega (arith, head_on_none c, head_passed_lem (length rs))))
      (λ d. by_order (length rs) r
      (λ h. omega (arith, c.no_other r h, beyond_passed (length rs) r h))
      (λ h. omega (arith, c.once r d h, head_marks (length rs) r d h)))

  free_ok : Gives (walk_free rs)
  unfolding walk_free
  free_ok =
      chain_walk zero_after_next rs (free_list rs) (length rs) (first_free rs) (head_passed (length rs)) 0
      c.free_chain (free_short c) c.free_zero (λ r. omega (arith, marked r))

  free_marks : (w : Walked) → walk_free rs ≡ Some w → (r : ℕ) → mark w.passed r ≡ mark (head_passed (length rs)) r + times r (free_list rs)
  unfolding walk_free free_list
  free_marks w e = (walk_chain zero_after_next rs (length rs) (first_free rs) (head_passed (length rs)) 0 w e).marks

  inboxes_ok : Gives (all_followed rs)
  inboxes_ok =
      subst (λ (o : Option Walked). Gives (walk_inboxes (group_size rs) (group_size rs) rs 0 o)) (sym free_ok.1)
      (chains_inboxes (group_size rs) rs (group_size rs) 0 free_ok.0
      (record {
        chain = λ k _ h. c.inbox_chain k (omega arith);
        each = λ k _ h. c.inbox_owned k (omega arith);
        short = λ k _ h. inbox_short c k (omega arith);
      })
      (λ r. omega (arith, free_marks free_ok.0 free_ok.1 r, marked r)))

  all_ok : all_on_chains (all_followed rs) ≡ true
  unfolding all_on_chains
  all_ok =
      let f = followed_all (group_size rs) rs (group_size rs) 0 (walk_free rs) inboxes_ok.0 inboxes_ok.1 in
      ap all_on_chains inboxes_ok.1
      ∙ passed_all inboxes_ok.0.passed (λ r. omega (arith, f.marks r, free_marks f.first f.before r, marked r))

pub chains_sound : {rs : List (List ℕ)} {free : List ℕ} {inbox : ℕ → List ℕ} → valid_size (group_size rs) ≡ true → head_zero rs ≡ true
    → OnChains rs free inbox → sound_records rs ≡ true
unfolding sound_records
chains_sound v z c = and_both v (and_both z (all_ok (chains_are c)))

pub sound_means : SoundMeans
unfolding SoundMeans
sound_means rs = (
  λ e. record { valid = sound_valid rs e; head = sound_head rs e; free = free_list rs; inbox = inbox_list rs; on_chains = sound_chains rs e },
  λ d. chains_sound d.valid d.head d.on_chains,
)
