-- What following a chain tells: it succeeds exactly if the chain ends in time, no record of it was passed before, none stands
-- on it twice, and all belong. Afterwards those are passed that were before, and those of the chain.
use Prim.Native.Nat.{ℕ, zero, suc, ◌+◌, ◌≤◌, ◌<◌}
use mathlib.Core.Path.{◌≡◌, refl, sym, ap, subst, ◌∙◌}
use mathlib.Core.Bool.{Bool, true, false, false≢true}
use mathlib.Core.Logic.{◌≢◌}
use Rattle.std.specs.Prelude.{None, Option, Some, IfSome}
use mathlib.Core.List.{List, [], ◌∷◌}
use native.Mathlib.Omega.{arith}
use native.Mathlib.Nat.{not-suc-le-zero, le_of_suc-le-suc}
use lib.Dec.{eqb}
use borrow.Author.Tests.{eqb-true, eqb-false, eq-eqb, ne_eqb}
use lib.ListN.{length, get_or, set, replicate, length-set, length-replicate, get_or-replicate, get_or-eq_default}
use lib.Seq.{get_or-set_same, get_or-set_other}
use Rattle.item.proofs.Tests.{by_cond, and_left, and_right, and_both}
use Rattle.endian.proofs.PartLaws.{by_order}
use Rattle.store.specs.declared.Walked.{Walked}
use Rattle.store.specs.Records.{record_in}
use Rattle.store.specs.Head.{first_of}
use Rattle.store.specs.Chain.{next_in, chain_from, walked, walk}
use Rattle.store.specs.Sound.{belongs_to, walk_inboxes, all_passed, head_passed}
use Rattle.store_laws.specs.Lists.{bit, times, times_on, inbox_list}
use Rattle.store_laws.specs.Standing.{Leads, IsChain}
use Rattle.store_laws.proofs.Times.{bit_same, bit_other, bit_true, bit_false, by_same, stands_cases, stands_head, stands_tail}
use Rattle.store_laws.proofs.Leads.{chain_from_lem}

-- whether record r was passed, as a number; a record that is not there counts as passed
abbrev pub mark : List Bool → ℕ → ℕ
mark passed r = bit (get_or passed r true)

-- record i, not passed before, is
pub mark_set : (passed : List Bool) (i r : ℕ) → get_or passed i true ≡ false → mark (set passed i true) r ≡ bit (eqb i r) + mark passed r
mark_set passed i r e =
    by_same i r
    (λ s. omega (arith, bit_same i r s, ap bit (subst (λ (k : ℕ). get_or (set passed i true) k true ≡ true) s (get_or-set_same passed i true true there)), ap bit (subst (λ (k : ℕ). get_or passed k true ≡ false) s e)))
    (λ d. omega (arith, bit_other i r d, ap bit (get_or-set_other passed i r true true (λ z. d (sym z)))))
  where
    there : i < length passed
    there =
        by_order (suc i) (length passed) (λ h. h)
        (λ h. absurd (false≢true (sym e ∙ get_or-eq_default passed true (omega arith))))

-- what holds of a value that is there follows from what else does
pub if_some : {T : Type 0} {P Q : T → Type 0} (o : Option T) → ((x : T) → P x → Q x) → IfSome o P → IfSome o Q
if_some None h p = tt
if_some (Some x) h p = h x p

-- chains were followed to their ends
abbrev pub Gives : Option Walked → Type 0
Gives o = (w : Walked) × (o ≡ Some w)

-- l is a chain of records that belong on it, followed to its end, and these are passed now
pub record Followed (belongs : List ℕ → Bool) (left : ℕ) (rs : List (List ℕ)) (i : ℕ) (passed : List Bool) (count : ℕ) (w : Walked) (l : List ℕ) : Type 0 where
  pub chain : IsChain rs i l
  pub short : length l ≤ left
  pub each : (r : ℕ) → 0 < times r l → belongs (record_in rs r) ≡ true
  pub counted : w.count ≡ count + length l
  pub marks : (r : ℕ) → mark w.passed r ≡ mark passed r + times r l

module _ (belongs : List ℕ → Bool) (rs : List (List ℕ)) where
  -- at the chain's end
  followed_end : (left i : ℕ) (passed : List Bool) (count : ℕ) → i ≡ 0 → Followed belongs left rs i passed count (walked passed count) []
  unfolding Leads times
  followed_end left i passed count e =
      record {
        chain = e;
        short = omega arith;
        each = λ r h. absurd (not-suc-le-zero h);
        counted = omega arith;
        marks = λ r. omega arith;
      }

  -- one record before
  followed_more : (left i : ℕ) (passed : List Bool) (count : ℕ) (w : Walked) (l : List ℕ) → i ≢ 0 → get_or passed i true ≡ false → belongs (record_in rs i) ≡ true
      → Followed belongs left rs (next_in rs i) (set passed i true) (suc count) w l → Followed belongs (suc left) rs i passed count w (i ∷ l)
  unfolding Leads times
  followed_more left i passed count w l d free b f =
      record {
        chain = (refl, d, f.chain);
        short = omega (arith, f.short);
        each = λ r h. stands_cases r i l (λ e. ap (λ (k : ℕ). belongs (record_in rs k)) e ∙ b) (f.each r) h;
        counted = omega (arith, f.counted);
        marks = λ r. omega (arith, f.marks r, mark_set passed i r free);
      }

  abbrev FollowedSome : ℕ → ℕ → List Bool → ℕ → Option Walked → Type 0
  FollowedSome left i passed count o = IfSome o (λ (w : Walked). (l : List ℕ) × Followed belongs left rs i passed count w l)

  walk_some : (left i : ℕ) (passed : List Bool) (count : ℕ) → FollowedSome left i passed count (walk belongs left rs i passed count)
  unfolding walk
  walk_some zero i passed count =
      by_cond (FollowedSome zero i passed count) (eqb i 0) _ _
      (λ z. ([], followed_end zero i passed count (eqb-true i 0 z)))
      (λ _. tt)
  walk_some (suc left) i passed count =
      by_cond Goal (eqb i 0) _ _
      (λ z. ([], followed_end (suc left) i passed count (eqb-true i 0 z)))
      (λ z. by_cond Goal (get_or passed i true) _ _
      (λ _. tt)
      (λ free. by_cond Goal (belongs (record_in rs i)) _ _
      (λ b. if_some (walk belongs left rs (next_in rs i) (set passed i true) (suc count))
      (λ w f. (i ∷ f.0, followed_more left i passed count w f.0 (eqb-false i 0 z) free b f.1))
      (walk_some left (next_in rs i) (set passed i true) (suc count)))
      (λ _. tt)))
    where
      Goal : Option Walked → Type 0
      Goal = FollowedSome (suc left) i passed count

  -- it succeeded: so there is the chain
  pub walk_chain : (left i : ℕ) (passed : List Bool) (count : ℕ) (w : Walked) → walk belongs left rs i passed count ≡ Some w
      → Followed belongs left rs i passed count w (chain_from left rs i)
  walk_chain left i passed count w e =
      let f : (l : List ℕ) × Followed belongs left rs i passed count w l = subst (FollowedSome left i passed count) e (walk_some left i passed count) in
      subst (Followed belongs left rs i passed count w) (sym (chain_from_lem rs f.0 left i f.1.chain f.1.short)) f.1

  -- there is the chain: so it succeeds
  pub chain_walk : (l : List ℕ) (left i : ℕ) (passed : List Bool) (count : ℕ) → IsChain rs i l → length l ≤ left
      → ((r : ℕ) → 0 < times r l → belongs (record_in rs r) ≡ true) → ((r : ℕ) → mark passed r + times r l ≤ 1)
      → Gives (walk belongs left rs i passed count)
  unfolding walk Leads times
  chain_walk [] zero i passed count p h b m = (walked passed count, rw (eq-eqb i 0 p))
  chain_walk [] (suc left) i passed count p h b m = (walked passed count, rw (eq-eqb i 0 p))
  chain_walk (x ∷ l) zero i passed count p h b m = absurd (not-suc-le-zero h)
  chain_walk (x ∷ l) (suc left) i passed count p h b m =
      let free : get_or passed x true ≡ false = bit_false (get_or passed x true) (omega (arith, m x, bit_same x x refl)) in
      let rest : Gives (walk belongs left rs (next_in rs x) (set passed x true) (suc count)) =
      chain_walk l left (next_in rs x) (set passed x true) (suc count) p.2 (le_of_suc-le-suc h)
      (λ r k. b r (stands_tail r x l k))
      (λ r. omega (arith, m r, mark_set passed x r free)) in
      (rest.0, ap (λ (k : ℕ). walk belongs (suc left) rs k passed count) (sym p.0) ∙ rw (ne_eqb x 0 p.1, free, b x (stands_head x l)) refl ∙ rest.1)

-- ---- the inboxes of the nodes from k on, one after the other

module _ (n : ℕ) (rs : List (List ℕ)) where
  -- each is a chain of records that belong to its owner
  pub record Inboxes (left k : ℕ) : Type 0 where
    pub chain : (j : ℕ) → k ≤ j → j < k + left → IsChain rs (first_of rs j) (inbox_list rs j)
    pub each : (j : ℕ) → k ≤ j → j < k + left → (r : ℕ) → 0 < times r (inbox_list rs j) → belongs_to n j (record_in rs r) ≡ true
    pub short : (j : ℕ) → k ≤ j → j < k + left → length (inbox_list rs j) ≤ length rs

  inboxes_none : (k : ℕ) → Inboxes 0 k
  inboxes_none k = record { chain = λ j a b. absurd (omega arith); each = λ j a b. absurd (omega arith); short = λ j a b. absurd (omega arith) }

  inboxes_more : (left k : ℕ) → IsChain rs (first_of rs k) (inbox_list rs k)
      → ((r : ℕ) → 0 < times r (inbox_list rs k) → belongs_to n k (record_in rs r) ≡ true) → length (inbox_list rs k) ≤ length rs
      → Inboxes left (suc k) → Inboxes (suc left) k
  inboxes_more left k c e s i =
      record {
        chain = λ j a b. by_same k j (λ z. subst (λ (m : ℕ). IsChain rs (first_of rs m) (inbox_list rs m)) z c) (λ d. i.chain j (omega arith) (omega arith));
        each = λ j a b. by_same k j
            (λ z. subst (λ (m : ℕ). (r : ℕ) → 0 < times r (inbox_list rs m) → belongs_to n m (record_in rs r) ≡ true) z e)
            (λ d. i.each j (omega arith) (omega arith));
        short = λ j a b. by_same k j (λ z. subst (λ (m : ℕ). length (inbox_list rs m) ≤ length rs) z s) (λ d. i.short j (omega arith) (omega arith));
      }

  pub record FollowedAll (left k : ℕ) (o : Option Walked) (w : Walked) : Type 0 where
    pub first : Walked
    pub before : o ≡ Some first
    pub inboxes : Inboxes left k
    pub marks : (r : ℕ) → mark w.passed r ≡ mark first.passed r + times_on r left (inbox_list rs) k

  abbrev inbox_walk : ℕ → List Bool → Option Walked
  inbox_walk k passed = walk (belongs_to n k) (length rs) rs (first_of rs k) passed 0

  walk_inbox : (k : ℕ) (passed : List Bool) (w : Walked) → inbox_walk k passed ≡ Some w
      → Followed (belongs_to n k) (length rs) rs (first_of rs k) passed 0 w (inbox_list rs k)
  unfolding inbox_list
  walk_inbox k passed w e = walk_chain (belongs_to n k) rs (length rs) (first_of rs k) passed 0 w e

  pub inboxes_chains : (left k : ℕ) (o : Option Walked) → IfSome (walk_inboxes left n rs k o) (FollowedAll left k o)
  unfolding walk_inboxes times_on
  inboxes_chains zero k None = tt
  inboxes_chains zero k (Some w) = record { first = w; before = refl; inboxes = inboxes_none k; marks = λ r. omega arith }
  inboxes_chains (suc left) k None = tt
  inboxes_chains (suc left) k (Some w) =
      if_some (walk_inboxes left n rs (suc k) (inbox_walk k w.passed)) more (inboxes_chains left (suc k) (inbox_walk k w.passed))
    where
      more : (w' : Walked) → FollowedAll left (suc k) (inbox_walk k w.passed) w' → FollowedAll (suc left) k (Some w) w'
      more w' a =
          let f = walk_inbox k w.passed a.first a.before in
          record {
            first = w;
            before = refl;
            inboxes = inboxes_more left k f.chain f.each f.short a.inboxes;
            marks = λ r. omega (arith, a.marks r, f.marks r);
          }

  -- and of chains that were followed to their ends
  pub followed_all : (left k : ℕ) (o : Option Walked) (w : Walked) → walk_inboxes left n rs k o ≡ Some w → FollowedAll left k o w
  followed_all left k o w e = subst (λ (v : Option Walked). IfSome v (FollowedAll left k o)) e (inboxes_chains left k o)

  pub chains_inboxes : (left k : ℕ) (w : Walked) → Inboxes left k → ((r : ℕ) → mark w.passed r + times_on r left (inbox_list rs) k ≤ 1)
      → Gives (walk_inboxes left n rs k (Some w))
  unfolding walk_inboxes times_on
  chains_inboxes zero k w i m = (w, refl)
  chains_inboxes (suc left) k w i m =
      let good : Gives (inbox_walk k w.passed) =
      chain_walk (belongs_to n k) rs (inbox_list rs k) (length rs) (first_of rs k) w.passed 0
      (i.chain k (omega arith) (omega arith)) (i.short k (omega arith) (omega arith)) (i.each k (omega arith) (omega arith)) (λ r. omega (arith, m r)) in
      subst (λ (o : Option Walked). Gives (walk_inboxes left n rs (suc k) o)) (sym good.1)
      (chains_inboxes left (suc k) good.0
      (record {
        chain = λ j a b. i.chain j (omega arith) (omega arith);
        each = λ j a b. i.each j (omega arith) (omega arith);
        short = λ j a b. i.short j (omega arith) (omega arith);
      })
      (λ r. omega (arith, m r, (walk_inbox k w.passed good.0 good.1).marks r)))

-- ---- what is passed before and after all

pub head_marks : (count r : ℕ) → r ≢ 0 → r < count → mark (head_passed count) r ≡ 0
unfolding head_passed
head_marks count r d h =
    ap bit (get_or-set_other (replicate count false) 0 r true true d ∙ get_or-replicate count r false true h)

pub head_passed_lem : (count : ℕ) → mark (head_passed count) 0 ≡ 1
unfolding head_passed
head_passed_lem zero = refl
head_passed_lem (suc count) = refl

pub beyond_passed : (count r : ℕ) → count ≤ r → mark (head_passed count) r ≡ 1
unfolding head_passed
beyond_passed count r h =
    ap bit (get_or-eq_default (set (replicate count false) 0 true) true (omega (arith, length-set (replicate count false) 0 true, length-replicate count false)))

pub all_passed_lem : (l : List Bool) → all_passed l ≡ true → (r : ℕ) → mark l r ≡ 1
unfolding all_passed
all_passed_lem [] e r = refl
all_passed_lem (p ∷ l) e zero = ap bit (and_left p (all_passed l) e)
all_passed_lem (p ∷ l) e (suc r) = all_passed_lem l (and_right p (all_passed l) e) r

pub passed_all : (l : List Bool) → ((r : ℕ) → mark l r ≡ 1) → all_passed l ≡ true
unfolding all_passed
passed_all [] m = refl
passed_all (p ∷ l) m = and_both (bit_true p (m 0)) (passed_all l (λ r. m (suc r)))
