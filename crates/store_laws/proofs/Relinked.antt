-- Records moved between the free chain and one inbox: what must hold of the changed records so that they stand on chains as
-- before, but for those two.
use Prim.Native.Nat.{ℕ, suc, ◌+◌, ◌≤◌, ◌<◌}
use mathlib.Core.Path.{◌≡◌, sym, ap, subst, ◌∙◌}
use mathlib.Core.Bool.{true}
use mathlib.Core.Logic.{◌≢◌}
use mathlib.Core.List.{List}
use native.Mathlib.Omega.{arith}
use lib.ListN.{length}
use Rattle.endian.proofs.PartLaws.{by_order}
use Rattle.record.specs.Record.{zero_after_next}
use Rattle.store.specs.Records.{record_in}
use Rattle.store.specs.Head.{first_free, group_size, first_of}
use Rattle.store.specs.Chain.{next_in}
use Rattle.store.specs.Sound.{addressed_to, belongs_to}
use Rattle.store.proofs.Bytes.{Alike, alike_read}
use Rattle.store_laws.specs.Lists.{times, times_on}
use Rattle.store_laws.specs.Standing.{IsChain, standing, OnChains}
use Rattle.store_laws.proofs.Times.{by_same, times_on_change, stands_on, stands_two, changed, changed_at, changed_other}
use Rattle.store_laws.proofs.Leads.{leads_same}
use Rattle.store_laws.proofs.OnChains.{head_on_none, at_most_once, inbox_short}
use Rattle.store_laws.proofs.Inbox.{IsInbox}

-- ---- a record that stands on one chain stands on no other

module _ {rs : List (List ℕ)} {free : List ℕ} {inbox : ℕ → List ℕ} (c : OnChains rs free inbox) (y : ℕ) where
  on_there : 0 < standing rs free inbox y → y < length rs
  on_there h = by_order (suc y) (length rs) (λ l. l) (λ l. absurd (omega (arith, c.no_other y (omega arith))))

  on_inner : 0 < standing rs free inbox y → y ≢ 0
  on_inner h z = absurd (omega (arith, head_on_none c, ap (standing rs free inbox) z))

  pub free_there : 0 < times y free → y < length rs
  free_there h = on_there (omega arith)

  pub free_inner : 0 < times y free → y ≢ 0
  free_inner h = on_inner (omega arith)

  module _ (j : ℕ) (low : j < group_size rs) where
    pub inbox_there : 0 < times y (inbox j) → y < length rs
    inbox_there h = on_there (omega (arith, stands_on y (group_size rs) inbox 0 j (omega arith) (omega arith)))

    pub inbox_inner : 0 < times y (inbox j) → y ≢ 0
    inbox_inner h = on_inner (omega (arith, stands_on y (group_size rs) inbox 0 j (omega arith) (omega arith)))

    pub free_alone : 0 < times y free → times y (inbox j) ≡ 0
    free_alone h = omega (arith, at_most_once c y, stands_on y (group_size rs) inbox 0 j (omega arith) (omega arith))

    pub inbox_alone : 0 < times y (inbox j) → times y free ≡ 0
    inbox_alone h = omega (arith, at_most_once c y, stands_on y (group_size rs) inbox 0 j (omega arith) (omega arith))

    pub inbox_once : times y (inbox j) ≤ 1
    inbox_once = omega (arith, at_most_once c y, stands_on y (group_size rs) inbox 0 j (omega arith) (omega arith))

    pub inbox_only : (k : ℕ) → k < group_size rs → j ≢ k → 0 < times y (inbox j) → times y (inbox k) ≡ 0
    inbox_only k b d h = omega (arith, at_most_once c y, stands_two y (group_size rs) inbox 0 j k d (omega arith) (omega arith) (omega arith) (omega arith))

pub is_inbox : {rs : List (List ℕ)} {free : List ℕ} {inbox : ℕ → List ℕ} → OnChains rs free inbox → (j : ℕ) → j < group_size rs → IsInbox rs j (inbox j)
is_inbox c j low =
    record {
      chain = c.inbox_chain j low;
      once = λ y. inbox_once c y j low;
      there = λ y h. inbox_there c y j low h;
      short = inbox_short c j low;
    }

-- ---- the change

-- records rs', in which `free'` is the free chain and l node k's inbox; every other inbox is as it was
pub record Relinked (rs rs' : List (List ℕ)) (free free' : List ℕ) (inbox : ℕ → List ℕ) (k : ℕ) (l : List ℕ) : Type 0 where
  pub size : group_size rs' ≡ group_size rs
  pub count : length rs' ≡ length rs
  pub free_chain : IsChain rs' (first_free rs') free'
  pub inbox_chain : IsChain rs' (first_of rs' k) l
  pub first : (j : ℕ) → j ≢ k → first_of rs' j ≡ first_of rs j
  -- what one of the two lists gains the other loses
  pub moved : (r : ℕ) → times r free' + times r l ≡ times r free + times r (inbox k)
  pub next : (j : ℕ) → j < group_size rs → j ≢ k → (r : ℕ) → 0 < times r (inbox j) → next_in rs' r ≡ next_in rs r
  pub alike : (j : ℕ) → j < group_size rs → j ≢ k → (r : ℕ) → 0 < times r (inbox j) → Alike (record_in rs' r) (record_in rs r)
  pub zero_free : (r : ℕ) → 0 < times r free' → zero_after_next (record_in rs' r) ≡ true
  pub owned : (r : ℕ) → 0 < times r l → belongs_to (group_size rs) k (record_in rs' r) ≡ true

pub alike_belongs : {r q : List ℕ} → Alike r q → (n k : ℕ) → belongs_to n k r ≡ belongs_to n k q
unfolding belongs_to
alike_belongs a n k = ap (addressed_to n k) (alike_read a n)

module _ {rs rs' : List (List ℕ)} {free free' : List ℕ} {inbox : ℕ → List ℕ} {k : ℕ} {l : List ℕ} (c : OnChains rs free inbox) (low : k < group_size rs)
    (d : Relinked rs rs' free free' inbox k l) where
  chain_after : (j : ℕ) → j < group_size rs → IsChain rs' (first_of rs' j) (changed inbox k l j)
  chain_after j h =
      by_same j k
      (λ e. subst (λ (i : ℕ). IsChain rs' (first_of rs' i) (changed inbox k l i)) (sym e) (subst (IsChain rs' (first_of rs' k)) (sym (changed_at inbox k l)) d.inbox_chain))
      (λ z. subst (IsChain rs' (first_of rs' j)) (sym (changed_other inbox k l j z))
      (subst (λ (i : ℕ). IsChain rs' i (inbox j)) (sym (d.first j z))
      (leads_same rs rs' (first_of rs j) (inbox j) 0 (λ y _ t. d.next j h z y t) (c.inbox_chain j h))))

  owned_after : (j : ℕ) → j < group_size rs → (r : ℕ) → 0 < times r (changed inbox k l j) → belongs_to (group_size rs) j (record_in rs' r) ≡ true
  owned_after j h r t =
      by_same j k
      (λ e. ap (λ (i : ℕ). belongs_to (group_size rs) i (record_in rs' r)) e ∙ d.owned r (subst (λ (m : List ℕ). 0 < times r m) (ap (changed inbox k l) e ∙ changed_at inbox k l) t))
      (λ z.
      let u : 0 < times r (inbox j) = subst (λ (m : List ℕ). 0 < times r m) (changed_other inbox k l j z) t in
      alike_belongs (d.alike j h z r u) (group_size rs) j ∙ c.inbox_owned j h r u)

  standing_after : (r : ℕ) → standing rs' free' (changed inbox k l) r ≡ standing rs free inbox r
  standing_after r =
      ap (λ (m : ℕ). times r free' + times_on r m (changed inbox k l) 0) d.size
      ∙ omega (arith, times_on_change r (group_size rs) inbox (changed inbox k l) 0 k (omega arith) (omega arith) (changed_other inbox k l), ap (times r) (changed_at inbox k l), d.moved r)

  pub relinked_chains : OnChains rs' free' (changed inbox k l)
  relinked_chains =
      record {
        free_chain = d.free_chain;
        inbox_chain = λ j h. chain_after j (omega (arith, d.size));
        once = λ r z h. standing_after r ∙ c.once r z (omega (arith, d.count));
        no_other = λ r h. standing_after r ∙ c.no_other r (omega (arith, d.count));
        free_zero = d.zero_free;
        inbox_owned = λ j h r t. ap (λ (m : ℕ). belongs_to m j (record_in rs' r)) d.size ∙ owned_after j (omega (arith, d.size)) r t;
      }
