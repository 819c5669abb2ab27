-- What `appended` and `unlinked` do to an inbox, whatever the other chains are: the records of the inbox then lead to the new
-- one, or past the one that goes; every other record has its next, and every other chain its first record.
use Prim.Native.Nat.{ℕ, ◌^◌, ◌≤◌, ◌<◌}
use mathlib.Core.Path.{◌≡◌, refl, sym, ap, subst}
use mathlib.Core.Logic.{◌≢◌, ◌⊎◌, inl, inr, ⊎_elim}
use mathlib.Core.List.{List, [], ◌∷◌, ◌++◌, append_assoc}
use native.Mathlib.Omega.{arith}
use borrow.Author.Tests.{eq-eqb, ne_eqb}
use lib.ListN.{length, length-append}
use Rattle.item.specs.Maxima.{max_nodes}
use Rattle.record.specs.Layout.{record_size}
use Rattle.store.specs.Records.{record_in}
use Rattle.store.specs.Head.{first_free, group_size, first_of, head_zero, with_first_of}
use Rattle.store.specs.Chain.{next_in}
use Rattle.store.specs.Change.{with_next_in, appended, unlinked}
use Rattle.store.proofs.Joined.{Sized}
use Rattle.store_laws.specs.Lists.{times}
use Rattle.store_laws.specs.Standing.{Leads, IsChain}
use Rattle.store_laws.proofs.Times.{times_append, times_head, times_rest, stands_head, stands_tail}
use Rattle.store_laws.proofs.Leads.{leads_join, leads_split, leads_same, starts, starts_not, starts_below, last_from_lem, before_from_lem}
use Rattle.store_laws.proofs.Links.{Small, same_free, same_first, same_head, first_set, first_other, first_free_lem, first_head, next_of_set, next_other, next_head, next_set}

-- a change of node k's inbox alone: records that do not stand in `l` keep their next, other chains their first record
pub record InboxChanged (rs rs' : List (List ℕ)) (k : ℕ) (l : List ℕ) : Type 0 where
  pub next_same : (y : ℕ) → y ≢ 0 → times y l ≡ 0 → next_in rs' y ≡ next_in rs y
  pub first_same : (j : ℕ) → j ≢ k → first_of rs' j ≡ first_of rs j
  pub free_same : first_free rs' ≡ first_free rs
  pub head_same : head_zero rs' ≡ head_zero rs

-- l is node k's inbox, of records that are there and stand in it once
pub record IsInbox (rs : List (List ℕ)) (k : ℕ) (l : List ℕ) : Type 0 where
  pub chain : IsChain rs (first_of rs k) l
  pub once : (y : ℕ) → times y l ≤ 1
  pub there : (y : ℕ) → 0 < times y l → y < length rs
  pub short : length l ≤ length rs

-- a list is empty or has a last element
unsnoc : (l : List ℕ) → (l ≡ []) ⊎ ((a : List ℕ) × (x : ℕ) × (l ≡ a ++ (x ∷ [])))
unsnoc [] = inl refl
unsnoc (y ∷ l) = go (unsnoc l)
  where
    go : (l ≡ []) ⊎ ((a : List ℕ) × (x : ℕ) × (l ≡ a ++ (x ∷ []))) → ((y ∷ l) ≡ []) ⊎ ((a : List ℕ) × (x : ℕ) × ((y ∷ l) ≡ a ++ (x ∷ [])))
    go (inl e) = inr ([], y, ap (λ (t : List ℕ). y ∷ t) e)
    go (inr w) = inr (y ∷ w.0, w.1, ap (λ (t : List ℕ). y ∷ t) w.2)

-- records whose numbers a next can say, and node k of their group
module _ (rs : List (List ℕ)) (sized : Sized record_size rs) (few : length rs ≤ 256 ^ 2) (long : length (record_in rs 0) ≡ record_size)
    (k : ℕ) (low : k < group_size rs) (most : group_size rs ≤ max_nodes) where
  -- another first record of the inbox
  first_changed : (v : ℕ) (l : List ℕ) → InboxChanged rs (with_first_of rs k v) k l
  unfolding with_first_of
  first_changed v l =
      record {
        next_same = λ y d _. next_of_set rs 0 y _ d;
        first_same = first_other rs long k v;
        free_same = first_free_lem rs long k v;
        head_same = first_head rs long k v low;
      }

  -- another next of a record in it
  next_changed : (x v : ℕ) (l : List ℕ) → x ≢ 0 → 0 < times x l → InboxChanged rs (with_next_in rs x v) k l
  next_changed x v l d h =
      record {
        next_same = λ y _ e. next_other rs x v y (λ z. absurd (omega (arith, ap (λ (i : ℕ). times i l) z)));
        first_same = λ j _. same_first rs (with_next_in rs x v) (next_head rs x v d) j;
        free_same = same_free rs (with_next_in rs x v) (next_head rs x v d);
        head_same = same_head rs (with_next_in rs x v) (next_head rs x v d);
      }

  -- ---- a record x of the inbox

  module _ (a : List ℕ) (x : ℕ) (b : List ℕ) where
    standing_at : 0 < times x (a ++ (x ∷ b))
    standing_at = omega (arith, times_append x a (x ∷ b), stands_head x b)

    module _ (c : IsInbox rs k (a ++ (x ∷ b))) where
      inner : x ≢ 0
      unfolding Leads
      inner = (leads_split rs (first_of rs k) a x b 0 c.chain).1.1

      before_none : times x a ≡ 0
      before_none = omega (arith, c.once x, times_append x a (x ∷ b), stands_head x b)

      after_none : times x b ≡ 0
      after_none = omega (arith, c.once x, times_append x a (x ∷ b), times_head x x b refl)

  -- with next v it leads to v
  relinked : (a : List ℕ) (x : ℕ) (b : List ℕ) (v : ℕ) → Small v → IsInbox rs k (a ++ (x ∷ b))
      → Leads (with_next_in rs x v) (first_of (with_next_in rs x v) k) (a ++ (x ∷ [])) v
  unfolding Leads Sized
  relinked a x b v small c =
      let rs' : List (List ℕ) = with_next_in rs x v in
      let d : x ≢ 0 = inner a x b c in
      let h : x < length rs = c.there x (standing_at a x b) in
      leads_join rs' (first_of rs' k) a x (x ∷ []) v
      (subst (λ (i : ℕ). Leads rs' i a x) (sym (same_first rs rs' (next_head rs x v d) k))
      (leads_same rs rs' (first_of rs k) a x
      (λ y _ t. next_other rs x v y (λ z. absurd (omega (arith, before_none a x b c, ap (λ (i : ℕ). times i a) z))))
      (leads_split rs (first_of rs k) a x b 0 c.chain).0))
      (refl, d, next_set rs x v h (sized x h) small)

  -- ---- record i at the end

  module _ (i : ℕ) (small : Small i) where
    Appended : List ℕ → List (List ℕ) → Type 0
    Appended l rs' = InboxChanged rs rs' k l × Leads rs' (first_of rs' k) l i

    to_empty : IsInbox rs k [] → Appended [] (appended rs k i)
    unfolding Appended appended Leads
    to_empty c = rw (eq-eqb (first_of rs k) 0 c.chain) (first_changed i [], first_set rs long k i (omega arith) small)

    to_last : (a : List ℕ) (x : ℕ) → IsInbox rs k (a ++ (x ∷ [])) → Appended (a ++ (x ∷ [])) (appended rs k i)
    unfolding Appended appended
    to_last a x c =
        rw (ne_eqb (first_of rs k) 0 (starts rs (first_of rs k) a x [] 0 c.chain))
        (subst (λ (y : ℕ). Appended (a ++ (x ∷ [])) (with_next_in rs y i))
        (sym (last_from_lem rs a x (length rs) (first_of rs k) c.chain (omega (arith, c.short, length-append a (x ∷ [])))))
        (next_changed x i (a ++ (x ∷ [])) (inner a x [] c) (standing_at a x []), relinked a x [] i small c))

    pub appended_is : (l : List ℕ) → IsInbox rs k l → InboxChanged rs (appended rs k i) k l × Leads (appended rs k i) (first_of (appended rs k i) k) l i
    unfolding Appended
    appended_is l c =
        ⊎_elim
        (λ (e : l ≡ []). subst (λ (t : List ℕ). Appended t (appended rs k i)) (sym e) (to_empty (subst (IsInbox rs k) e c)))
        (λ (w : (a : List ℕ) × (x : ℕ) × (l ≡ a ++ (x ∷ []))). subst (λ (t : List ℕ). Appended t (appended rs k i)) (sym w.2) (to_last w.0 w.1 (subst (IsInbox rs k) w.2 c)))
        (unsnoc l)

  -- ---- record r taken out

  module _ (r : ℕ) where
    Unlinked : List ℕ → List ℕ → List (List ℕ) → Type 0
    Unlinked a b rs' = InboxChanged rs rs' k a × IsChain rs' (first_of rs' k) (a ++ b)

    -- what follows r is a number that a next can say
    small_next : (a b : List ℕ) → IsInbox rs k (a ++ (r ∷ b)) → Small (next_in rs r)
    unfolding Leads
    small_next a b c =
        omega (
          arith,
          starts_below rs (next_in rs r) b (length rs) (omega (arith, c.there r (standing_at a r b)))
              (λ y h. c.there y (omega (arith, times_append y a (r ∷ b), stands_tail y r b h)))
              (leads_split rs (first_of rs k) a r b 0 c.chain).1.2,
        )

    from_first : (b : List ℕ) → IsInbox rs k (r ∷ b) → Unlinked [] b (unlinked rs k r)
    unfolding Unlinked unlinked Leads with_first_of
    from_first b c =
        rw (eq-eqb (first_of rs k) r (sym c.chain.0)) (
          first_changed (next_in rs r) [],
          subst (λ (i : ℕ). Leads (with_first_of rs k (next_in rs r)) i b 0) (sym (first_set rs long k (next_in rs r) (omega arith) (small_next [] b c)))
              (leads_same rs (with_first_of rs k (next_in rs r)) (next_in rs r) b 0 (λ y e _. next_of_set rs 0 y _ e) c.chain.2),
        )

    from_later : (a : List ℕ) (p : ℕ) (b : List ℕ) → IsInbox rs k ((a ++ (p ∷ [])) ++ (r ∷ b)) → Unlinked (a ++ (p ∷ [])) b (unlinked rs k r)
    unfolding Unlinked unlinked Leads
    from_later a p b c =
        let c' : IsInbox rs k (a ++ (p ∷ r ∷ b)) = subst (IsInbox rs k) (append_assoc a (p ∷ []) (r ∷ b)) c in
        let none : times r (a ++ (p ∷ [])) ≡ 0 = before_none (a ++ (p ∷ [])) r b c in
        let none_a : times r a ≡ 0 = omega (arith, times_append r a (p ∷ [])) in
        let d : r ≢ p = λ z. absurd (omega (arith, times_append r a (p ∷ []), times_head p r [] (sym z))) in
        let v : ℕ = next_in rs r in
        rw (ne_eqb (first_of rs k) r (starts_not rs (first_of rs k) a p (r ∷ b) 0 r c'.chain none_a d))
        (subst (λ (y : ℕ). Unlinked (a ++ (p ∷ [])) b (with_next_in rs y v))
        (sym (before_from_lem rs a p r b (length rs) (first_of rs k) c'.chain none_a d (omega (arith, c'.short, length-append a (p ∷ r ∷ b))))) (
          next_changed p v (a ++ (p ∷ [])) (inner a p (r ∷ b) c') (standing_at a p []),
          leads_join (with_next_in rs p v) (first_of (with_next_in rs p v) k) (a ++ (p ∷ [])) v b 0
              (relinked a p (r ∷ b) v (small_next (a ++ (p ∷ [])) b c) c')
              (leads_same rs (with_next_in rs p v) v b 0
              (λ y _ t. next_other rs p v y (λ z. absurd (omega (arith, times_rest p r b (after_none a p (r ∷ b) c'), ap (λ (i : ℕ). times i b) z))))
              (leads_split rs (first_of rs k) (a ++ (p ∷ [])) r b 0 c.chain).1.2),
        ))

    pub unlinked_is : (a b : List ℕ) → IsInbox rs k (a ++ (r ∷ b)) → InboxChanged rs (unlinked rs k r) k a × IsChain (unlinked rs k r) (first_of (unlinked rs k r) k) (a ++ b)
    unfolding Unlinked
    unlinked_is a b c =
        ⊎_elim
        (λ (e : a ≡ []). subst (λ (t : List ℕ). Unlinked t b (unlinked rs k r)) (sym e) (from_first b (subst (λ (t : List ℕ). IsInbox rs k (t ++ (r ∷ b))) e c)))
        (λ (w : (a' : List ℕ) × (x : ℕ) × (a ≡ a' ++ (x ∷ []))).
        subst (λ (t : List ℕ). Unlinked t b (unlinked rs k r)) (sym w.2) (from_later w.0 w.1 b (subst (λ (t : List ℕ). IsInbox rs k (t ++ (r ∷ b))) w.2 c)))
        (unsnoc a)
