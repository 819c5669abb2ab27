-- Chains as lists of records, said of any records: from a record on, each followed by the record that its next names, zero at
-- the end. There is at most one such list, and the definitions that follow a chain find it.
use Prim.Native.Nat.{ℕ, zero, suc, ◌≤◌, ◌<◌}
use mathlib.Core.Path.{◌≡◌, refl, sym, ap, subst, ◌∙◌}
use mathlib.Core.Logic.{◌≢◌}
use mathlib.Core.List.{List, [], ◌∷◌, ◌++◌}
use native.Mathlib.Omega.{arith}
use native.Mathlib.Nat.{not-suc-le-zero, le_of_suc-le-suc}
use borrow.Author.Tests.{eq-eqb, ne_eqb}
use lib.ListN.{length}
use Rattle.store.specs.Chain.{next_in, chain_from, last_from, before_from}
use Rattle.store_laws.specs.Lists.{times}
use Rattle.store_laws.specs.Standing.{Leads, IsChain}
use Rattle.store_laws.proofs.Times.{times_head, times_other, times_rest, stands_head, stands_tail}

-- ---- parts of a chain

pub leads_join : (rs : List (List ℕ)) (i : ℕ) (a : List ℕ) (j : ℕ) (b : List ℕ) (z : ℕ) → Leads rs i a j → Leads rs j b z → Leads rs i (a ++ b) z
unfolding Leads
leads_join rs i [] j b z p q = subst (λ (k : ℕ). Leads rs k b z) (sym p) q
leads_join rs i (x ∷ a) j b z p q = (p.0, p.1, leads_join rs (next_in rs x) a j b z p.2 q)

pub leads_split : (rs : List (List ℕ)) (i : ℕ) (a : List ℕ) (x : ℕ) (b : List ℕ) (z : ℕ) → Leads rs i (a ++ (x ∷ b)) z → Leads rs i a x × Leads rs x (x ∷ b) z
unfolding Leads
leads_split rs i [] x b z p = (sym p.0, (refl, p.1, p.2))
leads_split rs i (y ∷ a) x b z p =
    let q = leads_split rs (next_in rs y) a x b z p.2 in
    ((p.0, p.1, q.0), q.1)

-- records that no change of next meets stay one after the other
pub leads_same : (rs rs' : List (List ℕ)) (i : ℕ) (l : List ℕ) (j : ℕ) → ((x : ℕ) → x ≢ 0 → 0 < times x l → next_in rs' x ≡ next_in rs x)
    → Leads rs i l j → Leads rs' i l j
unfolding Leads
leads_same rs rs' i [] j same p = p
leads_same rs rs' i (x ∷ l) j same p = (
  p.0,
  p.1,
  subst (λ (k : ℕ). Leads rs' k l j) (sym (same x p.1 (stands_head x l)))
      (leads_same rs rs' (next_in rs x) l j (λ y d h. same y d (stands_tail y x l h)) p.2),
)

-- 0 stands on no chain
pub never_zero : (rs : List (List ℕ)) (i : ℕ) (l : List ℕ) (j : ℕ) → Leads rs i l j → times 0 l ≡ 0
unfolding Leads times
never_zero rs i [] j p = refl
never_zero rs i (x ∷ l) j p = times_other x 0 l p.1 ∙ never_zero rs (next_in rs x) l j p.2

-- where records come before x, the first of them or x is the start: not 0, and no r that is none of these
pub starts : (rs : List (List ℕ)) (i : ℕ) (a : List ℕ) (x : ℕ) (b : List ℕ) (z : ℕ) → Leads rs i (a ++ (x ∷ b)) z → i ≢ 0
unfolding Leads
starts rs i [] x b z p e = p.1 (p.0 ∙ e)
starts rs i (y ∷ a) x b z p e = p.1 (p.0 ∙ e)

pub starts_not : (rs : List (List ℕ)) (i : ℕ) (a : List ℕ) (x : ℕ) (b : List ℕ) (z r : ℕ) → Leads rs i (a ++ (x ∷ b)) z → times r a ≡ 0 → r ≢ x → i ≢ r
unfolding Leads
starts_not rs i [] x b z r p none d e = d (sym (p.0 ∙ e))
starts_not rs i (y ∷ a) x b z r p none d e = absurd (omega (arith, times_head y r a (p.0 ∙ e)))

-- a chain of records below m starts below m
pub starts_below : (rs : List (List ℕ)) (i : ℕ) (l : List ℕ) (m : ℕ) → 0 < m → ((x : ℕ) → 0 < times x l → x < m) → IsChain rs i l → i < m
unfolding Leads
starts_below rs i [] m h below p = omega arith
starts_below rs i (x ∷ l) m h below p = omega (arith, below x (stands_head x l), p.0)

-- ---- what the definitions find

pub chain_from_lem : (rs : List (List ℕ)) (l : List ℕ) (left i : ℕ) → IsChain rs i l → length l ≤ left → chain_from left rs i ≡ l
unfolding Leads chain_from
chain_from_lem rs [] zero i p h = refl
chain_from_lem rs [] (suc left) i p h = rw (eq-eqb i 0 p)
chain_from_lem rs (x ∷ l) zero i p h = absurd (not-suc-le-zero h)
chain_from_lem rs (x ∷ l) (suc left) i p h =
    ap (chain_from (suc left) rs) (sym p.0)
    ∙ rw (ne_eqb x 0 p.1) (ap (λ (t : List ℕ). x ∷ t) (chain_from_lem rs l left (next_in rs x) p.2 (le_of_suc-le-suc h)))

-- the last record of a chain
pub last_from_lem : (rs : List (List ℕ)) (a : List ℕ) (x left i : ℕ) → IsChain rs i (a ++ (x ∷ [])) → length a ≤ left → last_from left rs i ≡ x
unfolding Leads last_from
last_from_lem rs [] x zero i p h = sym p.0
last_from_lem rs [] x (suc left) i p h =
    ap (last_from (suc left) rs) (sym p.0) ∙ rw (eq-eqb (next_in rs x) 0 p.2)
last_from_lem rs (y ∷ a) x zero i p h = absurd (not-suc-le-zero h)
last_from_lem rs (y ∷ a) x (suc left) i p h =
    ap (last_from (suc left) rs) (sym p.0)
    ∙ rw (ne_eqb (next_in rs y) 0 (starts rs (next_in rs y) a x [] 0 p.2)) (last_from_lem rs a x left (next_in rs y) p.2 (le_of_suc-le-suc h))

-- the record before r
pub before_from_lem : (rs : List (List ℕ)) (a : List ℕ) (x r : ℕ) (b : List ℕ) (left i : ℕ) → IsChain rs i (a ++ (x ∷ r ∷ b)) → times r a ≡ 0 → r ≢ x
    → length a < left → before_from left rs r i ≡ x
unfolding Leads before_from
before_from_lem rs a x r b zero i p none d h = absurd (not-suc-le-zero h)
before_from_lem rs [] x r b (suc left) i p none d h =
    ap (before_from (suc left) rs r) (sym p.0)
    ∙ rw (ne_eqb x 0 p.1, eq-eqb (next_in rs x) r (sym p.2.0))
before_from_lem rs (y ∷ a) x r b (suc left) i p none d h =
    let rest : times r a ≡ 0 = times_rest r y a none in
    ap (before_from (suc left) rs r) (sym p.0)
    ∙ rw (ne_eqb y 0 p.1, ne_eqb (next_in rs y) r (starts_not rs (next_in rs y) a x (r ∷ b) 0 r p.2 rest d)) (before_from_lem rs a x r b left (next_in rs y) p.2 rest d (le_of_suc-le-suc h))
