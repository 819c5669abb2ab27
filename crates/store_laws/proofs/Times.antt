-- How often a record stands in a list, and on the inboxes together. That a record stands once on exactly one chain is then
-- an equation of numbers, and so is what a change does to it.
use Prim.Native.Nat.{ℕ, zero, suc, ◌+◌, ◌≤◌, ◌<◌}
use mathlib.Core.Path.{◌≡◌, refl, sym, ap, ◌∙◌}
use mathlib.Core.Bool.{Bool, true, false, cond}
use mathlib.Core.Logic.{◌≢◌}
use mathlib.Core.List.{List, [], ◌∷◌, ◌++◌}
use native.Mathlib.Omega.{arith}
use native.Mathlib.Nat.{not-suc-le-zero}
use lib.Dec.{eqb}
use borrow.Author.Tests.{eqb-true, eqb-false, eq-eqb, ne_eqb}
use lib.ListN.{length}
use Rattle.endian.proofs.PartLaws.{by_order}
use Rattle.store_laws.specs.Lists.{bit, times, times_on, without}

-- ---- one list

pub bit_same : (x r : ℕ) → x ≡ r → bit (eqb x r) ≡ 1
bit_same x r e = ap bit (eq-eqb x r e)

pub bit_other : (x r : ℕ) → x ≢ r → bit (eqb x r) ≡ 0
bit_other x r d = ap bit (ne_eqb x r d)

pub bit_true : (b : Bool) → bit b ≡ 1 → b ≡ true
bit_true true e = refl
bit_true false e = absurd (omega arith)

pub bit_false : (b : Bool) → bit b ≡ 0 → b ≡ false
bit_false true e = absurd (omega arith)
bit_false false e = refl

-- a proof by cases: two numbers are the same or not
pub by_same : {P : Type 0} (x r : ℕ) → (x ≡ r → P) → (x ≢ r → P) → P
by_same {P} x r f g = go (eqb x r) refl
  where
    go : (t : Bool) → eqb x r ≡ t → P
    go true e = f (eqb-true x r e)
    go false e = g (eqb-false x r e)

pub times_head : (x r : ℕ) (l : List ℕ) → x ≡ r → times r (x ∷ l) ≡ suc (times r l)
unfolding times
times_head x r l e = omega (arith, bit_same x r e)

pub times_other : (x r : ℕ) (l : List ℕ) → x ≢ r → times r (x ∷ l) ≡ times r l
unfolding times
times_other x r l d = omega (arith, bit_other x r d)

pub times_append : (r : ℕ) (a b : List ℕ) → times r (a ++ b) ≡ times r a + times r b
unfolding times
times_append r [] b = omega arith
times_append r (x ∷ a) b = omega (arith, times_append r a b)

-- what stands in a list is its head or stands in its tail
pub stands_cases : {P : Type 0} (r x : ℕ) (l : List ℕ) → (r ≡ x → P) → (0 < times r l → P) → 0 < times r (x ∷ l) → P
stands_cases r x l f g h =
    by_same x r (λ e. f (sym e)) (λ d. g (omega (arith, times_other x r l d)))

pub stands_tail : (r x : ℕ) (l : List ℕ) → 0 < times r l → 0 < times r (x ∷ l)
unfolding times
stands_tail r x l h = omega arith

pub times_rest : (r x : ℕ) (l : List ℕ) → times r (x ∷ l) ≡ 0 → times r l ≡ 0
unfolding times
times_rest r x l e = omega arith

pub stands_head : (x : ℕ) (l : List ℕ) → 0 < times x (x ∷ l)
stands_head x l = omega (arith, times_head x x l refl)

-- ---- a list in which none of m numbers stands twice, and no other, has at most m

-- how many of the first m numbers stand in it, each as often as it does
unfoldable pub total : ℕ → List ℕ → ℕ
total zero l = 0
total (suc m) l = times m l + total m l

total_nil : (m : ℕ) → total m [] ≡ 0
unfolding total times
total_nil zero = refl
total_nil (suc m) = omega (arith, total_nil m)

total_cons : (m x : ℕ) (l : List ℕ) → x < m → total m (x ∷ l) ≡ suc (total m l)
unfolding total
total_cons zero x l h = absurd (not-suc-le-zero h)
total_cons (suc m) x l h =
    by_same x m
    (λ e. omega (arith, times_head x m l e, none m (omega arith)))
    (λ d. omega (arith, times_other x m l d, total_cons m x l (omega arith)))
  where
    none : (k : ℕ) → k ≤ x → total k (x ∷ l) ≡ total k l
    none zero h = refl
    none (suc k) h = omega (arith, none k (omega arith), times_other x k l (omega arith))

pub total_length : (m : ℕ) (l : List ℕ) → ((r : ℕ) → m ≤ r → times r l ≡ 0) → total m l ≡ length l
unfolding times
total_length m [] h = total_nil m
total_length m (x ∷ l) h =
    let low : x < m = by_order (suc x) m (λ k. k) (λ k. absurd (omega (arith, h x (omega arith), bit_same x x refl))) in
    total_cons m x l low ∙ ap suc (total_length m l (λ r k. omega (arith, h r k)))

total_most : (m : ℕ) (l : List ℕ) → ((r : ℕ) → times r l ≤ 1) → total m l ≤ m
unfolding total
total_most zero l h = omega arith
total_most (suc m) l h = omega (arith, h m, total_most m l h)

pub length_most : (m : ℕ) (l : List ℕ) → ((r : ℕ) → m ≤ r → times r l ≡ 0) → ((r : ℕ) → times r l ≤ 1) → length l ≤ m
length_most m l beyond once = omega (arith, total_length m l beyond, total_most m l once)

-- ---- the inboxes

pub times_on_same : (r left : ℕ) (inbox inbox' : ℕ → List ℕ) (k : ℕ) → ((j : ℕ) → k ≤ j → j < k + left → inbox' j ≡ inbox j)
    → times_on r left inbox' k ≡ times_on r left inbox k
unfolding times_on
times_on_same r zero inbox inbox' k same = refl
times_on_same r (suc left) inbox inbox' k same =
    λ i. times r (same k (omega arith) (omega arith) i) + times_on_same r left inbox inbox' (suc k) (λ j a b. same j (omega arith) (omega arith)) i

-- where one inbox differs
pub times_on_change : (r left : ℕ) (inbox inbox' : ℕ → List ℕ) (k at : ℕ) → k ≤ at → at < k + left
    → ((j : ℕ) → j ≢ at → inbox' j ≡ inbox j)
    → times_on r left inbox' k + times r (inbox at) ≡ times_on r left inbox k + times r (inbox' at)
unfolding times_on
times_on_change r zero inbox inbox' k at low high same = absurd (omega arith)
times_on_change r (suc left) inbox inbox' k at low high same =
    by_same k at
    (λ e. omega (arith, times_on_same r left inbox inbox' (suc k) (λ j a b. same j (omega arith)), ap (λ (i : ℕ). times r (inbox i)) e, ap (λ (i : ℕ). times r (inbox' i)) e))
    (λ d. omega (arith, ap (times r) (same k d), times_on_change r left inbox inbox' (suc k) at (omega arith) (omega arith) same))

-- what stands on an inbox stands on the inboxes, and the other way round
pub stands_on : (r left : ℕ) (inbox : ℕ → List ℕ) (k at : ℕ) → k ≤ at → at < k + left → times r (inbox at) ≤ times_on r left inbox k
unfolding times_on
stands_on r zero inbox k at low high = absurd (omega arith)
stands_on r (suc left) inbox k at low high =
    by_same k at
    (λ e. omega (arith, ap (λ (i : ℕ). times r (inbox i)) e))
    (λ d. omega (arith, stands_on r left inbox (suc k) at (omega arith) (omega arith)))

pub stands_where : (r left : ℕ) (inbox : ℕ → List ℕ) (k : ℕ) → 0 < times_on r left inbox k → (at : ℕ) × (at < k + left) × (0 < times r (inbox at))
unfolding times_on
stands_where r zero inbox k h = absurd (omega arith)
stands_where r (suc left) inbox k h =
    by_same (times r (inbox k)) 0
    (λ e. let w = stands_where r left inbox (suc k) (omega arith) in (w.0, omega (arith, w.1), w.2))
    (λ d. (k, omega arith, omega arith))

-- on two of them
pub stands_two : (r left : ℕ) (inbox : ℕ → List ℕ) (k i j : ℕ) → i ≢ j → k ≤ i → i < k + left → k ≤ j → j < k + left
    → times r (inbox i) + times r (inbox j) ≤ times_on r left inbox k
unfolding times_on
stands_two r zero inbox k i j d a b c e = absurd (omega arith)
stands_two r (suc left) inbox k i j d a b c e =
    by_same k i
    (λ z. omega (arith, ap (λ (m : ℕ). times r (inbox m)) z, stands_on r left inbox (suc k) j (omega arith) (omega arith)))
    (λ y. by_same k j
    (λ z. omega (arith, ap (λ (m : ℕ). times r (inbox m)) z, stands_on r left inbox (suc k) i (omega arith) (omega arith)))
    (λ x. omega (arith, stands_two r left inbox (suc k) i j d (omega arith) (omega arith) (omega arith) (omega arith))))

-- ---- another list for node k

unfoldable pub changed : (ℕ → List ℕ) → ℕ → List ℕ → ℕ → List ℕ
changed inbox k l j = cond (eqb j k) l (inbox j)

pub changed_at : (inbox : ℕ → List ℕ) (k : ℕ) (l : List ℕ) → changed inbox k l k ≡ l
unfolding changed
changed_at inbox k l = rw (eq-eqb k k refl)

pub changed_other : (inbox : ℕ → List ℕ) (k : ℕ) (l : List ℕ) (j : ℕ) → j ≢ k → changed inbox k l j ≡ inbox j
unfolding changed
changed_other inbox k l j d = rw (ne_eqb j k d)

-- ---- a list without a record that stands in it

pub record Split (r : ℕ) (l : List ℕ) : Type 0 where
  pub before : List ℕ
  pub after : List ℕ
  pub whole : l ≡ before ++ (r ∷ after)
  pub rest : without r l ≡ before ++ after

pub split_at : (r : ℕ) (l : List ℕ) → 0 < times r l → Split r l
unfolding times without
split_at r [] h = absurd (not-suc-le-zero h)
split_at r (x ∷ l) h =
    by_same x r
    (λ e. record { before = []; after = l; whole = ap (λ (i : ℕ). i ∷ l) e; rest = rw (eq-eqb x r e) })
    (λ d.
    let s : Split r l = split_at r l (omega (arith, bit_other x r d)) in
    record {
      before = x ∷ s.before;
      after = s.after;
      whole = ap (λ (t : List ℕ). x ∷ t) s.whole;
      rest = ap (λ (b : Bool). cond b l (x ∷ without r l)) (ne_eqb x r d) ∙ ap (λ (t : List ℕ). x ∷ t) s.rest;
    })
