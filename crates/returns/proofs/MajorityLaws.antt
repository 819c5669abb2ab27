-- Laws of how many of the first n nodes a set has, and when two sets share a node.
use Prim.Native.Nat.{ℕ, zero, suc, ◌+◌, ◌≤◌, ◌<◌}
use native.Mathlib.Omega.{arith}
use native.Mathlib.Decide.{dec_lt}
use mathlib.Core.Path.{◌≡◌, refl, ap}
use mathlib.Core.Logic.{◌≢◌}
use mathlib.Core.Bool.{Bool, true, false}
use lib.Dec.{eqb}
use borrow.Author.Tests.{eqb-true, eqb-false, ne_eqb}
use Rattle.returns.specs.Replace.{replaced}
use Rattle.returns.specs.Majority.{group_size, bit, count, Both}

widened : (a b : ℕ → Bool) (n : ℕ) → Both a b n → Both a b (suc n)
widened a b n r = record { at = r.at; below = omega arith; left = r.left; right = r.right }

-- two sets with more than n flags between them share a number
pub meet : (a b : ℕ → Bool) (n : ℕ) → n < count a n + count b n → Both a b n
unfolding count
meet a b zero h = absurd (omega arith)
meet a b (suc n) h = go (a n) (b n) refl refl (λ k. meet a b n k)
  where
    go : (s t : Bool) → a n ≡ s → b n ≡ t → (n < count a n + count b n → Both a b n) → Both a b (suc n)
    go true true p q r = record { at = n; below = omega arith; left = p; right = q }
    go true false p q r = widened a b n (r (omega (arith, ap bit p, ap bit q)))
    go false true p q r = widened a b n (r (omega (arith, ap bit p, ap bit q)))
    go false false p q r = widened a b n (r (omega (arith, ap bit p, ap bit q)))

pub count_all : (n : ℕ) → count (λ q. true) n ≡ n
unfolding count
count_all zero = refl
count_all (suc n) = omega (arith, count_all n)

-- counting from the front, as a list is counted
pub count_first : (a : ℕ → Bool) (n : ℕ) → count a (suc n) ≡ bit (a 0) + count (λ k. a (suc k)) n
unfolding count
count_first a zero = refl
count_first a (suc n) = omega (arith, count_first a n)

-- where no number from n on is flagged, counting further counts no more
pub count_beyond : (a : ℕ → Bool) (n m : ℕ) → n ≤ m → ((k : ℕ) → n ≤ k → a k ≡ false) → count a m ≡ count a n
unfolding count
count_beyond a n zero l none = let e : n ≡ zero = omega arith in rw e
count_beyond a n (suc m) l none = go (dec_lt m n) (λ k. count_beyond a n m k none)
  where
    go : Dec (m < n) → (n ≤ m → count a m ≡ count a n) → count a (suc m) ≡ count a n
    go (yes d) r = let e : n ≡ suc m = omega arith in rw e
    go (no d) r = omega (arith, ap bit (none m (omega arith)), r (omega arith))

-- flags that are equal below n count alike
count_alike : (a b : ℕ → Bool) (n : ℕ) → ((k : ℕ) → k < n → a k ≡ b k) → count a n ≡ count b n
unfolding count
count_alike a b zero h = refl
count_alike a b (suc n) h = omega (arith, ap bit (h n (omega arith)), count_alike a b n (λ k l. h k (omega arith)))

-- changing the flag of x changes the count by that flag alone
pub count_replaced : (a : ℕ → Bool) (x : ℕ) (b : Bool) (n : ℕ) → x < n
    → count (replaced a x b) n + bit (a x) ≡ count a n + bit b
unfolding count
count_replaced a x b zero l = absurd (omega arith)
count_replaced a x b (suc n) l = go (eqb n x) refl (λ k. count_replaced a x b n k)
  where
    elsewhere : n ≡ x → (k : ℕ) → k < n → replaced a x b k ≡ a k
    elsewhere e k m = rw (ne_eqb k x (λ (d : k ≡ x). omega arith))

    go : (t : Bool) → eqb n x ≡ t → (x < n → count (replaced a x b) n + bit (a x) ≡ count a n + bit b)
        → count (replaced a x b) (suc n) + bit (a x) ≡ count a (suc n) + bit b
    go true p r =
        let e : n ≡ x = eqb-true n x p in
        let z : a n ≡ a x = ap a e in
        rw p (omega (arith, ap bit z, count_alike (replaced a x b) a n (elsewhere e)))
    go false p r =
        let d : n ≢ x = eqb-false n x p in
        rw p (omega (arith, r (omega arith)))

-- Any two sets of f + 1 of the 2f + 1 nodes share one. So whoever has counted f + 1 tables has counted one of every such set.
pub majorities_meet : (a b : ℕ → Bool) (f : ℕ) → suc f ≤ count a (group_size f) → suc f ≤ count b (group_size f) → Both a b (group_size f)
majorities_meet a b f ha hb = meet a b (group_size f) (omega arith)
