-- `every_from`: kept when one element is set to one that passes the test, and true of a list of one element that does. And the
-- count of peers when one more is counted.
use Prim.Native.Nat.{ℕ, zero, suc, ◌+◌, ◌≤◌, ◌<◌}
use native.Mathlib.Omega.{arith}
use mathlib.Core.Path.{◌≡◌, refl}
use mathlib.Core.Bool.{Bool, true}
use mathlib.Core.List.{List, [], ◌∷◌}
use lib.ListN.{length, set, replicate}
use Rattle.item.proofs.Tests.{and_left, and_right, and_both}
use Rattle.protocol.specs.Node.{peer_under, count_peers}
use Rattle.protocol.specs.Sound.{every_from}
use Rattle.item.specs.declared.counters.Incarnation.{Incarnation}
use Rattle.protocol.specs.declared.Peer.{Peer}
use Rattle.protocol.proofs.Counts.{count_more}

module _ {A : Type 0} (t : ℕ → A → Bool) where
  pub every_set : (k : ℕ) (xs : List A) (i : ℕ) (x : A) → every_from t k xs ≡ true → ((j : ℕ) → j ≡ k + i → t j x ≡ true)
      → every_from t k (set xs i x) ≡ true
  unfolding every_from
  every_set k [] i x e h = refl
  every_set k (y ∷ ys) zero x e h = and_both (h k (omega arith)) (and_right (t k y) (every_from t (suc k) ys) e)
  every_set k (y ∷ ys) (suc i) x e h =
      and_both (and_left (t k y) (every_from t (suc k) ys) e)
      (every_set (suc k) ys i x (and_right (t k y) (every_from t (suc k) ys) e) (λ j d. h j (omega arith)))

  pub every_same : (x : A) → ((j : ℕ) → t j x ≡ true) → (m k : ℕ) → every_from t k (replicate m x) ≡ true
  unfolding every_from
  every_same x h zero k = refl
  every_same x h (suc m) k = and_both (h k) (every_same x h m (suc k))

-- what follows from a test follows of every element
pub every_weaker : {A : Type 0} (t u : ℕ → A → Bool) → ((j : ℕ) (x : A) → t j x ≡ true → u j x ≡ true) → (k : ℕ) (xs : List A)
    → every_from t k xs ≡ true → every_from u k xs ≡ true
unfolding every_from
every_weaker t u h k [] e = refl
every_weaker t u h k (x ∷ xs) e =
    and_both (h k x (and_left (t k x) (every_from t (suc k) xs) e))
    (every_weaker t u h (suc k) xs (and_right (t k x) (every_from t (suc k) xs) e))

-- counting one peer adds at most one to the count
pub one_more : (peers : List Peer) (q : ℕ) (i : Incarnation) → count_peers (set peers q (peer_under i)) ≤ suc (count_peers peers)
one_more [] q i = omega arith
one_more (p ∷ peers) zero i = omega (arith, count_more p peers, count_more (peer_under i) peers)
one_more (p ∷ peers) (suc q) i = omega (arith, count_more p peers, count_more p (set peers q (peer_under i)), one_more peers q i)

-- and a list in which one is counted does not count to none
pub not_none : (peers : List Peer) (q : ℕ) (i : Incarnation) → q < length peers → count_peers (set peers q (peer_under i)) ≡ 0 → ⊥
not_none [] q i l z = omega arith
not_none (p ∷ peers) zero i l z = omega (arith, count_more (peer_under i) peers)
not_none (p ∷ peers) (suc q) i l z = not_none peers q i (omega arith) (omega (arith, count_more p (set peers q (peer_under i))))
