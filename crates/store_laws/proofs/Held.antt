-- How many records are free: every record from 1 stands once on exactly one chain, so those that stand on no inbox.
use Prim.Native.Nat.{ℕ, zero, suc, ◌+◌, ◌-◌, ◌≤◌}
use mathlib.Core.Path.{◌≡◌, refl}
use mathlib.Core.Bool.{true}
use mathlib.Core.List.{List}
use native.Mathlib.Omega.{arith}
use lib.ListN.{length}
use Rattle.store.specs.Head.{group_size}
use Rattle.store.specs.Sound.{sound_records, free_count}
use Rattle.store_laws.specs.Lists.{times_on, free_list, inbox_list, held_on}
use Rattle.store_laws.specs.Standing.{OnChains}
use Rattle.store_laws.proofs.Times.{total, total_length}
use Rattle.store_laws.proofs.OnChains.{sound_chains, free_count_lem, head_on_none}

-- the same, counted by records below m
total_on : ℕ → ℕ → (ℕ → List ℕ) → ℕ → ℕ
total_on zero left inbox k = 0
total_on (suc m) left inbox k = times_on m left inbox k + total_on m left inbox k

total_none : (m : ℕ) (inbox : ℕ → List ℕ) (k : ℕ) → total_on m zero inbox k ≡ 0
unfolding total_on times_on
total_none zero inbox k = refl
total_none (suc m) inbox k = omega (arith, total_none m inbox k)

total_on_lem : (m left : ℕ) (inbox : ℕ → List ℕ) (k : ℕ) → total_on m (suc left) inbox k ≡ total m (inbox k) + total_on m left inbox (suc k)
unfolding total_on times_on total
total_on_lem zero left inbox k = refl
total_on_lem (suc m) left inbox k = omega (arith, total_on_lem m left inbox k)

held_total : (m left : ℕ) (inbox : ℕ → List ℕ) (k : ℕ) → ((r : ℕ) → m ≤ r → times_on r left inbox k ≡ 0) → total_on m left inbox k ≡ held_on left inbox k
unfolding held_on times_on
held_total m zero inbox k h = total_none m inbox k
held_total m (suc left) inbox k h =
    omega (
      arith,
      total_on_lem m left inbox k,
      total_length m (inbox k) (λ r l. omega (arith, h r l)),
      held_total m left inbox (suc k) (λ r l. omega (arith, h r l)),
    )

module _ (rs : List (List ℕ)) (sound : sound_records rs ≡ true) where
  c : OnChains rs (free_list rs) (inbox_list rs)
  c = sound_chains rs sound

  -- the records below m but the head
  below : (m : ℕ) → m ≤ length rs → total m (free_list rs) + total_on m (group_size rs) (inbox_list rs) 0 ≡ m - 1
  unfolding total total_on
  below zero h = refl
  below (suc zero) h = omega (arith, head_on_none c)
  below (suc (suc m)) h = omega (arith, c.once (suc m) (λ z. omega arith) (omega arith), below (suc m) (omega arith))

  pub records_counted : free_count rs + held_on (group_size rs) (inbox_list rs) 0 ≡ length rs - 1
  records_counted =
      omega (
        arith,
        free_count_lem rs sound,
        total_length (length rs) (free_list rs) (λ r h. omega (arith, c.no_other r h)),
        held_total (length rs) (group_size rs) (inbox_list rs) 0 (λ r h. omega (arith, c.no_other r h)),
        below (length rs) (omega arith),
      )
