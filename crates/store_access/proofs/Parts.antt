-- A record that is zero after next: by the two numbers of its first sixteen bytes, and what comes after them.
use Prim.Native.Nat.{ℕ, ◌+◌, ◌≤◌}
use mathlib.Core.Path.{◌≡◌, sym, ◌∙◌}
use mathlib.Core.Logic.{◌≢◌}
use mathlib.Core.Bool.{false, ◌&&◌}
use mathlib.Core.List.{List}
use native.Mathlib.Omega.{arith}
use lib.Dec.{eqb}
use lib.ListN.{length, drop}
use borrow.Author.Tests.{eq-eqb, ne_eqb}
use Rattle.endian.specs.Number.{number_at}
use Rattle.endian.specs.Zero.{all_zero}
use Rattle.endian.proofs.ZeroLaws.{zero_from, low_alone}
use Rattle.record.specs.Layout.{record_size, next_at, kind_at, other_at, item_at}

module _ (r : List ℕ) (long : length r ≡ record_size) where
  blank_is : all_zero (drop kind_at r) ≡ eqb (number_at 8 r next_at) (number_at 2 r next_at) && (eqb (number_at 8 r other_at) 0 && all_zero (drop item_at r))
  blank_is =
      let h : 2 + 6 ≤ length r = omega arith in
      let k : 0 + 8 ≤ length r = omega arith in
      let m : 8 + 8 ≤ length r = omega arith in
      zero_from 6 r 2 h ∙ (λ i. sym (low_alone r 0 k) i && zero_from 8 r 8 m i)

  module _ (x y : ℕ) (ex : x ≡ number_at 8 r next_at) (ey : y ≡ number_at 2 r next_at) where
    -- more than next in the first eight bytes
    pub blank_first : x ≢ y → all_zero (drop kind_at r) ≡ false
    blank_first d = blank_is ∙ rw (← ex, ← ey, ne_eqb x y d)

    -- something in the next eight
    pub blank_second : x ≡ y → (z : ℕ) → z ≡ number_at 8 r other_at → z ≢ 0 → all_zero (drop kind_at r) ≡ false
    blank_second e z ez d = blank_is ∙ rw (← ex, ← ey, ← ez, eq-eqb x y e, ne_eqb z 0 d)

    -- neither
    pub blank_rest : x ≡ y → (z : ℕ) → z ≡ number_at 8 r other_at → z ≡ 0 → all_zero (drop kind_at r) ≡ all_zero (drop item_at r)
    blank_rest e z ez d = blank_is ∙ rw (← ex, ← ey, ← ez, eq-eqb x y e, eq-eqb z 0 d)
