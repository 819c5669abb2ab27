-- The rows of a record that holds none: by the two numbers of the first row, and what comes after it.
use Prim.Native.Nat.{ℕ, ◌+◌, ◌*◌, ◌≤◌}
use mathlib.Core.Path.{◌≡◌, ap, ◌∙◌}
use mathlib.Core.Logic.{◌≢◌}
use mathlib.Core.Bool.{false, ◌&&◌}
use mathlib.Core.List.{List}
use native.Mathlib.Omega.{arith}
use lib.Dec.{eqb}
use lib.ListN.{length, drop}
use borrow.Author.Tests.{eq-eqb, ne_eqb}
use Rattle.endian.specs.Number.{number_at}
use Rattle.endian.specs.Zero.{all_zero}
use Rattle.endian.proofs.ZeroLaws.{zero_from}
use Rattle.record.specs.Layout.{record_size, rows_at, row_size, index_size}

module _ (r : List ℕ) (long : length r ≡ record_size) (held : ℕ) (none : held ≡ 0) where
  rows_are : all_zero (drop (rows_at + held * row_size) r)
      ≡ eqb (number_at 8 r rows_at) 0 && (eqb (number_at 8 r (rows_at + index_size)) 0 && all_zero (drop (rows_at + row_size) r))
  rows_are =
      let h : 32 + 8 ≤ length r = omega arith in
      let k : 40 + 8 ≤ length r = omega arith in
      ap (λ (m : ℕ). all_zero (drop (rows_at + m * row_size) r)) none
      ∙ zero_from 8 r 32 h
      ∙ (λ i. eqb (number_at 8 r 32) 0 && zero_from 8 r 40 k i)

  module _ (x : ℕ) (ex : x ≡ number_at 8 r rows_at) where
    -- an index in the first row
    pub rows_first_lem : x ≢ 0 → all_zero (drop (rows_at + held * row_size) r) ≡ false
    rows_first_lem d = rows_are ∙ rw (← ex, ne_eqb x 0 d)

    -- a tag in it
    pub rows_second : x ≡ 0 → (y : ℕ) → y ≡ number_at 8 r (rows_at + index_size) → y ≢ 0 → all_zero (drop (rows_at + held * row_size) r) ≡ false
    rows_second e y ey d = rows_are ∙ rw (← ex, ← ey, eq-eqb x 0 e, ne_eqb y 0 d)

    -- neither
    pub rows_rest : x ≡ 0 → (y : ℕ) → y ≡ number_at 8 r (rows_at + index_size) → y ≡ 0
        → all_zero (drop (rows_at + held * row_size) r) ≡ all_zero (drop (rows_at + row_size) r)
    rows_rest e y ey d = rows_are ∙ rw (← ex, ← ey, eq-eqb x 0 e, eq-eqb y 0 d)
