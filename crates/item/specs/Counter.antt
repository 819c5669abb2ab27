-- The three counters of document 01: "Index and tag are 64-bit, incarnation and attempt 32-bit, all unsigned. An index,
-- an incarnation and an attempt are separate counters and none is ever taken for another."
use Rattle.std.specs.Prelude.{ℕ, suc, ◌-◌, ◌^◌, Bool, true, false, cond, ltb, eqb}
use Rattle.item.specs.declared.counters.Index.{Index}
use Rattle.item.specs.declared.counters.Incarnation.{Incarnation}
use Rattle.item.specs.declared.counters.Attempt.{Attempt}

-- the largest number of w bits
abbrev pub largest : ℕ → ℕ
largest w = 2 ^ w - 1

unfoldable pub index_below : Index → Index → Bool
index_below i j = ltb i.0 j.0

-- "own index .. is at its largest"
unfoldable pub index_at_largest : Index → Bool
index_at_largest i = eqb i.0 (largest 64)

-- one above; the largest stays
unfoldable pub next_index : Index → Index
next_index i = cond (index_at_largest i) i (record { 0 = suc i.0 })

unfoldable pub same_incarnation : Incarnation → Incarnation → Bool
same_incarnation i j = eqb i.0 j.0

-- "incarnation at its largest"
unfoldable pub incarnation_at_largest : Incarnation → Bool
incarnation_at_largest i = eqb i.0 (largest 32)

unfoldable pub next_incarnation : Incarnation → Incarnation
next_incarnation i = cond (incarnation_at_largest i) i (record { 0 = suc i.0 })

unfoldable pub same_attempt : Attempt → Attempt → Bool
same_attempt i j = eqb i.0 j.0

-- "attempt at its largest"
unfoldable pub attempt_at_largest : Attempt → Bool
attempt_at_largest i = eqb i.0 (largest 32)

unfoldable pub next_attempt : Attempt → Attempt
next_attempt i = cond (attempt_at_largest i) i (record { 0 = suc i.0 })

-- "incarnation, then attempt, earlier than": the first pair before the second, in dictionary order
unfoldable pub earlier : Incarnation → Attempt → Incarnation → Attempt → Bool
earlier i a i' a' =
    cond (ltb i.0 i'.0) true
    (cond (ltb i'.0 i.0) false
    (ltb a.0 a'.0))
