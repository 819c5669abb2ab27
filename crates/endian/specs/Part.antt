-- A part of a list of bytes: the elements from a place on, as many as are asked for. What a function does with a place
-- that does not lie within its slice is said here once: there is no part, and nothing is written.
use Rattle.std.specs.Prelude.{ℕ, ◌+◌, cond, List, [], ◌++◌, leb, eqb, length, take, drop}

-- a list of w elements as it is, and no list of any other length
unfoldable pub whole : ℕ → List ℕ → List ℕ
whole w l = cond (eqb (length l) w) l []

-- the w elements of s from `at`; none unless all of them lie within s
unfoldable pub part : ℕ → List ℕ → ℕ → List ℕ
part w s at = whole w (take w (drop at s))

-- s with l for its w elements from `at`; s unless all of them lie within it
unfoldable pub with_part : ℕ → List ℕ → ℕ → List ℕ → List ℕ
with_part w s at l = cond (leb (at + w) (length s)) (take at s ++ (l ++ drop (at + w) s)) s
