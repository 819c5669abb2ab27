-- Sets of nodes as flags, how many of the first n nodes a set has, and a node that two sets share.
use Rattle.std.specs.Prelude.{ℕ, zero, suc, ◌+◌, ◌<◌, ◌≡◌, Bool, true, false}

-- n = 2f + 1
abbrev pub group_size : ℕ → ℕ
group_size f = suc (f + f)

abbrev pub bit : Bool → ℕ
bit true = 1
bit false = 0

-- how many of the numbers below n are flagged
unfoldable pub count : (ℕ → Bool) → ℕ → ℕ
count a zero = 0
count a (suc n) = bit (a n) + count a n

-- a number below n that two sets share
pub record Both (a b : ℕ → Bool) (n : ℕ) : Type 0 where
  pub at : ℕ
  pub below : at < n
  pub left : a at ≡ true
  pub right : b at ≡ true
