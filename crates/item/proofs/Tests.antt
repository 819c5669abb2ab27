-- How a test that a callee answered is read in a proof: `if !r { return .. }`, taken or left, where r is what a definition gives.
use mathlib.Core.Path.{◌≡◌, refl, sym, ◌∙◌}
use mathlib.Core.Bool.{Bool, true, false, not, cond, ◌&&◌, false≢true}
use Rattle.std.proofs.lemmas.Bool.{not-true, not-false}

pub refuted : {r b : Bool} → r ≡ b → not r ≡ true → b ≡ false
refuted {r} e h = sym e ∙ not-true r h

pub granted : {r b : Bool} → r ≡ b → not r ≡ false → b ≡ true
granted {r} e h = sym e ∙ not-false r h

-- a proof by cases on the test of a `cond`
pub by_cond : {A : Type 0} (P : A → Type 0) (t : Bool) (a b : A) → (t ≡ true → P a) → (t ≡ false → P b) → P (cond t a b)
by_cond P true a b h k = h refl
by_cond P false a b h k = k refl

-- the two halves of a test, and both together
pub and_left : (a b : Bool) → (a && b) ≡ true → a ≡ true
and_left true b e = refl
and_left false b e = e

pub and_right : (a b : Bool) → (a && b) ≡ true → b ≡ true
and_right true b e = e
and_right false b e = absurd (false≢true e)

pub and_both : {a b : Bool} → a ≡ true → b ≡ true → (a && b) ≡ true
and_both p q = rw (p, q)
