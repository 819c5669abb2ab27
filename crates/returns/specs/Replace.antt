-- A function on node numbers with the value at one number replaced.
use Rattle.std.specs.Prelude.{ℕ, cond, eqb}

abbrev pub replaced : {A : Type 0} → (ℕ → A) → ℕ → A → ℕ → A
replaced h p a q = cond (eqb q p) a (h q)
