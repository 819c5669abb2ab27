-- How a test of what a callee answered is read, beside `granted` of the crate `item`: `if r`, taken or left,
-- where r is what a definition gives.
use mathlib.Core.Path.{◌≡◌, sym, ◌∙◌}
use mathlib.Core.Bool.{Bool}

pub answered : {r b v : Bool} → r ≡ b → r ≡ v → b ≡ v
answered e h = sym e ∙ h
