-- `script::decimal::digits_in` meets its contract. The invariant: the digits left, after the number so far, make what all of
-- them make; each turn is one law of the definition.
use Prim.Native.Nat.{◌<◌, ◌^◌}
use mathlib.Core.Path.{◌≡◌}
use lib.ListN.{drop}
use Rattle.script.specs.Number.{number_from}
use Rattle.script.proofs.decimal.digits_in.Given as goal

abbrev pub invariant-loop-b : goal.invariant-loop-b
invariant-loop-b l = (l.v < 2 ^ 64) × (number_from l.v (drop l.b-index l.s) ≡ number_from 0 l.s)
