-- What is joined so far is 0 exactly if the bytes passed are.
use Rattle.std.proofs.Common.{◌≡◌, take, nat_eq}
use Rattle.endian.specs.Zero.{all_zero}
use Rattle.endian.proofs.zeros.is_zero.Given as goal

abbrev pub invariant-loop-b : goal.invariant-loop-b
invariant-loop-b l = nat_eq l.joined 0 ≡ all_zero (take l.b-index l.s)
