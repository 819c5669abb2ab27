-- What is joined so far is 0 exactly if the numbers passed are.
use Rattle.std.proofs.Common.{◌≡◌, take, nat_eq}
use Rattle.endian.specs.Zero.{all_zero}
use Rattle.record_words.proofs.fields.is_zero.Given as goal

abbrev pub invariant-loop-x : goal.invariant-loop-x
invariant-loop-x l = nat_eq l.joined 0 ≡ all_zero (take l.x-index l.numbers)
