-- `store_check::all_passed` meets its contract. The invariant: what is joined so far says of the records looked at whether all were passed.
use Rattle.std.proofs.Common.{◌≡◌, take}
use Rattle.store.specs.Sound.{all_passed}
use Rattle.store_check.proofs.all_passed.Given as goal

abbrev pub invariant-loop-p : goal.invariant-loop-p
invariant-loop-p l = l.all ≡ all_passed (take l.p-index l.passed)
