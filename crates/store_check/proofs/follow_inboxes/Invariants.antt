-- `store_check::follow_inboxes` meets its contract. The invariant: what is left to follow gives the answer.
use Rattle.std.proofs.Common.{◌≡◌, ◌-◌, Some}
use Rattle.store.specs.Records.{records_of}
use Rattle.store.specs.Chain.{walked}
use Rattle.store.specs.Sound.{walk_inboxes}
use Rattle.store_check.proofs.follow_inboxes.Given as goal

abbrev pub invariant-loop-k : goal.invariant-loop-k
invariant-loop-k l = walk_inboxes (l.n - l.k) l.n (records_of l.s) l.k (Some (walked l.passed l.last)) ≡ walk_inboxes l.n l.n (records_of l.s) 0 (Some (walked l.initial.passed l.initial.last))
