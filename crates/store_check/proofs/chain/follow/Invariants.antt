-- `store_check::chain::follow` meets its contract. The invariant: what is left to follow gives the answer; every way out of
-- the loop is a law of `Walking`.
use Rattle.std.proofs.Common.{◌≡◌, ◌-◌, length}
use Rattle.store.specs.Records.{record_count, records_of}
use Rattle.store.specs.Chain.{walk}
use Rattle.store_check.proofs.chain.follow.Given as goal

abbrev pub invariant-loop-count : goal.invariant-loop-count
invariant-loop-count g l =
    (length l.passed ≡ record_count)
    × (walk (g.C.Belongs.belongs l.chain) (record_count - l.count) (records_of l.s) l.i l.passed l.count
    ≡ walk (g.C.Belongs.belongs l.chain) record_count (records_of l.s) l.first l.initial.passed 0)

abbrev pub decreases-loop-count : goal.decreases-loop-count
decreases-loop-count g l = record_count - l.count
