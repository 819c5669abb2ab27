-- `store_change::putting::last_from` meets its contract. The invariant: what is left to search gives the answer.
use Rattle.std.proofs.Common.{◌≡◌, ◌-◌}
use Rattle.store.specs.Records.{records_of, record_count}
use Rattle.store.specs.Chain.{last_from}
use Rattle.store_change.proofs.putting.last_from.Given as goal

abbrev pub invariant-loop-turn : goal.invariant-loop-turn
invariant-loop-turn l = last_from (record_count - l.turn) (records_of l.s) l.i ≡ last_from record_count (records_of l.s) l.first
