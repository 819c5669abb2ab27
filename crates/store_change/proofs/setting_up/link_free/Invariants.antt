-- `store_change::setting_up::link_free` meets its contract. The invariant: the records before i are linked, the others cleared.
use Rattle.std.proofs.Common.{◌≡◌, length}
use Rattle.store.specs.Records.{records_of, record_count}
use Rattle.store_change.proofs.Linked.{linked_to}
use Rattle.store_change.proofs.setting_up.link_free.Given as goal

abbrev pub invariant-loop-i : goal.invariant-loop-i
invariant-loop-i l = (length l.s ≡ 65280) × (records_of l.s ≡ linked_to record_count l.i)
