-- `store_access::links::zero_after_next` meets its contract: false where there is no record, else the test of the one lent.
use Rattle.record.specs.Record.{zero_after_next}
use mathlib.Core.Path.{◌∙◌}
use Rattle.store_access.proofs.links.zero_after_next.Goals as goal

pub returns-in_default : goal.returns-in_default
unfolding zero_after_next
returns-in_default c = rw c.in_default.ensures

pub returns : goal.returns
unfolding zero_after_next
returns c = let h = c.in-Some.ensures in c.blank.ensures ∙ rw (← h.0, h.1)
