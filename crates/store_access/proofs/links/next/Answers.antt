-- `store_access::links::next` meets its contract: 0 where there is no record, else the number in the one lent.
use Rattle.endian.specs.Part.{part, whole}
use Rattle.endian.specs.Number.{number_at, value}
use Rattle.record.specs.Layout.{next_of}
use mathlib.Core.Path.{ap, ◌∙◌}
use Rattle.store_access.proofs.links.next.Goals as goal

pub returns-in_default : goal.returns-in_default
unfolding next_of number_at value part whole
returns-in_default c = rw c.in_default.ensures

pub returns : goal.returns
unfolding next_of
returns c = c.from.ensures ∙ c.read.ensures ∙ ap (λ r. number_at 2 r 0) c.in-Some.ensures.0
