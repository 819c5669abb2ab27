-- The sixteen lines of document 01's drill: after Set up they are followed on the table and the messages sent, by computation.
use mathlib.Core.Path.{◌≡◌, refl}
use mathlib.Core.List.{[]}
use lib.ListN.{drop}
use Rattle.item.specs.Maxima.{valid_size}
use Rattle.protocol.specs.Table.{fresh_table}
use Rattle.examples.specs.Sixteen.{sixteen_events, sixteen_answers, SixteenLines}
use Rattle.examples.proofs.Opened.{following}
use Rattle.examples.proofs.SetUp.{drilled}
use Rattle.examples.proofs.Trace.{saying, trace}

-- all answers but that to `n 3`
after_set_up : trace 3 (fresh_table 3) [] sixteen_events ≡ saying (drop 1 sixteen_answers)
unfolding following
after_set_up = refl

pub sixteen_lines : SixteenLines
unfolding SixteenLines valid_size
sixteen_lines nodes bytes many right = drilled 3 nodes bytes many refl right sixteen_events after_set_up
