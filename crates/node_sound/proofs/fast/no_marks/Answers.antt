-- `node_sound::fast::no_marks` meets its contract: the tests are joined.
use mathlib.Core.Bool.{true, ◌&&◌}
use mathlib.Core.Path.{◌∙◌}
use Rattle.std.proofs.Common.{rules, tests}
use Rattle.std.proofs.lemmas.Iterator.{YieldsList-from_slice}
use Rattle.std.proofs.lemmas.Iterator.Consumers.{fold_from_yields_List}
use Rattle.node_sound.proofs.Every.{joined_tests}
use Rattle.node_sound.specs.Rest.{unmarked}
use Rattle.node_sound.proofs.fast.no_marks.Goals as goal

pub returns : goal.returns
returns c =
    let rows = c.args.rows.now in
    fold_from_yields_List _ (λ all row. all && unmarked row) true _ c.fold.ensures.ran (YieldsList-from_slice rows (cc)) (λ a x b q k. search (rules, tests))
    ∙ joined_tests unmarked rows
