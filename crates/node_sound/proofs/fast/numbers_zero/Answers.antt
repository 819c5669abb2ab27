-- `node_sound::fast::numbers_zero` meets its contract: the numbers are joined.
use mathlib.Core.Path.{◌≡◌}
use lib.Bits.{bit_or}
use Rattle.std.proofs.Common.{rules, tests}
use Rattle.std.proofs.lemmas.Iterator.{YieldsList-from_slice}
use Rattle.std.proofs.lemmas.Iterator.Consumers.{fold_from_yields_List}
use Rattle.std.specs.List.{fold}
use Rattle.node_sound.proofs.Every.{joined_bits}
use Rattle.node_sound.specs.Rest.{row_bits}
use Rattle.node_sound.proofs.fast.numbers_zero.Goals as goal

pub returns : goal.returns
returns c =
    let rows = c.args.rows.now in
    let joined : c.fold.result ≡ fold (λ joined row. bit_or joined (row_bits row)) 0 rows =
    fold_from_yields_List _ (λ joined row. bit_or joined (row_bits row)) 0 _ c.fold.ensures.ran (YieldsList-from_slice rows (cc)) (λ a x b q k. search (rules, tests)) in
    rw joined (joined_bits rows)
