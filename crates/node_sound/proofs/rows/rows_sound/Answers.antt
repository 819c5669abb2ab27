-- `node_sound::rows::rows_sound` meets its contract: each row is tested with its place.
use Prim.Native.Nat.{ℕ}
use mathlib.Core.Path.{◌∙◌}
use Rattle.std.proofs.Common.{rules, tests}
use Rattle.std.proofs.lemmas.Iterator.{YieldsList-from_slice}
use Rattle.std.proofs.lemmas.Iterator.Consumers.{YieldsList-from_enumerate}
use Rattle.std.proofs.lemmas.Iterator.Search.{all_from_yields_List}
use Rattle.item.specs.declared.Row.{Row}
use Rattle.protocol.specs.Sound.{row_sound, rows_sound}
use Rattle.node_sound.proofs.Every.{every_enumerated}
use Rattle.node_sound.proofs.rows.rows_sound.Goals as goal

pub returns : goal.returns
unfolding rows_sound
returns c =
    let n = c.args.n in
    let rows = c.args.node.now.rows in
    let held = c.row_use-held.result in
    all_from_yields_List (λ (p : ℕ × Row). row_sound held n p.0 p.1) _ _ c.all.result c.all.ensures.ran
    (YieldsList-from_enumerate (YieldsList-from_slice rows (cc)) (cc)) (λ x b q k. search (rules, tests))
    ∙ every_enumerated (row_sound held n) 0 rows
    ∙ rw (c.row_use-held.ensures, c.count_peers.ensures)
