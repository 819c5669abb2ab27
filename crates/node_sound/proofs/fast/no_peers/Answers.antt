-- `node_sound::fast::no_peers` meets its contract: the tests are joined.
use mathlib.Core.Bool.{true, ◌&&◌}
use mathlib.Core.Path.{◌∙◌}
use Rattle.std.proofs.Common.{rules, tests}
use Rattle.std.proofs.lemmas.Iterator.{YieldsList-from_slice}
use Rattle.std.proofs.lemmas.Iterator.Consumers.{fold_from_yields_List, YieldsList-from_copied}
use Rattle.node_sound.proofs.Every.{joined_tests}
use Rattle.node_sound.specs.Rest.{absent}
use Rattle.node_sound.proofs.fast.no_peers.Goals as goal

pub returns : goal.returns
returns c =
    let peers = c.args.peers.now in
    fold_from_yields_List _ (λ all peer. all && absent peer) true _ c.fold.ensures.ran (YieldsList-from_copied (YieldsList-from_slice peers (cc))) (λ a x b q k. search (rules, tests))
    ∙ joined_tests absent peers
