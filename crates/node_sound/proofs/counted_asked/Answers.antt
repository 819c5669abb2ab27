-- `node_sound::counted_asked` meets its contract: in a phase that asks, each peer is tested with its place.
use Prim.Native.Nat.{ℕ}
use mathlib.Core.Path.{◌∙◌}
use Rattle.std.proofs.Common.{rules, tests}
use Rattle.std.proofs.lemmas.Iterator.{YieldsList-from_slice}
use Rattle.std.proofs.lemmas.Iterator.Consumers.{YieldsList-from_enumerate}
use Rattle.std.proofs.lemmas.Iterator.Search.{all_from_yields_List}
use Rattle.item.proofs.Tests.{granted}
use Rattle.protocol.specs.declared.Peer.{Peer}
use Rattle.protocol.specs.Sound.{among_asked, counted_asked}
use Rattle.node_sound.proofs.Every.{every_enumerated}
use Rattle.node_sound.proofs.counted_asked.Goals as goal

pub returns : goal.returns
unfolding counted_asked
returns c =
    let asked = c.args.asked.now in
    let counted = c.args.counted.now in
    all_from_yields_List (λ (p : ℕ × Peer). among_asked asked p.0 p.1) _ _ c.all.result c.all.ensures.ran
    (YieldsList-from_enumerate (YieldsList-from_slice counted (cc)) (cc)) (λ x b q k. search (rules, tests))
    ∙ every_enumerated (among_asked asked) 0 counted
    ∙ rw (granted c.is_confirming.ensures c.if-not-is_confirming.false-raw)
