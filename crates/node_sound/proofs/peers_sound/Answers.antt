-- `node_sound::peers_sound` meets its contract: each peer is tested with its place.
use Prim.Native.Nat.{ℕ}
use mathlib.Core.Path.{◌∙◌}
use Rattle.std.proofs.Common.{rules, tests}
use Rattle.std.proofs.lemmas.Iterator.{YieldsList-from_slice}
use Rattle.std.proofs.lemmas.Iterator.Consumers.{YieldsList-from_enumerate}
use Rattle.std.proofs.lemmas.Iterator.Search.{all_from_yields_List}
use Rattle.protocol.specs.declared.Peer.{Peer}
use Rattle.protocol.specs.Sound.{peer_sound, peers_sound}
use Rattle.node_sound.proofs.Every.{every_enumerated}
use Rattle.node_sound.proofs.peers_sound.Goals as goal

pub returns : goal.returns
unfolding peers_sound
returns c =
    let a = c.args in
    let peers = a.peers.now in
    all_from_yields_List (λ (p : ℕ × Peer). peer_sound a.number a.n p.0 p.1) _ _ c.all.result c.all.ensures.ran
    (YieldsList-from_enumerate (YieldsList-from_slice peers (cc)) (cc)) (λ x b q k. search (rules, tests))
    ∙ every_enumerated (peer_sound a.number a.n) 0 peers
