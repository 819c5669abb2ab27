-- The tests of a view, where it is the view of a node: they are protocol's tests of this node.
use Prim.Native.Nat.{ℕ, zero, suc}
use native.Mathlib.Omega.{arith}
use mathlib.Core.Path.{◌≡◌, refl}
use mathlib.Core.List.{List, [], ◌∷◌}
use lib.ListN.{set}
use Rattle.item.specs.declared.counters.Attempt.{Attempt}
use Rattle.item.specs.declared.counters.Incarnation.{Incarnation}
use Rattle.item.specs.declared.Item.{Item}
use Rattle.protocol.proofs.Counts.{count_more}
use Rattle.protocol.specs.Node.{peer_under, count_peers, below_half, with_counted}
use Rattle.protocol.specs.Storing.{own_write}
use Rattle.protocol.specs.declared.Node.{Node}
use Rattle.protocol.specs.declared.Peer.{Peer}
use Rattle.sender_view.specs.View.{some_peer, view_of, own_write_in, below_half_in}

-- so many are counted with a peer, whatever its incarnation
count_with : (peers : List Peer) (i : ℕ) (incarnation : Incarnation) → count_peers (set peers i (peer_under incarnation)) ≡ count_peers (set peers i some_peer)
unfolding count_peers
count_with [] i incarnation = refl
count_with (p ∷ peers) zero incarnation = refl
count_with (p ∷ peers) (suc i) incarnation =
    omega (arith, count_more p (set peers i (peer_under incarnation)), count_more p (set peers i some_peer), count_with peers i incarnation)

pub own_write_of : (node : Node) (sender : ℕ) (other : Incarnation) (attempt : Attempt) (item : Item)
    → own_write_in (view_of node sender) other attempt item ≡ own_write node other attempt item
unfolding own_write_in own_write view_of
own_write_of node sender other attempt item = refl

pub below_half_of : (node : Node) (sender : ℕ) (incarnation : Incarnation)
    → below_half_in (view_of node sender) ≡ below_half (with_counted node sender incarnation)
unfolding below_half_in view_of with_counted
below_half_of node sender incarnation =
    rw (count_with node.counted sender incarnation)
