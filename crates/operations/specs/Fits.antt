-- The numbers that a node holds and sends, each within its width: "Index and tag are 64-bit, incarnation and attempt 32-bit".
use Rattle.std.specs.Prelude.{ℕ, ◌^◌, ◌<◌, get_or}
use Rattle.record.specs.RoundTrip.{ItemFits}
use Rattle.protocol.specs.Node.{no_peer, row_of}
use Rattle.protocol.specs.declared.Node.{Node}
use Rattle.protocol.specs.declared.Peer.{Peer}

-- "incarnation and attempt 32-bit": four bytes
abbrev pub CounterFits : ℕ → Type 0
CounterFits c = c < 256 ^ 4

-- the incarnation of a peer, counted or asked or not
abbrev pub PeerFits : Peer → Type 0
PeerFits peer = CounterFits peer.incarnation.0

-- every number of a node that a message may bear: all but its rows' counters
pub record NodeFits (node : Node) : Type 0 where
  pub incarnation_fits : CounterFits node.incarnation.0
  pub attempt_fits : CounterFits node.attempt.0
  pub items_fit : (i : ℕ) → ItemFits (row_of node i).item
  pub counted_fit : (i : ℕ) → PeerFits (get_or node.counted i no_peer)
  pub asked_fit : (i : ℕ) → PeerFits (get_or node.asked i no_peer)
