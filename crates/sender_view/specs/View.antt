-- What the delivery of a message without rows looks at of its node.
use Rattle.std.specs.Prelude.{ℕ, Bool, ◌&&◌, ltb, set}
use Rattle.item.specs.Counter.{same_incarnation, same_attempt}
use Rattle.item.specs.Item.{same_item}
use Rattle.item.specs.declared.counters.Attempt.{Attempt}
use Rattle.item.specs.declared.counters.Incarnation.{Incarnation}
use Rattle.item.specs.declared.Item.{Item}
use Rattle.protocol.specs.Node.{half, row_of, own_item, peer_under, peer_of, count_peers}
use Rattle.protocol.specs.Storing.{is_counted}
use Rattle.protocol.specs.declared.Node.{Node}
use Rattle.protocol.specs.declared.Peer.{Peer}
use Rattle.sender_view.specs.declared.view.SenderView.{SenderView}

-- a peer that is counted, whatever its incarnation
abbrev pub some_peer : Peer
some_peer = peer_under (record { 0 = 0 })

-- what a node is to one sender
unfoldable pub view_of : Node → ℕ → SenderView
view_of node sender =
    record {
      n = node.n;
      incarnation = node.incarnation;
      attempt = node.attempt;
      phase = node.phase;
      own = own_item node;
      row = row_of node sender;
      counted = is_counted node sender;
      asked = peer_of node.asked sender;
      count = count_peers (set node.counted sender some_peer);
    }

-- "other incarnation, attempt or item .. its own present ones"
unfoldable pub own_write_in : SenderView → Incarnation → Attempt → Item → Bool
own_write_in view other attempt item =
    same_incarnation other view.incarnation && (same_attempt attempt view.attempt && same_item item view.own)

-- fewer than f are counted with the sender: not yet "At f counted", "At f"
unfoldable pub below_half_in : SenderView → Bool
below_half_in view = ltb view.count (half view.n)
