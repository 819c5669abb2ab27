-- The decisions of one node as one type, so that a law is said once of all of them: the four calls, and the delivery of a
-- message of any of the six kinds.
use Rattle.std.specs.Prelude.{ℕ, ◌≤◌, ◌<◌, ◌≡◌, ◌≢◌, true, List, length, get_or}
use Rattle.item.specs.Item.{zero_item}
use Rattle.item.specs.Maxima.{max_nodes, valid_size}
use Rattle.item.specs.declared.Item.{Item}
use Rattle.item.specs.declared.Tag.{Tag}
use Rattle.message.specs.declared.Envelope.{Envelope}
use Rattle.protocol.specs.Deliver.{deliver_step}
use Rattle.protocol.specs.Sound.{sound_node}
use Rattle.protocol.specs.Write.{write_step, retry_step, crash_step, start_step}
use Rattle.protocol.specs.declared.Node.{Node}
use Rattle.protocol.specs.declared.Step.{Step}

pub data Decision : Type 0 where
  Write : Tag → Decision
  Retry Crash Start : Decision
  -- a message, with the items of a Table (else zero items)
  Deliver : Envelope → List Item → Decision

-- what a node makes of it
unfoldable pub decide : Decision → Node → Step
decide (Write tag) node = write_step node tag
decide Retry node = retry_step node
decide Crash node = crash_step node
decide Start node = start_step node
decide (Deliver envelope items) node = deliver_step node envelope items

-- and the node afterwards
abbrev pub after : Decision → Node → Node
after d node = (decide d node).node

-- node k of a valid group of n: it is sound, and its lists stand for arrays
pub record Stands (n k : ℕ) (node : Node) : Type 0 where
  pub valid : valid_size n ≡ true
  pub below : k < n
  pub sound : sound_node n k node ≡ true
  pub rows_length : length node.rows ≡ max_nodes
  pub counted_length : length node.counted ≡ max_nodes

-- a message to node k that a sound store holds: it is from another node of the group, and has no item for a node that the
-- group has not
pub record Comes (n k : ℕ) (envelope : Envelope) (items : List Item) : Type 0 where
  pub sender_below : envelope.sender < n
  pub from_other : envelope.sender ≢ k
  pub items_length : length items ≡ max_nodes
  pub items_zero : (j : ℕ) → n ≤ j → get_or items j zero_item ≡ zero_item

-- a call may come at any time
unfoldable pub MayCome : ℕ → ℕ → Decision → Type 0
MayCome n k (Write tag) = Unit {0}
MayCome n k Retry = Unit {0}
MayCome n k Crash = Unit {0}
MayCome n k Start = Unit {0}
MayCome n k (Deliver envelope items) = Comes n k envelope items
