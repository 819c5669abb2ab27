-- The nodes of a group on a network, each on a machine of its own: no table, no store and no bytes. A run is told by the same
-- calls as a run over a store (`Call`): what was called, what it answered, what was delivered.
use Rattle.std.specs.Prelude.{ℕ, ◌<◌, ◌≡◌, true, false, length, set, None, Option, Some}
use mathlib.Core.List.{List, [], ◌∷◌, ◌++◌, Memᴰ}
use Rattle.item.specs.declared.Item.{Item}
use Rattle.item.specs.declared.Tag.{Tag}
use Rattle.message.specs.Rows.{held_rows}
use Rattle.message.specs.declared.Envelope.{Envelope}
use Rattle.protocol.specs.Answer.{is_refused, by_decision}
use Rattle.protocol.specs.Call.{Call}
use Rattle.protocol.specs.Deliver.{deliver_step}
use Rattle.protocol.specs.Node.{row_items}
use Rattle.protocol.specs.Outgoing.{outgoing}
use Rattle.protocol.specs.Table.{node_at, fresh_table}
use Rattle.protocol.specs.Write.{write_step, retry_step, crash_step, start_step}
use Rattle.protocol.specs.declared.Answer.TheVariants as answer
use Rattle.protocol.specs.declared.Event.{Event}
use Rattle.protocol.specs.declared.Event.TheVariants as event
use Rattle.protocol.specs.declared.Node.{Node}
use Rattle.protocol.specs.declared.Refusal.{Refusal}
use Rattle.protocol.specs.declared.Step.{Step}

-- a message that was sent, with the rows beside it
pub record Packet : Type 0 where
  pub envelope : Envelope
  pub rows : List Item

-- the nodes, and every message that was ever sent
pub record Network : Type 0 where
  pub nodes : List Node
  pub sent : List Packet

-- ---- what a decision sends

-- "Only Table has rows: n of them, then zeros."
unfoldable pub packet_of : Node → Envelope → Packet
packet_of node e = record { envelope = e; rows = held_rows e.message node.n (row_items node) }

-- the packets of what a node sends
unfoldable pub packets_of : Node → List (Option Envelope) → List Packet
packets_of node [] = []
packets_of node (None ∷ os) = packets_of node os
packets_of node (Some e ∷ os) = packet_of node e ∷ packets_of node os

-- after a decision of node k, which answers the node `back`: the node is replaced, and what it sends is added
unfoldable pub network_after : Network → ℕ → ℕ → Step → Network
network_after net k back step =
    record {
      nodes = set net.nodes k step.node;
      sent = packets_of step.node (outgoing step.node step.sends back) ++ net.sent;
    }

-- ---- one call

-- The decision of node k on an event, with the message that the event delivers and its sender `back`. Any message that was
-- ever sent may be delivered, at any time, any number of times ("The message stays and may be delivered again") or never: so
-- messages are lost, repeated, delayed and overtaken, and there is no bound on those under way. r may be any number.
pub data Decides (net : Network) : Event → Option Envelope → (k back : ℕ) → Step → Type 0 where
  writes : (k : ℕ) (tag : Tag) → k < length net.nodes
      → Decides net (event.Write k tag) None k k (write_step (node_at net.nodes k) tag)
  retries : (k : ℕ) → k < length net.nodes → Decides net (event.Retry k) None k k (retry_step (node_at net.nodes k))
  crashes : (k : ℕ) → k < length net.nodes → Decides net (event.Crash k) None k k (crash_step (node_at net.nodes k))
  starts : (k : ℕ) → k < length net.nodes → Decides net (event.Start k) None k k (start_step (node_at net.nodes k))
  delivers : (r : ℕ) (p : Packet) → Memᴰ p net.sent
      → Decides net (event.Deliver r) (Some p.envelope) p.envelope.addressee p.envelope.sender
      (deliver_step (node_at net.nodes p.envelope.addressee) p.envelope p.rows)

-- One call. Refusals 5, 6 and 9 to 13 come from the node's decision alone. With the others, which are the host's and the
-- store's, any call may be refused at any time. A refusal changes nothing, and neither does a Drop: a message that was sent
-- need never be delivered.
pub data Next (net : Network) : Call → Network → Type 0 where
  host_refuses : (e : Event) (m : Option Envelope) (why : Refusal) → by_decision why ≡ false
      → Next net (record { event = e; answer = answer.Refused why; message = m }) net
  node_refuses : {e : Event} {m : Option Envelope} {k back : ℕ} {step : Step} → Decides net e m k back step → is_refused step.answer ≡ true
      → Next net (record { event = e; answer = step.answer; message = m }) net
  drops : (r : ℕ) → Next net (record { event = event.Drop r; answer = answer.Ok; message = None }) net
  acts : {e : Event} {m : Option Envelope} {k back : ℕ} {step : Step} → Decides net e m k back step → is_refused step.answer ≡ false
      → Next net (record { event = e; answer = step.answer; message = m }) (network_after net k back step)

-- Refusals 5, 6 and 9 to 13 are all that a decision gives, so no refusal is both a node's and the host's.
unfoldable pub NodeRefusals : Type 0
NodeRefusals =
    (net : Network) (e : Event) (m : Option Envelope) (k back : ℕ) (step : Step) → Decides net e m k back step →
    (why : Refusal) → step.answer ≡ answer.Refused why → by_decision why ≡ true

-- ---- runs

-- a list of calls, each on what the one before left, and what the last one left
pub data Run : Network → List Call → Network → Type 0 where
  end : {net : Network} → Run net [] net
  then : {net net' left : Network} {call : Call} {calls : List Call} → Next net call net' → Run net' calls left → Run net (call ∷ calls) left

-- Set up: "all nodes Up and Idle, incarnation 1, attempt 0, rows zero"; nothing was sent
unfoldable pub fresh_network : ℕ → Network
fresh_network n = record { nodes = fresh_table n; sent = [] }
