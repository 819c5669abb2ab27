-- The messages that a decision sends: a place for each node number, so that they go out "by rising number".
use Rattle.std.specs.Prelude.{ℕ, zero, suc, cond, List, [], ◌∷◌, eqb, ltb, Option, Some, None, option_map}
use Rattle.item.specs.Maxima.{max_nodes}
use Rattle.message.specs.declared.Envelope.{Envelope}
use Rattle.message.specs.declared.Message.{Message}
use Rattle.message.specs.declared.Message.TheVariants as message
use Rattle.protocol.specs.Node.{peer_of}
use Rattle.protocol.specs.declared.Node.{Node}
use Rattle.protocol.specs.declared.Sends.{Sends}
use Rattle.protocol.specs.declared.Sends.TheVariants as sends

-- The message to node k, if one goes there: "every other node", "exactly these f"; `back` is the sender of the message
-- delivered. Confirm bears "the incarnation under which the addressee answered Stored".
unfoldable pub message_to : Sends → Node → ℕ → ℕ → Option Message
message_to sends.Nothing node back k = None
message_to (sends.Back message) node back k = cond (eqb k back) (Some message) None
message_to (sends.Others message) node back k = cond (eqb k node.number) None (Some message)
message_to (sends.Asked attempt item) node back k =
    option_map (λ other. message.Confirm other attempt item) (peer_of node.asked k)

-- a node's message to node k
abbrev pub envelope_to : Node → ℕ → Message → Envelope
envelope_to node k message =
    record { sender = node.number; addressee = k; incarnation = node.incarnation; message = message }

-- what goes to node k, if anything
unfoldable pub outgoing_to : Node → Sends → ℕ → ℕ → Option Envelope
outgoing_to node sends back k =
    cond (ltb k node.n) (option_map (envelope_to node k) (message_to sends node back k)) None

-- count places from k on
unfoldable pub outgoing_from : Node → Sends → ℕ → ℕ → ℕ → List (Option Envelope)
outgoing_from node sends back k zero = []
outgoing_from node sends back k (suc count) = outgoing_to node sends back k ∷ outgoing_from node sends back (suc k) count

-- "Every message sent to several nodes goes out in that order": a place for each node number
unfoldable pub outgoing : Node → Sends → ℕ → List (Option Envelope)
outgoing node sends back = outgoing_from node sends back 0 max_nodes
