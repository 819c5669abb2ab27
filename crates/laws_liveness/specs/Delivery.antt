-- Deliveries one after the other, each with the message delivered and the answer; and the four messages of a write between
-- its writer and a peer.
use Rattle.std.specs.Prelude.{ℕ, zero, suc, ◌≡◌, List, [], ◌∷◌, Some}
use Rattle.item.specs.declared.counters.Incarnation.{Incarnation}
use Rattle.message.specs.declared.Envelope.{Envelope}
use Rattle.message.specs.declared.Message.{Message}
use Rattle.message.specs.declared.Message.TheVariants as message
use Rattle.store.specs.Records.{records_of}
use Rattle.store.specs.Sound.{message_in}
use Rattle.protocol.specs.Node.{own_item}
use Rattle.operations.specs.Operation.{Result, perform}
use Rattle.protocol.specs.declared.Answer.{Answer}
use Rattle.protocol.specs.declared.Answer.TheVariants as answer
use Rattle.protocol.specs.declared.Event.TheVariants as event
use Rattle.protocol.specs.declared.Node.{Node}

pub record Delivery : Type 0 where
  pub at : ℕ
  pub message : Envelope
  pub answer : Answer

-- what a delivery leaves
unfoldable pub deliver : Result → ℕ → Result
deliver result r = perform (event.Deliver r) result.table result.store

-- these deliveries, one after the other, lead from one table and store to another
unfoldable pub Deliver : Result → List Delivery → Result → Type 0
Deliver before [] after = before ≡ after
Deliver before (d ∷ ds) after =
    (message_in (records_of before.store) d.at ≡ Some d.message) × ((deliver before d.at).answer ≡ d.answer) ×
    Deliver (deliver before d.at) ds after

unfoldable pub oks : ℕ → List Answer
oks zero = []
oks (suc m) = answer.Ok ∷ oks m

-- a message of node `from`, under its incarnation, to node `to`
abbrev pub envelope_of : ℕ → ℕ → Incarnation → Message → Envelope
envelope_of from to incarnation message = record { sender = from; addressee = to; incarnation = incarnation; message = message }

-- the messages of the write that `writer` has under way, to and from a peer with this number and incarnation
module _ (writer : Node) (q : ℕ) (under : Incarnation) where
  abbrev pub store_to : Envelope
  store_to = envelope_of writer.number q writer.incarnation (message.Store writer.attempt (own_item writer))

  abbrev pub stored_from : Envelope
  stored_from = envelope_of q writer.number under (message.Stored writer.incarnation writer.attempt (own_item writer))

  abbrev pub confirm_to : Envelope
  confirm_to = envelope_of writer.number q writer.incarnation (message.Confirm under writer.attempt (own_item writer))

  abbrev pub confirmed_from : Envelope
  confirmed_from = envelope_of q writer.number under (message.Confirmed writer.incarnation writer.attempt (own_item writer))
