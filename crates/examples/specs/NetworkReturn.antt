-- Demand 3 is not empty: a run of the network in which a node returns. It is document 01's drill of sixteen lines: node 0 of
-- three writes tag 65 and has it settled with node 1, crashes, starts, counts the tables of both peers, writes its item back
-- and accepts it.
use Rattle.std.specs.Prelude.{ℕ, List, [], ◌∷◌, None, Some}
use Rattle.item.specs.declared.counters.Attempt.{Attempt}
use Rattle.item.specs.declared.counters.Incarnation.{Incarnation}
use Rattle.item.specs.declared.Item.{Item}
use Rattle.message.specs.declared.Message.{Message}
use Rattle.message.specs.declared.Message.TheVariants.{Store, Stored, Confirm, Confirmed, Fetch, Table}
use Rattle.protocol.specs.Call.{Call}
use Rattle.protocol.specs.Network.{Network, Run, fresh_network}
use Rattle.protocol.specs.declared.Answer.{Answer}
use Rattle.protocol.specs.declared.Answer.TheVariants.{Ok, Settled, Accepted}
use Rattle.protocol.specs.declared.Event.{Event}
use Rattle.protocol.specs.declared.Event.TheVariants as event

abbrev pub item : Item
item = record { index = record { 0 = 1 }; tag = record { 0 = 65 } }

abbrev pub incarnation : ℕ → Incarnation
incarnation i = record { 0 = i }

abbrev pub attempt : ℕ → Attempt
attempt a = record { 0 = a }

-- a call at the node that it names
abbrev pub call : Event → Answer → Call
call e a = record { event = e; answer = a; message = None }

-- the delivery of a message from one node to another, sent in the sender's incarnation i; r is the drill's record
abbrev pub delivery : (r sender addressee i : ℕ) → Message → Answer → Call
delivery r sender addressee i m a =
    record {
      event = event.Deliver r;
      answer = a;
      message = Some (record { sender = sender; addressee = addressee; incarnation = incarnation i; message = m });
    }

unfoldable pub drill_calls : List Call
drill_calls =
    call (event.Write 0 item.tag) Ok ∷
    delivery 1 0 1 1 (Store (attempt 1) item) Ok ∷
    delivery 3 1 0 1 (Stored (incarnation 1) (attempt 1) item) Ok ∷
    delivery 4 0 1 1 (Confirm (incarnation 1) (attempt 1) item) Ok ∷
    delivery 5 1 0 1 (Confirmed (incarnation 1) (attempt 1) item) (Settled item) ∷
    call (event.Crash 0) Ok ∷
    call (event.Start 0) Ok ∷
    delivery 6 0 1 2 Fetch Ok ∷
    delivery 7 0 2 2 Fetch Ok ∷
    delivery 8 1 0 1 (Table (incarnation 2)) Ok ∷
    delivery 9 2 0 1 (Table (incarnation 2)) Ok ∷
    delivery 10 0 1 2 (Store (attempt 1) item) Ok ∷
    delivery 12 1 0 1 (Stored (incarnation 2) (attempt 1) item) Ok ∷
    delivery 13 0 1 2 (Confirm (incarnation 1) (attempt 1) item) Ok ∷
    delivery 14 1 0 1 (Confirmed (incarnation 2) (attempt 1) item) (Accepted item) ∷
    []

-- these calls are a run from fresh nodes
unfoldable pub ReturnReached : Type 0
ReturnReached = (left : Network) × Run (fresh_network 3) drill_calls left
