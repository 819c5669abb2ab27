-- Runs (document 01, Runs and returns): "A run is an accepted Set up, for any valid n, and then any list of Write, Retry,
-- Crash, Start, Drop and Deliver .. with any arguments. Refused calls stand in the list too. .. The first call gets table
-- and store as Set up left them, each later one as the call before left them".
use Rattle.std.specs.Prelude.{ℕ, List, [], ◌∷◌, None, Option}
use Rattle.store.specs.Records.{records_of}
use Rattle.store.specs.Sound.{message_in}
use Rattle.operations.specs.Operation.{Result, perform}
pub use Rattle.protocol.specs.Call.{Call}
use Rattle.protocol.specs.declared.Event.{Event}
use Rattle.protocol.specs.declared.Event.TheVariants as event
use Rattle.protocol.specs.declared.Node.{Node}
use Rattle.message.specs.declared.Envelope.{Envelope}

-- the message that an event delivers
unfoldable pub delivered_by : Event → List ℕ → Option Envelope
delivered_by (event.Write k tag) store = None
delivered_by (event.Retry k) store = None
delivered_by (event.Crash k) store = None
delivered_by (event.Start k) store = None
delivered_by (event.Drop r) store = None
delivered_by (event.Deliver r) store = message_in (records_of store) r

unfoldable pub call_of : Event → List Node → List ℕ → Call
call_of e table store =
    record { event = e; answer = (perform e table store).answer; message = delivered_by e store }

-- the calls of a list of events, each on what the one before left
unfoldable pub calls : List Node → List ℕ → List Event → List Call
calls table store [] = []
calls table store (e ∷ es) =
    call_of e table store ∷ calls (perform e table store).table (perform e table store).store es

-- "each later one as the call before left them": the result of the last of a list of events, or of what was before them
unfoldable pub left : Result → List Event → Result
left result [] = result
left result (e ∷ es) = left (perform e result.table result.store) es
