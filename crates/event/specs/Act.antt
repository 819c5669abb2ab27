-- An event on a sound table and store at one node by value, with the store: the shape of `perform`, where the table is one
-- node.
use Rattle.std.specs.Prelude.{ℕ, ◌≡◌, cond, List, ltb, None, Option, Some, Result, Ok, Err, ok_or}
use Rattle.record.specs.Layout.{record_of, rows_of}
use Rattle.store.specs.Records.{right_length, on_records}
use Rattle.store.specs.Sound.{survey, message_at}
use Rattle.store.specs.Change.{put_each, count_outgoing, drop_in}
use Rattle.protocol.specs.Deliver.{deliver_step}
use Rattle.protocol.specs.Answer.{is_refused}
use Rattle.protocol.specs.Node.{row_items}
use Rattle.protocol.specs.Outgoing.{outgoing}
use Rattle.protocol.specs.Write.{write_step, retry_step, crash_step, start_step}
use Rattle.protocol.specs.declared.Answer.{Answer}
use Rattle.protocol.specs.declared.Answer.TheVariants as answer
use Rattle.protocol.specs.declared.Event.{Event}
use Rattle.protocol.specs.declared.Event.TheVariants as event
use Rattle.protocol.specs.declared.Node.{Node}
use Rattle.protocol.specs.declared.Refusal.{Refusal}
use Rattle.protocol.specs.declared.Refusal.TheVariants.{StoreLength, Unsound, NoNode, NoRoom, NoMessage}
use Rattle.protocol.specs.declared.Step.{Step}
use Rattle.store.specs.declared.Survey.{Survey}
use Rattle.message.specs.declared.Envelope.{Envelope}

-- ---- before the table is read

-- the message in the event's record; none where it names no record
unfoldable pub reading_of : Event → List ℕ → Option Envelope
reading_of (event.Write k tag) store = None
reading_of (event.Retry k) store = None
reading_of (event.Crash k) store = None
reading_of (event.Start k) store = None
reading_of (event.Drop r) store = message_at store r
reading_of (event.Deliver r) store = message_at store r

-- the addressee of a message; 0 where there is none
unfoldable pub addressee_of : Option Envelope → ℕ
addressee_of None = 0
addressee_of (Some e) = e.addressee

-- whose event it is: the node number given, or the addressee of the message
unfoldable pub place_of : Event → Option Envelope → ℕ
place_of (event.Write k tag) reading = k
place_of (event.Retry k) reading = k
place_of (event.Crash k) reading = k
place_of (event.Start k) reading = k
place_of (event.Drop r) reading = addressee_of reading
place_of (event.Deliver r) reading = addressee_of reading

-- which record an event drops, if it is a Drop
unfoldable pub drop_target_of : Event → Option ℕ
drop_target_of (event.Write k tag) = None
drop_target_of (event.Retry k) = None
drop_target_of (event.Crash k) = None
drop_target_of (event.Start k) = None
drop_target_of (event.Drop r) = Some r
drop_target_of (event.Deliver r) = None

-- "2 as above; 3: store or table unsound": what is found in the store
unfoldable pub checked : List ℕ → Result Survey Refusal
checked store = cond (right_length store) (ok_or (survey store) Unsound) (Err StoreLength)

-- ---- one node and the store

-- the answer, and the node and the store afterwards
pub record Outcome : Type 0 where
  pub answer : Answer
  pub node : Node
  pub store : List ℕ

-- the answer of a call that may be refused
abbrev pub answered : Result Answer Refusal → Answer
answered (Ok answer) = answer
answered (Err why) = answer.Refused why

-- what a call answers, and the node and the store that it leaves, are an outcome's
abbrev pub Gives : Outcome → Result Answer Refusal → Node → List ℕ → Type 0
Gives o result node store = (answered result ≡ o.answer) × (node ≡ o.node) × (store ≡ o.store)

abbrev pub refuse : Refusal → Node → List ℕ → Outcome
refuse why node store = record { answer = answer.Refused why; node = node; store = store }

-- "7: too few free records for what it would send"
unfoldable pub sent_by : Node → List ℕ → ℕ → Step → List (Option Envelope) → Outcome
sent_by node store free step out =
    cond (ltb free (count_outgoing out)) (refuse NoRoom node store)
    (record {
      answer = step.answer;
      node = step.node;
      store = on_records (λ rs. put_each rs out (row_items step.node)) store;
    })

-- a refused decision leaves everything as it was
unfoldable pub carried_out : Node → List ℕ → ℕ → ℕ → Step → Outcome
carried_out node store free back step =
    cond (is_refused step.answer) (record { answer = step.answer; node = node; store = store })
    (sent_by node store free step (outgoing step.node step.sends back))

-- "4: node number not below n, where one is given"
unfoldable pub at_node : Node → List ℕ → Survey → ℕ → Step → Outcome
at_node node store seen k step =
    cond (ltb k seen.n) (carried_out node store seen.free k step) (refuse NoNode node store)

-- "8: not on an inbox chain"
unfoldable pub dropped : Option Envelope → Node → List ℕ → ℕ → Outcome
dropped None node store r = refuse NoMessage node store
dropped (Some e) node store r =
    record { answer = answer.Ok; node = node; store = on_records (λ rs. drop_in rs e.addressee r) store }

unfoldable pub delivered : Option Envelope → Node → List ℕ → ℕ → ℕ → Outcome
delivered None node store free r = refuse NoMessage node store
delivered (Some e) node store free r =
    carried_out node store free e.sender (deliver_step node e (rows_of (record_of store r)))

-- an event on a sound table and store
unfoldable pub on_sound : Event → Node → List ℕ → Survey → Option Envelope → Outcome
on_sound (event.Write k tag) node store seen reading = at_node node store seen k (write_step node tag)
on_sound (event.Retry k) node store seen reading = at_node node store seen k (retry_step node)
on_sound (event.Crash k) node store seen reading = at_node node store seen k (crash_step node)
on_sound (event.Start k) node store seen reading = at_node node store seen k (start_step node)
on_sound (event.Drop r) node store seen reading = dropped reading node store r
on_sound (event.Deliver r) node store seen reading = delivered reading node store seen.free r
