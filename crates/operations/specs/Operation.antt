-- The seven operations over a table and a store of any length and content (document 01, Operations): the answer, and the
-- table and the store afterwards. Refusals come in document 01's order: first 2, 3 and 4, then those of the node's own
-- decision, and 7 last.
use Rattle.std.specs.Prelude.{ℕ, cond, ◌&&◌, List, ltb, eqb, length, set, None, Option, Some}
use Rattle.item.specs.Maxima.{valid_size}
use Rattle.record.specs.Layout.{rows_of}
use Rattle.store.specs.Records.{record_count, right_length, records_of, joined, record_in}
use Rattle.store.specs.Head.{group_size}
use Rattle.store.specs.Sound.{sound_records, free_count, message_in}
use Rattle.store.specs.Change.{put_each, count_outgoing, drop_in, empty_records}
pub use Rattle.protocol.specs.Answer.{is_refused}
unfoldable pub use Rattle.protocol.specs.Node.{row_items}
use Rattle.protocol.specs.Deliver.{deliver_step}
use Rattle.protocol.specs.Outgoing.{outgoing}
use Rattle.protocol.specs.Table.{node_at, sound_table, fresh_table}
use Rattle.protocol.specs.Write.{write_step, retry_step, crash_step, start_step}
use Rattle.protocol.specs.declared.Answer.{Answer}
use Rattle.protocol.specs.declared.Answer.TheVariants as answer
use Rattle.protocol.specs.declared.Event.{Event}
use Rattle.protocol.specs.declared.Event.TheVariants as event
use Rattle.protocol.specs.declared.Node.{Node}
use Rattle.protocol.specs.declared.Refusal.{Refusal}
use Rattle.protocol.specs.declared.Refusal.TheVariants.{GroupSize, StoreLength, Unsound, NoNode, NoRoom, NoMessage}
use Rattle.protocol.specs.declared.Step.{Step}
use Rattle.message.specs.declared.Envelope.{Envelope}

-- "Each operation's result, table and store"
pub record Result : Type 0 where
  pub answer : Answer
  pub table : List Node
  pub store : List ℕ

-- "A refusal changes no byte of table or store."
unfoldable pub refuse : Refusal → List Node → List ℕ → Result
refuse why table store = record { answer = answer.Refused why; table = table; store = store }

-- Set up (n, table, store). "1: n not valid or the table has not n nodes. 2: store not 65,280 bytes. Otherwise all nodes
-- Up and Idle, incarnation 1, attempt 0, rows zero; free chain 1, 2, .. 239; inboxes empty."
unfoldable pub set_up : ℕ → List Node → List ℕ → Result
set_up n table store =
    cond (valid_size n && eqb (length table) n)
    (cond (right_length store)
    (record { answer = answer.Ok; table = fresh_table n; store = joined (empty_records record_count n) })
    (refuse StoreLength table store))
    (refuse GroupSize table store)

-- the decision of node k is carried out: what it sends goes into the store, and the node into the table. "7: too few free
-- records for what it would send."
unfoldable pub sent_by : List Node → List ℕ → List (List ℕ) → ℕ → Step → List (Option Envelope) → Result
sent_by table store rs k step out =
    cond (ltb (free_count rs) (count_outgoing out)) (refuse NoRoom table store)
    (record {
      answer = step.answer;
      table = set table k step.node;
      store = joined (put_each rs out (row_items step.node));
    })

-- a refused decision leaves everything as it was
unfoldable pub carried_out : List Node → List ℕ → List (List ℕ) → ℕ → ℕ → Step → Result
carried_out table store rs k back step =
    cond (is_refused step.answer) (record { answer = step.answer; table = table; store = store })
    (sent_by table store rs k step (outgoing step.node step.sends back))

-- an event at node k. "4: node number not below n, where one is given."
unfoldable pub at_node : (Node → Step) → ℕ → List Node → List ℕ → List (List ℕ) → Result
at_node decide k table store rs =
    cond (ltb k (group_size rs)) (carried_out table store rs k k (decide (node_at table k))) (refuse NoNode table store)

-- Drop (record). "8: not on an inbox chain."
unfoldable pub dropped : Option Envelope → ℕ → List Node → List ℕ → List (List ℕ) → Result
dropped None r table store rs = refuse NoMessage table store
dropped (Some e) r table store rs =
    record { answer = answer.Ok; table = table; store = joined (drop_in rs e.addressee r) }

-- Deliver (record). "8 as above. The message stays and may be delivered again."
unfoldable pub delivered : Option Envelope → ℕ → List Node → List ℕ → List (List ℕ) → Result
delivered None r table store rs = refuse NoMessage table store
delivered (Some e) r table store rs =
    carried_out table store rs e.addressee e.sender
    (deliver_step (node_at table e.addressee) e (rows_of (record_in rs r)))

-- an event on a sound table and store, the store as its records
unfoldable pub on_sound : Event → List Node → List ℕ → List (List ℕ) → Result
on_sound (event.Write k tag) table store rs = at_node (λ node. write_step node tag) k table store rs
on_sound (event.Retry k) table store rs = at_node retry_step k table store rs
on_sound (event.Crash k) table store rs = at_node crash_step k table store rs
on_sound (event.Start k) table store rs = at_node start_step k table store rs
on_sound (event.Drop r) table store rs = dropped (message_in rs r) r table store rs
on_sound (event.Deliver r) table store rs = delivered (message_in rs r) r table store rs

-- "3: store or table unsound"
unfoldable pub on_records : Event → List Node → List ℕ → List (List ℕ) → Result
on_records e table store rs =
    cond (sound_records rs && sound_table (group_size rs) table) (on_sound e table store rs) (refuse Unsound table store)

-- "All others first: 2 as above; 3: store or table unsound; then 4"
unfoldable pub perform : Event → List Node → List ℕ → Result
perform e table store =
    cond (right_length store) (on_records e table store (records_of store)) (refuse StoreLength table store)
