-- What a call that acts sends, and the entries that this makes. "Every message sent to several nodes goes out in that order" (by
-- rising node number), and "Records are taken from the head of the free chain and put at the inbox's end".
use Rattle.std.specs.Prelude.{ℕ, cond, List, [], ◌∷◌, eqb, get_or, drop, None, Option, Some}
use Rattle.store_laws.specs.Lists.{inbox_list, without}
use Rattle.item.specs.declared.Item.{Item}
use Rattle.record.specs.Layout.{rows_of, held_rows}
use Rattle.message.specs.declared.Envelope.{Envelope}
use Rattle.store.specs.Records.{record_in}
use Rattle.store.specs.Sound.{message_in}
use Rattle.protocol.specs.Deliver.{deliver_step}
use Rattle.protocol.specs.Node.{row_items}
use Rattle.protocol.specs.Outgoing.{outgoing}
use Rattle.protocol.specs.Table.{node_at}
use Rattle.protocol.specs.Write.{write_step, retry_step, crash_step, start_step}
use Rattle.protocol.specs.declared.Event.{Event}
use Rattle.protocol.specs.declared.Event.TheVariants as event
use Rattle.protocol.specs.declared.Node.{Node}
use Rattle.protocol.specs.declared.Step.{Step}
use Rattle.laws_inboxes.specs.Inbox.{Entry, entries_in, inbox}

-- the messages of one call, a place for each node number, and the items of the sender's rows
pub record Sent : Type 0 where
  pub messages : List (Option Envelope)
  pub rows : List Item

abbrev pub nothing_sent : Sent
nothing_sent = record { messages = []; rows = [] }

-- by a decision; `back` is the sender of the message delivered
abbrev pub sent_on : Step → ℕ → Sent
sent_on step back = record { messages = outgoing step.node step.sends back; rows = row_items step.node }

-- on the delivery of a message
unfoldable pub sent_for : Option Envelope → List Item → List Node → Sent
sent_for None items table = nothing_sent
sent_for (Some e) items table = sent_on (deliver_step (node_at table e.addressee) e items) e.sender

-- by an event that acts
unfoldable pub sent_by_event : Event → List Node → List (List ℕ) → Sent
sent_by_event (event.Write k tag) table rs = sent_on (write_step (node_at table k) tag) k
sent_by_event (event.Retry k) table rs = sent_on (retry_step (node_at table k)) k
sent_by_event (event.Crash k) table rs = sent_on (crash_step (node_at table k)) k
sent_by_event (event.Start k) table rs = sent_on (start_step (node_at table k)) k
sent_by_event (event.Drop r) table rs = nothing_sent
sent_by_event (event.Deliver r) table rs = sent_for (message_in rs r) (rows_of (record_in rs r)) table

-- the entry of a message in record r: a Table has "n of them, then zeros"
abbrev pub entry_of : ℕ → List Item → Envelope → ℕ → Entry
entry_of n rows e r = record { at = r; message = Some e; rows = held_rows e.message n rows }

-- the entries that these messages make in node k's inbox, each in the first record that is then free
unfoldable pub entries_to : ℕ → ℕ → List Item → List (Option Envelope) → List ℕ → List Entry
entries_to n k rows [] free = []
entries_to n k rows (None ∷ os) free = entries_to n k rows os free
entries_to n k rows (Some e ∷ os) free =
    cond (eqb e.addressee k)
    (entry_of n rows e (get_or free 0 0) ∷ entries_to n k rows os (drop 1 free))
    (entries_to n k rows os (drop 1 free))

-- what an event leaves of node k's inbox: Drop takes its record off, and "The message stays" where it is delivered
unfoldable pub kept : Event → List (List ℕ) → ℕ → List Entry
kept (event.Write k tag) rs j = inbox rs j
kept (event.Retry k) rs j = inbox rs j
kept (event.Crash k) rs j = inbox rs j
kept (event.Start k) rs j = inbox rs j
kept (event.Drop r) rs j = entries_in rs (without r (inbox_list rs j))
kept (event.Deliver r) rs j = inbox rs j

-- "a dropped one is cleared and becomes the free head"
unfoldable pub freed : Event → List ℕ → List ℕ
freed (event.Write k tag) free = free
freed (event.Retry k) free = free
freed (event.Crash k) free = free
freed (event.Start k) free = free
freed (event.Drop r) free = r ∷ free
freed (event.Deliver r) free = free
