-- When each operation acts (document 01, Operations): every refusal that it lists, turned round, in a group of n. The table and
-- the store are sound; `rs` are the store's records.
use Rattle.std.specs.Prelude.{ℕ, ◌-◌, Bool, false, cond, not, ◌&&◌, ◌||◌, List, leb, ltb, None, Option, Some}
use Rattle.store_laws.specs.Lists.{inbox_list, times_on}
use Rattle.item.specs.Counter.{earlier, attempt_at_largest, incarnation_at_largest}
use Rattle.item.specs.Item.{ranks_below, same_item}
use Rattle.item.specs.declared.counters.Attempt.{Attempt}
use Rattle.item.specs.declared.counters.Incarnation.{Incarnation}
use Rattle.item.specs.declared.Item.{Item}
use Rattle.item.specs.declared.Row.{Row}
use Rattle.record.specs.Layout.{rows_of}
use Rattle.message.specs.declared.Message.{Message}
use Rattle.message.specs.declared.Message.TheVariants as message
use Rattle.store.specs.Records.{record_in}
use Rattle.store.specs.Sound.{free_count, message_in}
use Rattle.protocol.specs.Fetching.{has_conflict, with_table}
use Rattle.protocol.specs.Node.{half, row_of, with_counted, below_half, at_most_half, own_incarnation}
use Rattle.operations.specs.Operation.{Result}
use Rattle.protocol.specs.Answer.{is_refused}
use Rattle.protocol.specs.Phase.{is_down, is_fetching, is_idle, is_up_idle, is_up, is_storing, is_confirming}
use Rattle.protocol.specs.Storing.{own_write, is_counted, stored_under, asked_under}
use Rattle.protocol.specs.Table.{node_at}
use Rattle.protocol.specs.Write.{write_at_largest}
use Rattle.protocol.specs.declared.Node.{Node}
use Rattle.message.specs.declared.Envelope.{Envelope}

-- a call acts if it is not refused
unfoldable pub acted : Result → Bool
acted result = not (is_refused result.answer)

-- so many records are free
unfoldable pub is_room_for : ℕ → List (List ℕ) → Bool
is_room_for count rs = leb count (free_count rs)

-- Write: the node exists; "5: not Up and Idle. 6: own index or attempt is at its largest. 7: fewer than n-1 free records."
unfoldable pub may_write : ℕ → ℕ → List Node → List (List ℕ) → Bool
may_write n k table rs =
    let node = node_at table k in
    ltb k n && (is_up_idle node.phase && (not (write_at_largest node) && is_room_for (n - 1) rs))

-- Retry: "5: Down, or Idle. 6: attempt at its largest, unless Fetching. 7: fewer than n-1 free."
unfoldable pub may_retry : ℕ → ℕ → List Node → List (List ℕ) → Bool
may_retry n k table rs =
    let node = node_at table k in
    ltb k n && (not (is_down node.phase || is_idle node.phase) &&
    ((is_fetching node.phase || not (attempt_at_largest node.attempt)) && is_room_for (n - 1) rs))

-- Crash: "5: Down."
unfoldable pub may_crash : ℕ → ℕ → List Node → Bool
may_crash n k table = ltb k n && not (is_down (node_at table k).phase)

-- Start: "5: not Down. 6: incarnation at its largest. 7: fewer than n-1 free."
unfoldable pub may_start : ℕ → ℕ → List Node → List (List ℕ) → Bool
may_start n k table rs =
    let node = node_at table k in
    ltb k n && (is_down node.phase && (not (incarnation_at_largest node.incarnation) && is_room_for (n - 1) rs))

-- "8: not on an inbox chain": record r stands on the inbox of one of the n nodes
unfoldable pub on_inbox : ℕ → ℕ → List (List ℕ) → Bool
on_inbox n r rs = ltb 0 (times_on r n (inbox_list rs) 0)

-- what a row takes: "12: index below the row's. 13: same index, other tag. 10: same item, and incarnation, then attempt,
-- earlier than the row's."
unfoldable pub row_takes : Row → Incarnation → Attempt → Item → Bool
row_takes row incarnation attempt item =
    not (ranks_below item row.item) &&
    (ranks_below row.item item ||
    (same_item item row.item && not (earlier incarnation attempt row.incarnation row.attempt)))

-- Deliver, by kind: whether the addressee takes the message ("9: the addressee's stage does not take this kind; then 10 to 13
-- by kind")
unfoldable pub takes : Message → Node → ℕ → Incarnation → Bool
takes (message.Store attempt item) node sender incarnation =
    is_up node.phase && row_takes (row_of node sender) incarnation attempt item
takes (message.Stored other attempt item) node sender incarnation =
    is_storing node.phase && (own_write node other attempt item && not (is_counted node sender))
takes (message.Confirm other attempt item) node sender incarnation =
    is_up node.phase && (own_incarnation node other && stored_under (row_of node sender) incarnation attempt item)
takes (message.Confirmed other attempt item) node sender incarnation =
    is_confirming node.phase &&
    ((own_write node other attempt item && asked_under node sender incarnation) && not (is_counted node sender))
takes message.Fetch node sender incarnation = is_up node.phase
takes (message.Table other) node sender incarnation =
    is_fetching node.phase && (own_incarnation node other && not (is_counted node sender))

-- and how many messages it then sends: an answer; "At f counted .. Confirm to exactly these f"; at f+1 tables without a
-- conflict the Stores of the write-back
unfoldable pub sending : ℕ → Message → Node → ℕ → Incarnation → List Item → ℕ
sending n (message.Store attempt item) node sender incarnation items = 1
sending n (message.Stored other attempt item) node sender incarnation items =
    cond (below_half (with_counted node sender incarnation)) 0 (half n)
sending n (message.Confirm other attempt item) node sender incarnation items = 1
sending n (message.Confirmed other attempt item) node sender incarnation items = 0
sending n message.Fetch node sender incarnation items = 1
sending n (message.Table other) node sender incarnation items =
    let counted = with_table node sender incarnation items in
    cond (at_most_half counted) 0 (cond (has_conflict counted) 0 (n - 1))

-- "then 7: too few free records for what it would send"
unfoldable pub is_taken : ℕ → Option Envelope → List Item → List Node → List (List ℕ) → Bool
is_taken n None items table rs = false
is_taken n (Some e) items table rs =
    let node = node_at table e.addressee in
    takes e.message node e.sender e.incarnation &&
    is_room_for (sending n e.message node e.sender e.incarnation items) rs

unfoldable pub may_deliver : ℕ → ℕ → List Node → List (List ℕ) → Bool
may_deliver n r table rs = on_inbox n r rs && is_taken n (message_in rs r) (rows_of (record_in rs r)) table rs
