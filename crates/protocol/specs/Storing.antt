-- Delivery of Store, Stored, Confirm and Confirmed to one node (document 01, Deliver): the two rounds of a write.
-- The sender and its incarnation are the envelope's.
use Rattle.std.specs.Prelude.{ℕ, Bool, cond, ◌&&◌, is_some, Some, Result, Ok, Err}
use Rattle.std.specs.Option.{option_eq}
use Rattle.item.specs.Counter.{same_incarnation, same_attempt, earlier}
use Rattle.item.specs.Item.{ranks_below, same_item}
use Rattle.item.specs.declared.counters.Attempt.{Attempt}
use Rattle.item.specs.declared.counters.Incarnation.{Incarnation}
use Rattle.item.specs.declared.Item.{Item}
use Rattle.item.specs.declared.Row.{Row}
use Rattle.message.specs.declared.Message.TheVariants as message
use Rattle.protocol.specs.Answer.{ok, refused}
use Rattle.protocol.specs.Node.{row_of, own_item, stored_row, peer_of, with_row, with_counted, confirming_begun, write_ended, below_half, own_incarnation}
use Rattle.protocol.specs.Phase.{is_up, is_storing, is_confirming, is_returning, at_stage}
use Rattle.protocol.specs.declared.Answer.{Answer}
use Rattle.protocol.specs.declared.Answer.TheVariants as answer
use Rattle.protocol.specs.declared.Node.{Node}
use Rattle.protocol.specs.declared.Phase.{Phase}
use Rattle.protocol.specs.declared.Refusal.{Refusal}
use Rattle.protocol.specs.declared.Refusal.TheVariants.{NotTaken, Stale, Counted, LowerRank, OtherTag}
use Rattle.protocol.specs.declared.Sends.TheVariants as sends
use Rattle.protocol.specs.declared.Stage.TheVariants.{Confirming}
use Rattle.protocol.specs.declared.Step.{Step}

-- what the sender's row says to an item stored under these counters. "12: index below the row's. 13: same index, other
-- tag. 10: same item, and incarnation, then attempt, earlier than the row's. Otherwise the row takes it"
unfoldable pub store_verdict : Row → Incarnation → Attempt → Item → Result (Unit {0}) Refusal
store_verdict row incarnation attempt item =
    cond (ranks_below item row.item) (Err LowerRank)
    (cond (ranks_below row.item item) (Ok tt)
    (cond (same_item item row.item)
    (cond (earlier incarnation attempt row.incarnation row.attempt) (Err Stale) (Ok tt))
    (Err OtherTag)))

-- reply_store: "the row takes it; Stored goes back". Document 002 also answers a Store of a lower index; here it is 12.
unfoldable pub reply_store : Result (Unit {0}) Refusal → Node → ℕ → Incarnation → Attempt → Item → Step
reply_store (Err why) node sender incarnation attempt item = refused node why
reply_store (Ok takes) node sender incarnation attempt item =
    ok (with_row node sender (stored_row item incarnation attempt)) (sends.Back (message.Stored incarnation attempt item))

-- "Store, at Up."
unfoldable pub on_store : Node → ℕ → Incarnation → Attempt → Item → Step
on_store node sender incarnation attempt item =
    cond (is_up node.phase)
    (reply_store (store_verdict (row_of node sender) incarnation attempt item) node sender incarnation attempt item)
    (refused node NotTaken)

-- "other incarnation, attempt or item .. its own present ones"
unfoldable pub own_write : Node → Incarnation → Attempt → Item → Bool
own_write node other attempt item =
    same_incarnation other node.incarnation && (same_attempt attempt node.attempt && same_item item (own_item node))

-- "11: sender counted"
unfoldable pub is_counted : Node → ℕ → Bool
is_counted node sender = is_some (peer_of node.counted sender)

-- send_confirm_store: "Confirm to exactly these f"
unfoldable pub send_confirm : Node → Step
send_confirm node = ok node (sends.Asked node.attempt (own_item node))

-- the sender is counted. "At f counted: Confirming"
unfoldable pub stored_counted : Node → Step
stored_counted node =
    cond (below_half node) (ok node sends.Nothing)
    (send_confirm (confirming_begun node (at_stage node.phase Confirming)))

-- "Stored, at Storing. 10: other incarnation, attempt or item not its own present ones. 11: sender counted."
unfoldable pub on_stored : Node → ℕ → Incarnation → Incarnation → Attempt → Item → Step
on_stored node sender incarnation other attempt item =
    cond (is_storing node.phase)
    (cond (own_write node other attempt item)
    (cond (is_counted node sender) (refused node Counted) (stored_counted (with_counted node sender incarnation)))
    (refused node Stale))
    (refused node NotTaken)

-- "the row's item, incarnation and attempt .. the message's"
unfoldable pub stored_under : Row → Incarnation → Attempt → Item → Bool
stored_under row incarnation attempt item =
    same_item row.item item && (same_incarnation row.incarnation incarnation && same_attempt row.attempt attempt)

-- reply_confirm_store: "Confirm, at Up. 10: other incarnation not its own, or the row's item, incarnation and attempt
-- not the message's. Otherwise Confirmed." Document 002 counts a reply under the responder's present nonce; binding
-- Confirm to the incarnation that stored takes its place.
unfoldable pub on_confirm : Node → ℕ → Incarnation → Incarnation → Attempt → Item → Step
on_confirm node sender incarnation other attempt item =
    cond (is_up node.phase)
    (cond (own_incarnation node other && stored_under (row_of node sender) incarnation attempt item)
    (ok node (sends.Back (message.Confirmed incarnation attempt item)))
    (refused node Stale))
    (refused node NotTaken)

-- "the sender .. one of the f under the recorded incarnation"
unfoldable pub asked_under : Node → ℕ → Incarnation → Bool
asked_under node sender incarnation =
    option_eq same_incarnation (peer_of node.asked sender) (Some incarnation)

-- ""settled", or Up and "accepted" if it was Returning"
unfoldable pub end_answer : Phase → Item → Answer
end_answer phase item = cond (is_returning phase) (answer.Accepted item) (answer.Settled item)

-- store_success: "At f: Idle, with "settled", or Up and "accepted" if it was Returning."
unfoldable pub store_success : Node → Step
store_success node =
    record { answer = end_answer node.phase (own_item node); node = write_ended node; sends = sends.Nothing }

-- the sender is counted. "At f: Idle"
unfoldable pub confirmed_counted : Node → Step
confirmed_counted node =
    cond (below_half node) (ok node sends.Nothing) (store_success node)

-- "Confirmed, at Confirming. 10: as for Stored, or the sender not one of the f under the recorded incarnation. 11: counted."
unfoldable pub on_confirmed : Node → ℕ → Incarnation → Incarnation → Attempt → Item → Step
on_confirmed node sender incarnation other attempt item =
    cond (is_confirming node.phase)
    (cond (own_write node other attempt item && asked_under node sender incarnation)
    (cond (is_counted node sender) (refused node Counted) (confirmed_counted (with_counted node sender incarnation)))
    (refused node Stale))
    (refused node NotTaken)
