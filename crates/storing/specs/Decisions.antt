-- What is decided of Store and Stored by the view of their sender (document 01, Deliver), in the shape of protocol's
-- definitions over the whole node; proofs `Agree` has that they agree.
use Rattle.std.specs.Prelude.{cond, Result, Ok, Err}
use Rattle.item.specs.declared.counters.Attempt.{Attempt}
use Rattle.item.specs.declared.counters.Incarnation.{Incarnation}
use Rattle.item.specs.declared.Item.{Item}
use Rattle.message.specs.declared.Message.TheVariants as message
use Rattle.protocol.specs.Node.{stored_row}
use Rattle.protocol.specs.Phase.{is_up, is_storing}
use Rattle.protocol.specs.Storing.{store_verdict}
use Rattle.protocol.specs.declared.Refusal.{Refusal}
use Rattle.protocol.specs.declared.Refusal.TheVariants.{NotTaken, Stale}
use Rattle.protocol.specs.declared.Sends.TheVariants as sends
use Rattle.sender_view.specs.Decision.{ok_with, sender_counted}
use Rattle.sender_view.specs.View.{own_write_in}
use Rattle.sender_view.specs.declared.decision.Decision.{Decision}
use Rattle.sender_view.specs.declared.decision.NodeChange.TheVariants as change
use Rattle.sender_view.specs.declared.view.SenderView.{SenderView}

-- reply_store: "the row takes it; Stored goes back"
unfoldable pub reply_decision : Result (Unit {0}) Refusal → Incarnation → Attempt → Item → Result Decision Refusal
reply_decision (Err why) incarnation attempt item = Err why
reply_decision (Ok takes) incarnation attempt item =
    Ok (ok_with (change.Row (stored_row item incarnation attempt)) (sends.Back (message.Stored incarnation attempt item)))

-- "Store, at Up."
unfoldable pub store_decision : SenderView → Incarnation → Attempt → Item → Result Decision Refusal
store_decision view incarnation attempt item =
    cond (is_up view.phase)
    (reply_decision (store_verdict view.row incarnation attempt item) incarnation attempt item)
    (Err NotTaken)

-- "Stored, at Storing. 10: other incarnation, attempt or item not its own present ones. 11: sender counted." "At f counted:
-- Confirming", and "Confirm to exactly these f"
unfoldable pub stored_decision : SenderView → Incarnation → Incarnation → Attempt → Item → Result Decision Refusal
stored_decision view incarnation other attempt item =
    cond (is_storing view.phase)
    (cond (own_write_in view other attempt item)
    (sender_counted view incarnation (ok_with (change.Confirming incarnation) (sends.Asked view.attempt view.own)))
    (Err Stale))
    (Err NotTaken)
