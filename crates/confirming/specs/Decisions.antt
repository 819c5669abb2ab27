-- What is decided of Confirm and Confirmed by the view of their sender (document 01, Deliver), in the shape of protocol's
-- definitions over the whole node; proofs `Agree` has that they agree.
use Rattle.std.specs.Prelude.{Bool, cond, ◌&&◌, Option, Some, Result, Ok, Err}
use Rattle.std.specs.Option.{option_eq}
use Rattle.item.specs.Counter.{same_incarnation}
use Rattle.item.specs.declared.counters.Attempt.{Attempt}
use Rattle.item.specs.declared.counters.Incarnation.{Incarnation}
use Rattle.item.specs.declared.Item.{Item}
use Rattle.message.specs.declared.Message.TheVariants as message
use Rattle.protocol.specs.Phase.{is_up, is_confirming}
use Rattle.protocol.specs.Storing.{stored_under, end_answer}
use Rattle.protocol.specs.declared.Refusal.{Refusal}
use Rattle.protocol.specs.declared.Refusal.TheVariants.{NotTaken, Stale}
use Rattle.protocol.specs.declared.Sends.TheVariants as sends
use Rattle.sender_view.specs.Decision.{ok_with, ended_with, sender_counted}
use Rattle.sender_view.specs.View.{own_write_in}
use Rattle.sender_view.specs.declared.decision.Decision.{Decision}
use Rattle.sender_view.specs.declared.decision.NodeChange.TheVariants as change
use Rattle.sender_view.specs.declared.view.SenderView.{SenderView}

-- reply_confirm_store: "Confirm, at Up. 10: other incarnation not its own, or the row's item, incarnation and attempt
-- not the message's. Otherwise Confirmed."
unfoldable pub confirm_decision : SenderView → Incarnation → Incarnation → Attempt → Item → Result Decision Refusal
confirm_decision view incarnation other attempt item =
    cond (is_up view.phase)
    (cond (same_incarnation other view.incarnation && stored_under view.row incarnation attempt item)
    (Ok (ok_with change.Nothing (sends.Back (message.Confirmed incarnation attempt item))))
    (Err Stale))
    (Err NotTaken)

-- "one of the f under the recorded incarnation"
abbrev pub present_under : Option Incarnation → Incarnation → Bool
present_under peer incarnation = option_eq same_incarnation peer (Some incarnation)

-- "Confirmed, at Confirming. 10: as for Stored, or the sender not one of the f under the recorded incarnation. 11: counted."
-- "At f: Idle, with "settled", or Up and "accepted" if it was Returning."
unfoldable pub confirmed_decision : SenderView → Incarnation → Incarnation → Attempt → Item → Result Decision Refusal
confirmed_decision view incarnation other attempt item =
    cond (is_confirming view.phase)
    (cond (own_write_in view other attempt item && present_under view.asked incarnation)
    (sender_counted view incarnation (ended_with (end_answer view.phase view.own)))
    (Err Stale))
    (Err NotTaken)
