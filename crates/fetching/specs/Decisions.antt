-- What is decided of Fetch by the view of its sender (document 01, Deliver), in the shape of protocol's definition over the
-- whole node; proofs `Agree` has that they agree.
use Rattle.std.specs.Prelude.{cond, Result, Ok, Err}
use Rattle.item.specs.declared.counters.Incarnation.{Incarnation}
use Rattle.message.specs.declared.Message.TheVariants as message
use Rattle.protocol.specs.Phase.{is_up}
use Rattle.protocol.specs.declared.Refusal.{Refusal}
use Rattle.protocol.specs.declared.Refusal.TheVariants.{NotTaken}
use Rattle.protocol.specs.declared.Sends.TheVariants as sends
use Rattle.sender_view.specs.Decision.{ok_with}
use Rattle.sender_view.specs.declared.decision.Decision.{Decision}
use Rattle.sender_view.specs.declared.decision.NodeChange.TheVariants as change
use Rattle.sender_view.specs.declared.view.SenderView.{SenderView}

-- send_recover_resp: "Fetch, at Up: Table with all rows."
unfoldable pub fetch_decision : SenderView → Incarnation → Result Decision Refusal
fetch_decision view incarnation =
    cond (is_up view.phase) (Ok (ok_with change.Nothing (sends.Back (message.Table incarnation)))) (Err NotTaken)
