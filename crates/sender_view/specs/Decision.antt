-- What a node makes of a message without rows, as a change of a few of its fields, and the step that this is.
use Rattle.std.specs.Prelude.{ℕ, cond, Result, Ok, Err}
use Rattle.item.specs.declared.counters.Incarnation.{Incarnation}
use Rattle.protocol.specs.Answer.{refused}
use Rattle.protocol.specs.Node.{with_row, with_counted, confirming_begun, write_ended}
use Rattle.protocol.specs.Phase.{at_stage}
use Rattle.protocol.specs.declared.Answer.{Answer}
use Rattle.protocol.specs.declared.Answer.TheVariants as answer
use Rattle.protocol.specs.declared.Node.{Node}
use Rattle.protocol.specs.declared.Refusal.{Refusal}
use Rattle.protocol.specs.declared.Refusal.TheVariants.{Counted}
use Rattle.protocol.specs.declared.Sends.{Sends}
use Rattle.protocol.specs.declared.Sends.TheVariants as sends
use Rattle.protocol.specs.declared.Stage.TheVariants as stage
use Rattle.protocol.specs.declared.Step.{Step}
use Rattle.sender_view.specs.View.{below_half_in}
use Rattle.sender_view.specs.declared.decision.NodeChange.{NodeChange}
use Rattle.sender_view.specs.declared.decision.NodeChange.TheVariants as change
use Rattle.sender_view.specs.declared.decision.Decision.{Decision}
use Rattle.sender_view.specs.declared.view.SenderView.{SenderView}

abbrev pub ok_with : NodeChange → Sends → Decision
ok_with change sends = record { answer = answer.Ok; change = change; sends = sends }

-- the write has ended, and nothing is sent
abbrev pub ended_with : Answer → Decision
ended_with answer = record { answer = answer; change = change.Ended; sends = sends.Nothing }

-- "11: sender counted." Otherwise the sender is counted, and at f counted it is decided as `full` says
unfoldable pub sender_counted : SenderView → Incarnation → Decision → Result Decision Refusal
sender_counted view incarnation full =
    cond view.counted (Err Counted)
    (Ok (cond (below_half_in view) (ok_with (change.Counted incarnation) sends.Nothing) full))

-- the node with what changes of it, on a message of this sender
unfoldable pub changed : Node → ℕ → NodeChange → Node
changed node sender change.Nothing = node
changed node sender (change.Row row) = with_row node sender row
changed node sender (change.Counted incarnation) = with_counted node sender incarnation
changed node sender (change.Confirming incarnation) =
    confirming_begun (with_counted node sender incarnation) (at_stage node.phase stage.Confirming)
changed node sender change.Ended = write_ended node

-- the decision, or the refusal, as a step of this node
unfoldable pub step_by : Node → ℕ → Result Decision Refusal → Step
step_by node sender (Ok decision) =
    record {
      answer = decision.answer;
      node = changed node sender decision.change;
      sends = decision.sends;
    }
step_by node sender (Err why) = refused node why
