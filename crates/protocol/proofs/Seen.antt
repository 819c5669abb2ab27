-- The group as one fixed node x sees it (crate `returns`): of each node and message the part that bears on row x. The view
-- of a node is a projection of its fields.
use Prim.Native.Nat.{ℕ}
use mathlib.Core.Bool.{cond}
use mathlib.Core.List.{List, [], ◌∷◌, Memᴰ}
use lib.Dec.{eqb}
use lib.ListN.{get_or}
use Rattle.item.specs.Item.{zero_item}
use Rattle.item.specs.declared.Item.{Item}
use Rattle.item.specs.declared.counters.Incarnation.{Incarnation}
use Rattle.message.specs.declared.Envelope.{Envelope}
use Rattle.message.specs.declared.Message.{Message}
use Rattle.message.specs.declared.Message.TheVariants as message
use Rattle.std.specs.Prelude.{Some}
use Rattle.returns.specs.View.{
  ViewPhase,
  down,
  fetching,
  returning,
  up,
  ViewStage,
  idle,
  storing,
  confirming,
  ViewNode,
  ViewMessage,
  store_to,
  stored_by,
  confirm_to,
  confirmed_by,
  fetch_from,
  table_from,
  View,
  Each,
}
use Rattle.returns.specs.History.{Note, quiet, settles, returns}
use Rattle.returns.specs.Change.{Change, MaySend}
use Rattle.protocol.specs.Node.{row_of, row_items}
use Rattle.protocol.proofs.Counts.{present, under}
use Rattle.protocol.specs.Outgoing.{outgoing}
use Rattle.protocol.specs.declared.Answer.{Answer}
use Rattle.protocol.specs.declared.Answer.TheVariants as answer
use Rattle.protocol.specs.declared.Node.{Node}
use Rattle.protocol.specs.declared.Phase.{Phase}
use Rattle.protocol.specs.declared.Phase.TheVariants.{Down, Fetching, Returning, Up}
use Rattle.protocol.specs.declared.Stage.{Stage}
use Rattle.protocol.specs.declared.Stage.TheVariants.{Idle, Storing, Confirming}
use Rattle.protocol.specs.declared.Step.{Step}

abbrev pub seen_phase : Phase → ViewPhase
seen_phase Down = down
seen_phase Fetching = fetching
seen_phase (Returning stage) = returning
seen_phase (Up stage) = up

abbrev pub seen_stage : Stage → ViewStage
seen_stage Idle = idle
seen_stage Storing = storing
seen_stage Confirming = confirming

-- a node that is Down or Fetching is idle
abbrev pub stage_in : Phase → ViewStage
stage_in Down = idle
stage_in Fetching = idle
stage_in (Returning stage) = seen_stage stage
stage_in (Up stage) = seen_stage stage

abbrev pub seen : ℕ → Node → ViewNode
seen x node =
    record {
      incarnation = node.incarnation.0;
      phase = seen_phase node.phase;
      stage = stage_in node.phase;
      attempt = node.attempt.0;
      item = (row_of node x).item;
      marked = (row_of node x).marked;
      counted = present node.counted;
      counted_under = under node.counted;
      asked = present node.asked;
      asked_under = under node.asked;
    }

-- a message that only concerns x if node p is x
abbrev pub if_at : ℕ → ℕ → ViewMessage → List ViewMessage
if_at x p m = cond (eqb p x) (m ∷ []) []

abbrev pub seen_as : ℕ → Message → (sender addressee : ℕ) → Incarnation → List Item → List ViewMessage
seen_as x (message.Store a i) s d inc rows = if_at x s (store_to d inc.0 a.0 i)
seen_as x (message.Stored o a i) s d inc rows = if_at x d (stored_by s inc.0 o.0 a.0 i)
seen_as x (message.Confirm o a i) s d inc rows = if_at x s (confirm_to d inc.0 o.0 a.0 i)
seen_as x (message.Confirmed o a i) s d inc rows = if_at x d (confirmed_by s inc.0 o.0 a.0 i)
seen_as x message.Fetch s d inc rows = fetch_from s d inc.0 ∷ []
seen_as x (message.Table o) s d inc rows = table_from s d o.0 (get_or rows x zero_item) ∷ []

-- what x sees of a message and the rows beside it
abbrev pub seen_message : ℕ → Envelope → List Item → List ViewMessage
seen_message x e rows = seen_as x e.message e.sender e.addressee e.incarnation rows

-- what an answer to a message at node k tells of x
abbrev pub note_of : ℕ → ℕ → Answer → Note
note_of x k answer.Ok = quiet
note_of x k (answer.Settled item) = cond (eqb k x) (settles item) quiet
note_of x k (answer.Accepted item) = cond (eqb k x) (returns item) quiet
note_of x k (answer.Stopped row) = quiet
note_of x k (answer.Refused why) = quiet

-- a decision of node k, in x's view: the node changes as the relation allows, and so does all that it sends
pub record Tied (f x : ℕ) (g : View) (n : Note) (k back : ℕ) (step : Step) : Type 0 where
  pub changes : Change f x g n k (seen x step.node)
  pub sending :
      (e : Envelope) → Memᴰ (Some e) (outgoing step.node step.sends back) →
      Each (MaySend x g k (seen x step.node)) (seen_message x e (row_items step.node))
