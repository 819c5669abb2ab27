-- What is decided of a message: by the view of its sender, or, of a Table, by the whole node.
use Rattle.std.specs.Prelude.{ℕ, List, Result, Ok, Err}
use Rattle.item.specs.declared.counters.Incarnation.{Incarnation}
use Rattle.item.specs.declared.Item.{Item}
use Rattle.message.specs.declared.Message.{Message}
use Rattle.message.specs.declared.Message.TheVariants as message
use Rattle.protocol.specs.Answer.{refused}
use Rattle.protocol.specs.Fetching.{on_table}
use Rattle.protocol.specs.declared.Node.{Node}
use Rattle.protocol.specs.declared.Refusal.{Refusal}
use Rattle.protocol.specs.declared.Step.{Step}
use Rattle.sender_view.specs.Decision.{step_by}
use Rattle.sender_view.specs.declared.decision.Decision.{Decision}
use Rattle.sender_view.specs.declared.view.SenderView.{SenderView}
use Rattle.storing.specs.Decisions.{store_decision, stored_decision}
use Rattle.confirming.specs.Decisions.{confirm_decision, confirmed_decision}
use Rattle.fetching.specs.Decisions.{fetch_decision}
use Rattle.engine.specs.declared.Decided.{Decided}
use Rattle.engine.specs.declared.Decided.TheVariants.{Change, Table}

-- the decision by the view of the sender, if there is one
abbrev pub by_view : Result Decision Refusal → Result Decided Refusal
by_view (Ok decision) = Ok (Change decision)
by_view (Err why) = Err why

-- what is decided of a message of this sender, by its kind
unfoldable pub decided : SenderView → Incarnation → Message → Result Decided Refusal
decided view incarnation (message.Store attempt item) = by_view (store_decision view incarnation attempt item)
decided view incarnation (message.Stored other attempt item) =
    by_view (stored_decision view incarnation other attempt item)
decided view incarnation (message.Confirm other attempt item) =
    by_view (confirm_decision view incarnation other attempt item)
decided view incarnation (message.Confirmed other attempt item) =
    by_view (confirmed_decision view incarnation other attempt item)
decided view incarnation message.Fetch = by_view (fetch_decision view incarnation)
decided view incarnation (message.Table other) = Ok (Table other)

-- what is decided, as a step of the node; `items` are the rows of a Table
unfoldable pub decided_step : Result Decided Refusal → Node → ℕ → Incarnation → List Item → Step
decided_step (Ok (Change decision)) node sender incarnation items = step_by node sender (Ok decision)
decided_step (Ok (Table other)) node sender incarnation items = on_table node sender incarnation other items
decided_step (Err why) node sender incarnation items = refused node why
