-- A message decided by the view of a node: what is decided is the step that protocol defines of the node, a law for each kind.
use Prim.Native.Nat.{ℕ}
use mathlib.Core.List.{List}
use mathlib.Core.Path.{◌≡◌, refl, sym, ◌∙◌}
use Rattle.std.specs.Prelude.{Result, Ok, Err}
use Rattle.item.specs.declared.counters.Incarnation.{Incarnation}
use Rattle.item.specs.declared.Item.{Item}
use Rattle.message.specs.declared.Message.{Message}
use Rattle.message.specs.declared.Message.TheVariants as message
use Rattle.protocol.specs.Deliver.{on_message}
use Rattle.protocol.specs.declared.Node.{Node}
use Rattle.protocol.specs.declared.Refusal.{Refusal}
use Rattle.sender_view.proofs.StepBy.{step_refused}
use Rattle.sender_view.specs.Decision.{step_by}
use Rattle.sender_view.specs.View.{view_of}
use Rattle.sender_view.specs.declared.decision.Decision.{Decision}
use Rattle.sender_view.specs.declared.view.SenderView.{SenderView}
use Rattle.storing.proofs.Agree.{store_agrees, stored_agrees}
use Rattle.confirming.proofs.Agree.{confirm_agrees, confirmed_agrees}
use Rattle.fetching.proofs.Agree.{fetch_agrees}
use Rattle.engine.specs.Decided.{by_view, decided, decided_step}
use Rattle.engine.specs.declared.Decided.{Decided}

-- the step by a decision of a kind that the view of the sender decides
by_view_step : (d : Result Decision Refusal) (node : Node) (sender : ℕ) (incarnation : Incarnation) (items : List Item)
    → decided_step (by_view d) node sender incarnation items ≡ step_by node sender d
unfolding decided_step
by_view_step (Ok decision) node sender incarnation items = refl
by_view_step (Err why) node sender incarnation items = sym (step_refused node sender why)

pub decided_agrees : (m : Message) (node : Node) (sender : ℕ) (incarnation : Incarnation) (items : List Item)
    → decided_step (decided (view_of node sender) incarnation m) node sender incarnation items ≡ on_message m node sender incarnation items
unfolding decided decided_step on_message
decided_agrees (message.Store attempt item) node sender incarnation items =
    by_view_step _ node sender incarnation items ∙ store_agrees node sender incarnation attempt item
decided_agrees (message.Stored other attempt item) node sender incarnation items =
    by_view_step _ node sender incarnation items ∙ stored_agrees node sender incarnation other attempt item
decided_agrees (message.Confirm other attempt item) node sender incarnation items =
    by_view_step _ node sender incarnation items ∙ confirm_agrees node sender incarnation other attempt item
decided_agrees (message.Confirmed other attempt item) node sender incarnation items =
    by_view_step _ node sender incarnation items ∙ confirmed_agrees node sender incarnation other attempt item
decided_agrees message.Fetch node sender incarnation items =
    by_view_step _ node sender incarnation items ∙ fetch_agrees node sender incarnation
decided_agrees (message.Table other) node sender incarnation items = refl

-- the same, where the view and what is decided by it were found
pub found_agrees : (m : Message) (node : Node) (sender : ℕ) (incarnation : Incarnation) (items : List Item) (view : SenderView) (found : Result Decided Refusal)
    → view ≡ view_of node sender → found ≡ decided view incarnation m
    → decided_step found node sender incarnation items ≡ on_message m node sender incarnation items
found_agrees m node sender incarnation items view found seen by = rw (by, seen, decided_agrees m node sender incarnation items)
