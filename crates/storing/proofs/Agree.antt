-- Store and Stored decided by the view of a node: the step by the decision is the one that protocol defines of the node.
use Prim.Native.Nat.{ℕ}
use mathlib.Core.Path.{◌≡◌}
use Rattle.std.specs.Prelude.{Result, Ok, Err}
use Rattle.item.specs.declared.counters.Attempt.{Attempt}
use Rattle.item.specs.declared.counters.Incarnation.{Incarnation}
use Rattle.item.specs.declared.Item.{Item}
use Rattle.protocol.specs.Node.{row_of, own_item, with_counted, confirming_begun}
use Rattle.protocol.specs.Storing.{reply_store, on_store, send_confirm, stored_counted, on_stored}
use Rattle.protocol.specs.declared.Node.{Node}
use Rattle.protocol.specs.declared.Refusal.{Refusal}
use Rattle.sender_view.proofs.StepBy.{step_cond, step_refused, step_ok, step_counted}
use Rattle.sender_view.proofs.ViewOf.{own_write_of}
use Rattle.sender_view.specs.Decision.{changed, step_by}
use Rattle.sender_view.specs.View.{view_of}
use Rattle.storing.specs.Decisions.{reply_decision, store_decision, stored_decision}

module _ (node : Node) (sender : ℕ) (incarnation : Incarnation) where
  reply_agrees : (v : Result (Unit {0}) Refusal) (attempt : Attempt) (item : Item)
      → step_by node sender (reply_decision v incarnation attempt item) ≡ reply_store v node sender incarnation attempt item
  unfolding reply_decision reply_store changed
  reply_agrees (Err why) attempt item = step_refused node sender why
  reply_agrees (Ok takes) attempt item = step_ok node sender _ _

  pub store_agrees : (attempt : Attempt) (item : Item)
      → step_by node sender (store_decision (view_of node sender) incarnation attempt item) ≡ on_store node sender incarnation attempt item
  unfolding store_decision on_store view_of
  store_agrees attempt item = rw (step_cond node sender, reply_agrees, step_refused node sender)

  pub stored_agrees : (other : Incarnation) (attempt : Attempt) (item : Item)
      → step_by node sender (stored_decision (view_of node sender) incarnation other attempt item) ≡ on_stored node sender incarnation other attempt item
  unfolding stored_decision on_stored stored_counted send_confirm changed confirming_begun with_counted own_item row_of view_of
  stored_agrees other attempt item =
      rw (
        step_cond node sender,
        step_cond node sender,
        own_write_of node sender other attempt item,
        step_counted node sender,
        step_ok node sender,
        step_refused node sender,
        step_refused node sender,
      )
