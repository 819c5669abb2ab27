-- Confirm and Confirmed decided by the view of a node: the step by the decision is the one that protocol defines of the node.
use Prim.Native.Nat.{ℕ}
use mathlib.Core.Path.{◌≡◌, refl}
use Rattle.std.specs.Prelude.{Ok}
use Rattle.item.specs.declared.counters.Attempt.{Attempt}
use Rattle.item.specs.declared.counters.Incarnation.{Incarnation}
use Rattle.item.specs.declared.Item.{Item}
use Rattle.protocol.specs.Node.{row_of, own_item, with_counted, write_ended}
use Rattle.protocol.specs.Storing.{on_confirm, asked_under, end_answer, store_success, confirmed_counted, on_confirmed}
use Rattle.protocol.specs.declared.Node.{Node}
use Rattle.sender_view.proofs.StepBy.{step_cond, step_refused, step_ok, step_counted}
use Rattle.sender_view.proofs.ViewOf.{own_write_of}
use Rattle.sender_view.specs.Decision.{ended_with, changed, step_by}
use Rattle.sender_view.specs.View.{view_of}
use Rattle.confirming.specs.Decisions.{confirm_decision, confirmed_decision}

module _ (node : Node) (sender : ℕ) (incarnation : Incarnation) where
  pub confirm_agrees : (other : Incarnation) (attempt : Attempt) (item : Item)
      → step_by node sender (confirm_decision (view_of node sender) incarnation other attempt item) ≡ on_confirm node sender incarnation other attempt item
  unfolding confirm_decision on_confirm changed view_of
  confirm_agrees other attempt item =
      rw (step_cond node sender, step_cond node sender, step_ok node sender, step_refused node sender, step_refused node sender)

  ended_agrees : step_by node sender (Ok (ended_with (end_answer node.phase (own_item node)))) ≡ store_success (with_counted node sender incarnation)
  unfolding step_by changed store_success write_ended with_counted own_item row_of
  ended_agrees = refl

  pub confirmed_agrees : (other : Incarnation) (attempt : Attempt) (item : Item)
      → step_by node sender (confirmed_decision (view_of node sender) incarnation other attempt item) ≡ on_confirmed node sender incarnation other attempt item
  unfolding confirmed_decision on_confirmed asked_under confirmed_counted view_of
  confirmed_agrees other attempt item =
      rw (
        step_cond node sender,
        step_cond node sender,
        own_write_of node sender other attempt item,
        step_counted node sender,
        ended_agrees,
        step_refused node sender,
        step_refused node sender,
      )
