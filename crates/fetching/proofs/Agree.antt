-- Fetch decided by the view of a node: the step by the decision is the one that protocol defines of the node.
use Prim.Native.Nat.{ℕ}
use mathlib.Core.Path.{◌≡◌}
use Rattle.item.specs.declared.counters.Incarnation.{Incarnation}
use Rattle.protocol.specs.Fetching.{on_fetch}
use Rattle.protocol.specs.declared.Node.{Node}
use Rattle.sender_view.proofs.StepBy.{step_cond, step_refused, step_ok}
use Rattle.sender_view.specs.Decision.{changed, step_by}
use Rattle.sender_view.specs.View.{view_of}
use Rattle.fetching.specs.Decisions.{fetch_decision}

pub fetch_agrees : (node : Node) (sender : ℕ) (incarnation : Incarnation)
    → step_by node sender (fetch_decision (view_of node sender) incarnation) ≡ on_fetch node incarnation
unfolding fetch_decision on_fetch changed view_of
fetch_agrees node sender incarnation = rw (step_cond node sender, step_ok node sender, step_refused node sender)
