-- The step by a decision, of each shape that a decision has.
use Prim.Native.Nat.{ℕ}
use mathlib.Core.Bool.{Bool, true, false, cond}
use mathlib.Core.Path.{◌≡◌, refl}
use Rattle.std.specs.Prelude.{Result, Ok, Err}
use Rattle.item.specs.declared.counters.Incarnation.{Incarnation}
use Rattle.protocol.specs.Answer.{ok, refused}
use Rattle.protocol.specs.Node.{below_half, with_counted}
use Rattle.protocol.specs.Storing.{is_counted}
use Rattle.protocol.specs.declared.Node.{Node}
use Rattle.protocol.specs.declared.Refusal.{Refusal}
use Rattle.protocol.specs.declared.Refusal.TheVariants.{Counted}
use Rattle.protocol.specs.declared.Sends.{Sends}
use Rattle.protocol.specs.declared.Sends.TheVariants as sends
use Rattle.sender_view.proofs.ViewOf.{below_half_of}
use Rattle.sender_view.specs.Decision.{ok_with, sender_counted, changed, step_by}
use Rattle.sender_view.specs.View.{view_of}
use Rattle.sender_view.specs.declared.decision.Decision.{Decision}
use Rattle.sender_view.specs.declared.decision.NodeChange.{NodeChange}

module _ (node : Node) (sender : ℕ) where
  -- one of two decisions, by a test
  pub step_cond : (t : Bool) (a b : Result Decision Refusal) → step_by node sender (cond t a b) ≡ cond t (step_by node sender a) (step_by node sender b)
  step_cond true a b = refl
  step_cond false a b = refl

  step_ok_cond : (t : Bool) (a b : Decision) → step_by node sender (Ok (cond t a b)) ≡ cond t (step_by node sender (Ok a)) (step_by node sender (Ok b))
  step_ok_cond true a b = refl
  step_ok_cond false a b = refl

  pub step_refused : (why : Refusal) → step_by node sender (Err why) ≡ refused node why
  unfolding step_by
  step_refused why = refl

  pub step_ok : (change : NodeChange) (sends : Sends) → step_by node sender (Ok (ok_with change sends)) ≡ ok (changed node sender change) sends
  unfolding step_by ok
  step_ok change sends = refl

  -- an answer that is counted, in the shape of protocol's definitions
  pub step_counted : (incarnation : Incarnation) (full : Decision)
      → step_by node sender (sender_counted (view_of node sender) incarnation full)
      ≡ cond (is_counted node sender) (refused node Counted)
      (cond (below_half (with_counted node sender incarnation)) (ok (with_counted node sender incarnation) sends.Nothing)
      (step_by node sender (Ok full)))
  unfolding sender_counted changed view_of
  step_counted incarnation full =
      rw (
        step_cond,
        step_refused,
        step_ok_cond,
        below_half_of node sender incarnation,
        step_ok,
      )
