-- When the decision of a node on Write, Retry, Crash or Start acts: the tests of the definition, one after the other.
use Prim.Native.Nat.{ℕ, ◌-◌, ◌≤◌, ◌<◌}
use mathlib.Core.Path.{◌≡◌, refl, ◌∙◌}
use mathlib.Core.Bool.{Bool, true, not, ◌&&◌, ◌||◌}
use mathlib.Core.List.{List}
use Rattle.item.specs.Counter.{attempt_at_largest, incarnation_at_largest}
use Rattle.item.specs.Maxima.{max_nodes}
use Rattle.item.proofs.Tests.{by_cond}
use Rattle.item.specs.declared.Tag.{Tag}
use Rattle.protocol.specs.Answer.{ok}
use Rattle.operations.specs.Operation.{carried_out}
use Rattle.protocol.specs.Phase.{is_down, is_idle, is_fetching, is_up_idle}
use Rattle.protocol.specs.Sound.{sound_node}
use Rattle.protocol.specs.Write.{send_store, send_fetch, write_at_largest, nothing_to_retry, write_step, retry_step, crash_step, start_step}
use Rattle.protocol.specs.declared.Node.{Node}
use Rattle.protocol.specs.declared.Refusal.TheVariants.{WrongStage, AtLargest}
use Rattle.protocol.specs.declared.Step.{Step}
use Rattle.laws_enabled.specs.Acting.{acted, is_room_for}
use Rattle.laws_enabled.proofs.Steps.{refused_acts, quiet_acts, store_acts, fetch_acts}
use borrow.Author.Tests.{le-leb}
use native.Mathlib.Omega.{arith}
use Rattle.store.specs.Sound.{free_count}

-- there is always room for nothing
pub no_room_needed : (rs : List (List ℕ)) → is_room_for 0 rs ≡ true
unfolding is_room_for
no_room_needed rs = le-leb 0 (free_count rs) (omega arith)

module _ (table : List Node) (store : List ℕ) (rs : List (List ℕ)) (n k : ℕ) (low : k < n) (most : n ≤ max_nodes) (node : Node) where
  -- a decision that leaves a sound node acts as the test says
  abbrev ActsAs : Bool → Step → Type 0
  ActsAs test step = sound_node n k step.node ≡ true → acted (carried_out table store rs k k step) ≡ test

  pub write_node : (tag : Tag) → sound_node n k (write_step node tag).node ≡ true
      → acted (carried_out table store rs k k (write_step node tag))
      ≡ (is_up_idle node.phase && (not (write_at_largest node) && is_room_for (n - 1) rs))
  unfolding write_step send_store ok
  write_node tag =
      by_cond (ActsAs (is_up_idle node.phase && (not (write_at_largest node) && is_room_for (n - 1) rs))) (is_up_idle node.phase) _ _
      (λ e. by_cond (ActsAs (is_up_idle node.phase && (not (write_at_largest node) && is_room_for (n - 1) rs))) (write_at_largest node) _ _
      (λ l s. rw (e, l) (refused_acts table store rs k k node AtLargest))
      (λ l s. rw (e, l) (store_acts table store rs k k n low most _ s)))
      (λ e s. rw e (refused_acts table store rs k k node WrongStage))

  pub retry_node : sound_node n k (retry_step node).node ≡ true
      → acted (carried_out table store rs k k (retry_step node))
      ≡ (not (is_down node.phase || is_idle node.phase) &&
      ((is_fetching node.phase || not (attempt_at_largest node.attempt)) && is_room_for (n - 1) rs))
  unfolding retry_step nothing_to_retry send_store send_fetch ok
  retry_node =
      by_cond (ActsAs test) (is_down node.phase || is_idle node.phase) _ _
      (λ e s. rw e (refused_acts table store rs k k node WrongStage))
      (λ e. by_cond (ActsAs test) (is_fetching node.phase) _ _
      (λ f s. rw (e, f) (fetch_acts table store rs k k n low most node s))
      (λ f. by_cond (ActsAs test) (attempt_at_largest node.attempt) _ _
      (λ l s. rw (e, f, l) (refused_acts table store rs k k node AtLargest))
      (λ l s. rw (e, f, l) (store_acts table store rs k k n low most _ s))))
    where
      test : Bool
      test = not (is_down node.phase || is_idle node.phase) &&
          ((is_fetching node.phase || not (attempt_at_largest node.attempt)) && is_room_for (n - 1) rs)

  pub crash_node : acted (carried_out table store rs k k (crash_step node)) ≡ not (is_down node.phase)
  unfolding crash_step ok
  crash_node =
      by_cond (λ (step : Step). acted (carried_out table store rs k k step) ≡ not (is_down node.phase)) (is_down node.phase) _ _
      (λ e. rw e (refused_acts table store rs k k node WrongStage))
      (λ e. rw e (quiet_acts table store rs k k _ _ refl ∙ no_room_needed rs))

  pub start_node : sound_node n k (start_step node).node ≡ true
      → acted (carried_out table store rs k k (start_step node))
      ≡ (is_down node.phase && (not (incarnation_at_largest node.incarnation) && is_room_for (n - 1) rs))
  unfolding start_step send_fetch ok
  start_node =
      by_cond (ActsAs (is_down node.phase && (not (incarnation_at_largest node.incarnation) && is_room_for (n - 1) rs))) (is_down node.phase) _ _
      (λ e. by_cond (ActsAs (is_down node.phase && (not (incarnation_at_largest node.incarnation) && is_room_for (n - 1) rs)))
      (incarnation_at_largest node.incarnation) _ _
      (λ l s. rw (e, l) (refused_acts table store rs k k node AtLargest))
      (λ l s. rw (e, l) (fetch_acts table store rs k k n low most _ s)))
      (λ e s. rw e (refused_acts table store rs k k node WrongStage))
