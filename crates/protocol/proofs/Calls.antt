-- Write, Retry, Crash and Start of node k are changes that the relation allows. At x they are the events of the same name;
-- a write elsewhere leaves row x alone.
use Prim.Native.Nat.{ℕ, suc}
use native.Mathlib.Omega.{arith}
use mathlib.Core.Path.{◌≡◌, refl, sym, ap, ◌∙◌}
use mathlib.Core.Logic.{◌≢◌}
use mathlib.Core.Bool.{Bool, true, false, cond, ◌||◌, false≢true}
use lib.Dec.{eqb}
use borrow.Author.Tests.{eqb-true, eqb-false}
use Rattle.item.specs.Counter.{incarnation_at_largest, attempt_at_largest, index_at_largest, next_index}
use Rattle.item.specs.Item.{item_above}
use Rattle.item.proofs.Laws.{next_index_lem, next_incarnation_lem, next_attempt_lem}
use Rattle.item.proofs.Tests.{by_cond}
use Rattle.item.specs.declared.Item.{Item}
use Rattle.item.specs.declared.Row.{Row}
use Rattle.item.specs.declared.Tag.{Tag}
use Rattle.returns.specs.Change.{Change, at_write, at_retry, at_crash, at_start, unchanged}
use Rattle.returns.specs.History.{Note, quiet, begins}
use Rattle.returns.specs.View.{View, live}
use Rattle.protocol.specs.Answer.{ok, is_refused}
use Rattle.protocol.specs.Node.{own_item, crashed, started, storing_begun, blank_node}
use Rattle.protocol.specs.Phase.{is_down, is_fetching, is_up_idle, is_idle}
use Rattle.protocol.specs.Write.{send_store, next_item, write_at_largest, written, write_step, retried, nothing_to_retry, retry_step, crash_step, start_step}
use Rattle.protocol.specs.declared.Answer.TheVariants as answer
use Rattle.protocol.specs.declared.Node.{Node}
use Rattle.protocol.specs.declared.Stage.TheVariants.{Storing}
use Rattle.protocol.proofs.Cases.{IfTaken, refusal_not_taken, write_cases, retry_cases, crash_cases, start_cases}
use Rattle.protocol.proofs.Counts.{none_present}
use Rattle.protocol.proofs.InView.{InView}
use Rattle.protocol.proofs.Phases.{up_idle_is, else_live, not_idle, at_stage_phase, at_stage_seen}
use Rattle.protocol.proofs.Place.{by_place, row_there, numbered, at_x, at_other, own_row, begins_storing}
use Rattle.protocol.proofs.Rows.{begun_own, begun_other, begun_again, zero_row_lem}
use Rattle.protocol.proofs.Seen.{seen, seen_phase, Tied}
use Rattle.protocol.proofs.Sending.{tied_nothing, tied_store, tied_fetch}

or_left : (a b : Bool) → (a || b) ≡ false → a ≡ false
or_left true b e = e
or_left false b e = refl

or_right : (a b : Bool) → (a || b) ≡ false → b ≡ false
or_right true b e = absurd (false≢true (sym e))
or_right false b e = e

-- Write
item_above_lem : (i : Item) (tag : Tag) → index_at_largest i.index ≡ false → next_item i tag ≡ item_above i tag
unfolding next_item
item_above_lem i tag l = let p : (next_index i.index).0 ≡ suc i.index.0 = next_index_lem i.index l in
    λ k. record { index = record { 0 = p k }; tag = tag }

module _ (node : Node) (tag : Tag) (e : is_up_idle node.phase ≡ true) where
  write_own : {f n x : ℕ} {g : View} → write_at_largest node ≡ false → InView f n x x g node
      → Change f x g (begins tag) x (seen x (written node tag))
  unfolding written write_at_largest storing_begun
  write_own {x = x} {g = g} l v = at_write tag (seen x (written node tag))
      (rw (v.view, up_idle_is node.phase e)) (rw (v.view, up_idle_is node.phase e))
      (begins_storing x (g.node x) node _ _ _ v.view refl) refl
      (rw v.view (omega (arith, next_attempt_lem node.attempt (or_right (index_at_largest (own_item node).index) _ l))))
      (rw v.view (begun_own node _ _ _ x (numbered v) (row_there v)
      ∙ item_above_lem (own_item node) tag (or_left _ (attempt_at_largest node.attempt) l)
      ∙ ap (λ (i : Item). item_above i tag) (own_row x node (numbered v))))

  write_other : {f n x k : ℕ} {g : View} → InView f n x k g node → k ≢ x → Change f x g quiet k (seen x (written node tag))
  unfolding written storing_begun
  write_other {x = x} v d = at_other v (written node tag) d refl (rw (up_idle_is node.phase e)) refl (λ u. refl)
      (ap (λ (r : Row). r.item) (begun_other node _ _ _ x (λ (z : x ≡ node.number). d (sym (z ∙ numbered v)))))

pub write_tied : {f n x k : ℕ} {g : View} {node : Node} (tag : Tag) → InView f n x k g node
    → is_refused (write_step node tag).answer ≡ false → Tied f x g (cond (eqb k x) (begins tag) quiet) k k (write_step node tag)
unfolding written storing_begun
write_tied {f} {n} {x} {k} {g} {node} tag v = write_cases (IfTaken (Tied f x g note k k)) node (refusal_not_taken (Tied f x g note k k) node) tag
    (λ e l h. tied_store f x g k k (written node tag) (numbered v) note
    (by_cond (λ told. Change f x g told k (seen x (written node tag))) (eqb k x) (begins tag) quiet
    (λ t. at_x v (eqb-true k x t) (write_own node tag e l)) (λ t. write_other node tag e v (eqb-false k x t))))
  where
    note : Note
    note = cond (eqb k x) (begins tag) quiet

-- a Write that is not refused answers "ok"
pub write_answers_ok : (node : Node) (tag : Tag) → is_refused (write_step node tag).answer ≡ false → (write_step node tag).answer ≡ answer.Ok
unfolding send_store ok
write_answers_ok node tag = write_cases (IfTaken (λ step. step.answer ≡ answer.Ok)) node
    (refusal_not_taken (λ step. step.answer ≡ answer.Ok) node) tag (λ e l h. refl)

-- Retry
module _ (node : Node) (some : nothing_to_retry node ≡ false) (e : is_fetching node.phase ≡ false) where
  retry_live : live (seen_phase node.phase) ≡ true
  unfolding nothing_to_retry
  retry_live = else_live node.phase (or_left (is_down node.phase) (is_idle node.phase) some) e

  retry_own : {f n x : ℕ} {g : View} → attempt_at_largest node.attempt ≡ false → InView f n x x g node
      → Change f x g quiet x (seen x (retried node))
  unfolding retried nothing_to_retry storing_begun
  retry_own {x = x} {g = g} l v = at_retry (seen x (retried node))
      (rw v.view (not_idle node.phase retry_live (or_right (is_down node.phase) (is_idle node.phase) some)))
      (begins_storing x (g.node x) node _ _ _ v.view (at_stage_seen node.phase Storing retry_live))
      (rw v.view (at_stage_phase node.phase Storing))
      (rw v.view (omega (arith, next_attempt_lem node.attempt l)))
      (rw v.view (begun_again node _ _ x (row_there v)))

  retry_other : {f n x k : ℕ} {g : View} → InView f n x k g node → k ≢ x → Change f x g quiet k (seen x (retried node))
  unfolding retried storing_begun
  retry_other {x = x} v d = at_other v (retried node) d refl retry_live
      (rw (at_stage_phase node.phase Storing) retry_live) (λ u. at_stage_phase node.phase Storing ∙ u)
      (begun_again node _ _ x (row_there v))

pub retry_tied : {f n x k : ℕ} {g : View} {node : Node} → InView f n x k g node
    → is_refused (retry_step node).answer ≡ false → Tied f x g quiet k k (retry_step node)
unfolding retried storing_begun
retry_tied {f} {n} {x} {k} {g} {node} v = retry_cases (IfTaken (Tied f x g quiet k k)) node (refusal_not_taken (Tied f x g quiet k k) node)
    (λ e h. tied_fetch f x g k k node (numbered v) quiet (unchanged k (seen x node) (sym v.view)))
    (λ some e l h. tied_store f x g k k (retried node) (numbered v) quiet
    (by_place k x (λ t. at_x v t (retry_own node some e l)) (retry_other node some e v)))

-- Crash: the rows are zero
pub crash_seen : {f x k : ℕ} {g : View} (node node' : Node) → g.node k ≡ seen x node → node'.incarnation ≡ node.incarnation
    → Change f x g quiet k (seen x (crashed node'))
unfolding crashed blank_node
crash_seen {x = x} {k = k} node node' e i = at_crash k (seen x (crashed node')) (rw e (ap (λ j. j.0) i)) refl refl (zero_row_lem _ x refl)

pub crash_tied : {f n x k : ℕ} {g : View} {node : Node} → InView f n x k g node
    → is_refused (crash_step node).answer ≡ false → Tied f x g quiet k k (crash_step node)
unfolding crashed blank_node
crash_tied {f} {n} {x} {k} {g} {node} v = crash_cases (IfTaken (Tied f x g quiet k k)) node (refusal_not_taken (Tied f x g quiet k k) node)
    (λ h. tied_nothing f x g k k (crashed node) (numbered v) quiet (crash_seen node node v.view refl))

-- Start
start_seen : {f x k : ℕ} {g : View} (node : Node) → g.node k ≡ seen x node → incarnation_at_largest node.incarnation ≡ false
    → Change f x g quiet k (seen x (started node))
unfolding started
start_seen {x = x} {k = k} node e l =
    at_start k (seen x (started node)) (rw e (next_incarnation_lem node.incarnation l)) refl refl (zero_row_lem _ x refl) none_present

pub start_tied : {f n x k : ℕ} {g : View} {node : Node} → InView f n x k g node
    → is_refused (start_step node).answer ≡ false → Tied f x g quiet k k (start_step node)
unfolding started
start_tied {f} {n} {x} {k} {g} {node} v = start_cases (IfTaken (Tied f x g quiet k k)) node (refusal_not_taken (Tied f x g quiet k k) node)
    (λ d l h. tied_fetch f x g k k (started node) (numbered v) quiet (start_seen node v.view l))
