-- When the decision of a node on a message acts, by its kind.
use Prim.Native.Nat.{ℕ, ◌-◌, ◌≤◌, ◌<◌}
use mathlib.Core.Path.{◌≡◌, refl}
use mathlib.Core.Bool.{Bool, true, false, cond, not, ◌&&◌}
use mathlib.Core.List.{List}
use Rattle.item.specs.Counter.{earlier}
use Rattle.item.specs.Item.{ranks_below, same_item}
use Rattle.item.specs.Maxima.{max_nodes}
use Rattle.item.proofs.Tests.{by_cond}
use Rattle.item.specs.declared.counters.Attempt.{Attempt}
use Rattle.item.specs.declared.counters.Incarnation.{Incarnation}
use Rattle.item.specs.declared.Item.{Item}
use Rattle.message.specs.declared.Message.{Message}
use Rattle.message.specs.declared.Message.TheVariants as message
use Rattle.protocol.specs.Answer.{ok, refused, is_refused}
use Rattle.protocol.specs.Deliver.{on_message}
use Rattle.protocol.specs.Fetching.{on_fetch, with_table, has_conflict, stopped, table_counted, on_table}
use Rattle.protocol.proofs.Cases.{recover_cases}
use Rattle.protocol.specs.Node.{half, row_of, with_counted, confirming_begun, below_half, at_most_half, own_incarnation}
use Rattle.operations.specs.Operation.{carried_out}
use Rattle.protocol.specs.Phase.{is_fetching, is_up, is_storing, is_confirming, is_returning, at_stage}
use Rattle.protocol.specs.Sound.{sound_node}
use Rattle.protocol.specs.Storing.{store_verdict, reply_store, on_store, own_write, is_counted, send_confirm, stored_counted, on_stored, stored_under, on_confirm, asked_under, end_answer, store_success, confirmed_counted, on_confirmed}
use Rattle.protocol.specs.Write.{send_store}
use Rattle.protocol.specs.declared.Answer.{Answer}
use Rattle.protocol.specs.declared.Node.{Node}
use Rattle.protocol.specs.declared.Phase.{Phase}
use Rattle.protocol.specs.declared.Refusal.{Refusal}
use Rattle.protocol.specs.declared.Refusal.TheVariants.{NotTaken, Stale, Counted, LowerRank, OtherTag}
use Rattle.protocol.specs.declared.Stage.TheVariants.{Confirming}
use Rattle.protocol.specs.declared.Step.{Step}
use Rattle.std.specs.Prelude as core
use Rattle.protocol.specs.Shaped.{Shaped}
use Rattle.laws_enabled.specs.Acting.{acted, is_room_for, row_takes, takes, sending}
use Rattle.laws_enabled.proofs.Steps.{refused_acts, quiet_acts, store_acts, back_acts, confirm_acts, asked_half}

-- the answer at the end of a write is no refusal
end_taken : (p : Phase) (i : Item) → is_refused (end_answer p i) ≡ false
unfolding end_answer
end_taken p i = by_cond (λ (a : Answer). is_refused a ≡ false) (is_returning p) _ _ (λ _. refl) (λ _. refl)

module _ (table : List Node) (store : List ℕ) (rs : List (List ℕ)) (n k : ℕ) (low : k < n) (most : n ≤ max_nodes)
    (sender : ℕ) (from : sender < n) (node : Node) (i : Incarnation) where
  -- a decision that leaves a sound node acts as the test says
  abbrev ActsAs : Bool → Step → Type 0
  ActsAs test step = sound_node n k step.node ≡ true → Shaped step.node → acted (carried_out table store rs k sender step) ≡ test

  no : (why : Refusal) → acted (carried_out table store rs k sender (refused node why)) ≡ false
  no why = refused_acts table store rs k sender node why

  store_node : (a : Attempt) (item : Item)
      → ActsAs ((is_up node.phase && row_takes (row_of node sender) i a item) && is_room_for 1 rs) (on_store node sender i a item)
  unfolding on_store store_verdict reply_store row_takes ok
  store_node a item =
      by_cond (ActsAs test) (is_up node.phase) _ _
      (λ e. by_cond OfVerdict (ranks_below item (row_of node sender).item) _ _
      (λ lower _ _. rw (e, lower) (no LowerRank))
      (λ lower. by_cond OfVerdict (ranks_below (row_of node sender).item item) _ _
      (λ higher s _. rw (e, lower, higher) (back_acts table store rs k sender n low most _ s _ from))
      (λ higher. by_cond OfVerdict (same_item item (row_of node sender).item) _ _
      (λ alike. by_cond OfVerdict (earlier i a (row_of node sender).incarnation (row_of node sender).attempt) _ _
      (λ early _ _. rw (e, lower, higher, alike, early) (no Stale))
      (λ early s _. rw (e, lower, higher, alike, early) (back_acts table store rs k sender n low most _ s _ from)))
      (λ alike _ _. rw (e, lower, higher, alike) (no OtherTag)))))
      (λ e _ _. rw e (no NotTaken))
    where
      test : Bool
      test = (is_up node.phase && row_takes (row_of node sender) i a item) && is_room_for 1 rs

      OfVerdict : core.Result (Unit {0}) Refusal → Type 0
      OfVerdict v = ActsAs test (reply_store v node sender i a item)

  -- the f-th Stored
  asks : is_storing node.phase ≡ true → ActsAs (is_room_for (half n) rs)
      (send_confirm (confirming_begun (with_counted node sender i) (at_stage (with_counted node sender i).phase Confirming)))
  unfolding send_confirm ok confirming_begun with_counted
  asks e s shaped =
      confirm_acts table store rs k sender n low most (confirming_begun (with_counted node sender i) (at_stage node.phase Confirming)) s shaped
      (asked_half n k (with_counted node sender i) e s)

  stored_node : (o : Incarnation) (a : Attempt) (item : Item)
      → ActsAs ((is_storing node.phase && (own_write node o a item && not (is_counted node sender))) &&
      is_room_for (cond (below_half (with_counted node sender i)) 0 (half n)) rs) (on_stored node sender i o a item)
  unfolding on_stored stored_counted ok
  stored_node o a item =
      by_cond (ActsAs test) (is_storing node.phase) _ _
      (λ e. by_cond (ActsAs test) (own_write node o a item) _ _
      (λ own. by_cond (ActsAs test) (is_counted node sender) _ _
      (λ c _ _. rw (e, own, c) (no Counted))
      (λ c. by_cond (ActsAs test) (below_half (with_counted node sender i)) _ _
      (λ few _ _. rw (e, own, c, few) (quiet_acts table store rs k sender _ _ refl))
      (λ few s shaped. rw (e, own, c, few) (asks e s shaped))))
      (λ own _ _. rw (e, own) (no Stale)))
      (λ e _ _. rw e (no NotTaken))
    where
      test : Bool
      test = (is_storing node.phase && (own_write node o a item && not (is_counted node sender))) &&
          is_room_for (cond (below_half (with_counted node sender i)) 0 (half n)) rs

  confirm_node : (o : Incarnation) (a : Attempt) (item : Item)
      → ActsAs ((is_up node.phase && (own_incarnation node o && stored_under (row_of node sender) i a item)) && is_room_for 1 rs)
      (on_confirm node sender i o a item)
  unfolding on_confirm ok
  confirm_node o a item =
      by_cond (ActsAs test) (is_up node.phase) _ _
      (λ e. by_cond (ActsAs test) (own_incarnation node o && stored_under (row_of node sender) i a item) _ _
      (λ fit s _. rw (e, fit) (back_acts table store rs k sender n low most node s _ from))
      (λ fit _ _. rw (e, fit) (no Stale)))
      (λ e _ _. rw e (no NotTaken))
    where
      test : Bool
      test = (is_up node.phase && (own_incarnation node o && stored_under (row_of node sender) i a item)) && is_room_for 1 rs

  confirmed_node : (o : Incarnation) (a : Attempt) (item : Item)
      → ActsAs ((is_confirming node.phase && ((own_write node o a item && asked_under node sender i) && not (is_counted node sender))) && is_room_for 0 rs)
      (on_confirmed node sender i o a item)
  unfolding on_confirmed confirmed_counted store_success ok
  confirmed_node o a item =
      by_cond (ActsAs test) (is_confirming node.phase) _ _
      (λ e. by_cond (ActsAs test) (own_write node o a item && asked_under node sender i) _ _
      (λ own. by_cond (ActsAs test) (is_counted node sender) _ _
      (λ c _ _. rw (e, own, c) (no Counted))
      (λ c. by_cond (ActsAs test) (below_half (with_counted node sender i)) _ _
      (λ few _ _. rw (e, own, c) (quiet_acts table store rs k sender _ _ refl))
      (λ few _ _. rw (e, own, c) (quiet_acts table store rs k sender _ _ (end_taken _ _)))))
      (λ own _ _. rw (e, own) (no Stale)))
      (λ e _ _. rw e (no NotTaken))
    where
      test : Bool
      test = (is_confirming node.phase && ((own_write node o a item && asked_under node sender i) && not (is_counted node sender))) && is_room_for 0 rs

  fetch_node : ActsAs (is_up node.phase && is_room_for 1 rs) (on_fetch node i)
  unfolding on_fetch ok
  fetch_node =
      by_cond (ActsAs (is_up node.phase && is_room_for 1 rs)) (is_up node.phase) _ _
      (λ e s _. rw e (back_acts table store rs k sender n low most node s _ from))
      (λ e _ _. rw e (no NotTaken))

  table_node : (o : Incarnation) (items : List Item)
      → ActsAs ((is_fetching node.phase && (own_incarnation node o && not (is_counted node sender))) &&
      is_room_for (cond (at_most_half (with_table node sender i items)) 0 (cond (has_conflict (with_table node sender i items)) 0 (n - 1))) rs)
      (on_table node sender i o items)
  unfolding on_table table_counted stopped send_store ok
  table_node o items =
      by_cond (ActsAs test) (is_fetching node.phase) _ _
      (λ e. by_cond (ActsAs test) (own_incarnation node o) _ _
      (λ own. by_cond (ActsAs test) (is_counted node sender) _ _
      (λ c _ _. rw (e, own, c) (no Counted))
      (λ c. by_cond (ActsAs test) (at_most_half (with_table node sender i items)) _ _
      (λ few _ _. rw (e, own, c, few) (quiet_acts table store rs k sender _ _ refl))
      (λ few. recover_cases (ActsAs test) (with_table node sender i items)
      (λ row two _ _. rw (e, own, c, few, two) (quiet_acts table store rs k sender _ _ refl))
      (λ two s _. rw (e, own, c, few, two) (store_acts table store rs k sender n low most _ s)))))
      (λ own _ _. rw (e, own) (no Stale)))
      (λ e _ _. rw e (no NotTaken))
    where
      test : Bool
      test = (is_fetching node.phase && (own_incarnation node o && not (is_counted node sender))) &&
          is_room_for (cond (at_most_half (with_table node sender i items)) 0 (cond (has_conflict (with_table node sender i items)) 0 (n - 1))) rs

  pub message_node : (m : Message) (items : List Item) → sound_node n k (on_message m node sender i items).node ≡ true
      → Shaped (on_message m node sender i items).node
      → acted (carried_out table store rs k sender (on_message m node sender i items))
      ≡ (takes m node sender i && is_room_for (sending n m node sender i items) rs)
  unfolding on_message takes sending
  message_node (message.Store a item) items = store_node a item
  message_node (message.Stored o a item) items = stored_node o a item
  message_node (message.Confirm o a item) items = confirm_node o a item
  message_node (message.Confirmed o a item) items = confirmed_node o a item
  message_node message.Fetch items = fetch_node
  message_node (message.Table o) items = table_node o items
