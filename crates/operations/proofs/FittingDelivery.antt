-- Delivery keeps every number of a node within its width, and sends only numbers that fit, if the message and the items
-- beside it fit.
use Prim.Native.Nat.{ℕ}
use native.Mathlib.Omega.{arith}
use mathlib.Core.Path.{◌≡◌, refl, ◌∙◌}
use mathlib.Core.Bool.{Bool, cond, ◌&&◌}
use mathlib.Core.List.{List}
use lib.ListN.{get_or}
use Rattle.item.specs.Item.{zero_item}
use Rattle.item.specs.Row.{zero_row}
use Rattle.item.proofs.Tests.{by_cond}
use Rattle.item.specs.declared.counters.Attempt.{Attempt}
use Rattle.item.specs.declared.counters.Incarnation.{Incarnation}
use Rattle.item.specs.declared.Item.{Item}
use Rattle.item.specs.declared.Row.{Row}
use Rattle.message.specs.declared.Envelope.{Envelope}
use Rattle.message.specs.declared.Message.{Message}
use Rattle.message.specs.declared.Message.TheVariants as message
use Rattle.record.specs.Kind.{other_of, attempt_of, item_of}
use Rattle.record.specs.RoundTrip.{ItemFits}
use Rattle.operations.specs.Fits.{CounterFits, PeerFits, NodeFits}
use Rattle.operations.proofs.Fitting.{MessageFits, StepFits, zero_fits, set_any, merged_fit, none_fits, crashed_fits, ended_fits, own_fits, store_sent, by_refused, by_answer, by_quiet}
use Rattle.protocol.specs.Answer.{ok, refused}
use Rattle.protocol.specs.Deliver.{on_message, deliver_step}
use Rattle.protocol.specs.Fetching.{on_fetch, on_table, table_counted, with_table, none_counted, stopped, written_back}
use Rattle.protocol.proofs.Cases.{recover_cases}
use Rattle.protocol.specs.Merge.{merge_rows}
use Rattle.protocol.specs.Node.{no_peer, peer_under, row_of, own_item, stored_row, blank_node, crashed, with_row, with_counted, confirming_begun, write_ended, with_rows, below_half, at_most_half, own_incarnation}
use Rattle.protocol.specs.Phase.{is_up, is_fetching, is_storing, is_confirming}
use Rattle.protocol.specs.Storing.{store_verdict, reply_store, on_store, own_write, is_counted, send_confirm, stored_counted, on_stored, stored_under, on_confirm, asked_under, store_success, confirmed_counted, on_confirmed}
use Rattle.protocol.specs.declared.Node.{Node}
use Rattle.protocol.specs.declared.Refusal.{Refusal}
use Rattle.std.specs.Prelude.{Ok, Err}
use Rattle.std.specs.Prelude.{Result}
use Rattle.protocol.specs.declared.Phase.{Phase}
use Rattle.protocol.specs.declared.Phase.TheVariants.{Returning}
use Rattle.protocol.specs.declared.Refusal.TheVariants.{NotTaken, Stale, Counted}
use Rattle.protocol.specs.declared.Sends.TheVariants as sends
use Rattle.protocol.specs.declared.Stage.TheVariants.{Storing}
use Rattle.protocol.specs.declared.Step.{Step}

module _ (node : Node) (N : NodeFits node) (sender : ℕ) (i : Incarnation) (I : CounterFits i.0) where
  counted_fits : NodeFits (with_counted node sender i)
  unfolding with_counted row_of
  counted_fits =
      record {
        incarnation_fits = N.incarnation_fits;
        attempt_fits = N.attempt_fits;
        items_fit = N.items_fit;
        counted_fit = set_any PeerFits node.counted sender (peer_under i) no_peer I N.counted_fit;
        asked_fit = N.asked_fit;
      }

  -- the row takes the item, and Stored goes back
  taken_fits : (a : Attempt) (k : Item) → CounterFits a.0 → ItemFits k
      → StepFits node (ok (with_row node sender (stored_row k i a)) (sends.Back (message.Stored i a k)))
  unfolding ok with_row row_of other_of attempt_of item_of
  taken_fits a k h h' =
      record {
        same_number = refl;
        same_size = refl;
        node_fits = record {
          incarnation_fits = N.incarnation_fits;
          attempt_fits = N.attempt_fits;
          items_fit = set_any (λ (r : Row). ItemFits r.item) node.rows sender (stored_row k i a) zero_row h' N.items_fit;
          counted_fit = N.counted_fit;
          asked_fit = N.asked_fit;
        };
        sends_fit = record { other_fits = I; attempt_fits = h; item_fits = h' };
      }

  reply_fits : (v : Result (Unit {0}) Refusal) (a : Attempt) (k : Item) → CounterFits a.0 → ItemFits k → StepFits node (reply_store v node sender i a k)
  unfolding reply_store
  reply_fits (Err why) a k h h' = by_refused node N why
  reply_fits (Ok takes) a k h h' = taken_fits a k h h'

-- the peers counted are asked
asked_fits : (node : Node) → NodeFits node → (phase : Phase) → StepFits node (send_confirm (confirming_begun node phase))
unfolding send_confirm confirming_begun ok row_of own_item
asked_fits node N phase =
    record {
      same_number = refl;
      same_size = refl;
      node_fits = record {
        incarnation_fits = N.incarnation_fits;
        attempt_fits = N.attempt_fits;
        items_fit = N.items_fit;
        counted_fit = none_fits;
        asked_fit = N.counted_fit;
      };
      sends_fit = (N.attempt_fits, N.items_fit node.number);
    }

-- what a step of `middle` keeps, a step of a node with its number and group keeps
module _ (node middle : Node) (number : middle.number ≡ node.number) (size : middle.n ≡ node.n) where
  through : (step : Step) → StepFits middle step → StepFits node step
  through step S =
      record { same_number = S.same_number ∙ number; same_size = S.same_size ∙ size; node_fits = S.node_fits; sends_fit = S.sends_fit }

module _ (node : Node) (N : NodeFits node) where
  stored_fits : StepFits node (stored_counted node)
  unfolding stored_counted
  stored_fits =
      by_cond (StepFits node) (below_half node) _ _
      (λ _. by_quiet node node refl refl N) (λ _. asked_fits node N _)

  confirmed_fits : StepFits node (confirmed_counted node)
  unfolding confirmed_counted store_success write_ended
  confirmed_fits =
      by_cond (StepFits node) (below_half node) _ _
      (λ _. by_quiet node node refl refl N)
      (λ _. record { same_number = refl; same_size = refl; node_fits = ended_fits node N; sends_fit = tt })

  table_fits : StepFits node (table_counted node)
  unfolding table_counted stopped written_back crashed blank_node
  table_fits =
      by_cond (StepFits node) (at_most_half node) _ _
      (λ _. by_quiet node node refl refl N)
      (λ _. recover_cases (StepFits node) node
      (λ row _. record { same_number = refl; same_size = refl; node_fits = crashed_fits node N; sends_fit = tt })
      (λ _. store_sent node N (Returning Storing) (record { 0 = 1 }) (own_item node) (omega arith) (own_fits node N)))

  rows_fits : (rows : List Row) → ((j : ℕ) → ItemFits (get_or rows j zero_row).item) → NodeFits (with_rows node rows)
  unfolding with_rows row_of
  rows_fits rows h =
      record {
        incarnation_fits = N.incarnation_fits;
        attempt_fits = N.attempt_fits;
        items_fit = h;
        counted_fit = N.counted_fit;
        asked_fit = N.asked_fit;
      }

  -- a message that is taken, of the present write or return, from a sender not counted yet
  counted_step : (takes fits : Bool) (sender : ℕ) (step : Step) → StepFits node step
      → StepFits node (cond takes (cond fits (cond (is_counted node sender) (refused node Counted) step) (refused node Stale)) (refused node NotTaken))
  counted_step takes fits sender step h =
      by_cond (StepFits node) takes _ _
      (λ _. by_cond (StepFits node) fits _ _
      (λ _. by_cond (StepFits node) (is_counted node sender) _ _ (λ _. by_refused node N Counted) (λ _. h))
      (λ _. by_refused node N Stale))
      (λ _. by_refused node N NotTaken)

module _ (node : Node) (N : NodeFits node) (sender : ℕ) (i : Incarnation) (I : CounterFits i.0) (items : List Item)
    (fit : (j : ℕ) → ItemFits (get_or items j zero_item)) where
  with_table_fits : NodeFits (with_table node sender i items)
  unfolding with_table row_of
  with_table_fits =
      let rows : List Row = merge_rows (none_counted node) node.rows items in
      counted_fits (with_rows node rows) (rows_fits node N rows (merged_fit (none_counted node) node.rows items N.items_fit fit)) sender i I

  message_fits : (m : Message) → MessageFits m → StepFits node (on_message m node sender i items)
  unfolding on_message on_store on_stored on_confirm on_confirmed on_fetch on_table other_of attempt_of item_of with_counted with_table with_rows
  message_fits (message.Store a k) M =
      by_cond (StepFits node) (is_up node.phase) _ _
      (λ _. reply_fits node N sender i I (store_verdict (row_of node sender) i a k) a k M.attempt_fits M.item_fits)
      (λ _. by_refused node N _)
  message_fits (message.Stored o a k) M =
      counted_step node N (is_storing node.phase) (own_write node o a k) sender _
      (through node (with_counted node sender i) refl refl _ (stored_fits (with_counted node sender i) (counted_fits node N sender i I)))
  message_fits (message.Confirm o a k) M =
      by_cond (StepFits node) (is_up node.phase) _ _
      (λ _. by_cond (StepFits node) (own_incarnation node o && stored_under (row_of node sender) i a k) _ _
      (λ _. by_answer node N (message.Confirmed i a k) (record { other_fits = I; attempt_fits = M.attempt_fits; item_fits = M.item_fits }))
      (λ _. by_refused node N _))
      (λ _. by_refused node N _)
  message_fits (message.Confirmed o a k) M =
      counted_step node N (is_confirming node.phase) (own_write node o a k && asked_under node sender i) sender _
      (through node (with_counted node sender i) refl refl _ (confirmed_fits (with_counted node sender i) (counted_fits node N sender i I)))
  message_fits message.Fetch M =
      by_cond (StepFits node) (is_up node.phase) _ _
      (λ _. by_answer node N (message.Table i) (record { other_fits = I; attempt_fits = omega arith; item_fits = zero_fits }))
      (λ _. by_refused node N _)
  message_fits (message.Table o) M =
      counted_step node N (is_fetching node.phase) (own_incarnation node o) sender _
      (through node (with_table node sender i items) refl refl _ (table_fits (with_table node sender i items) with_table_fits))

pub deliver_fits : (node : Node) (e : Envelope) (items : List Item) → NodeFits node → CounterFits e.incarnation.0
    → ((j : ℕ) → ItemFits (get_or items j zero_item)) → MessageFits e.message → StepFits node (deliver_step node e items)
unfolding deliver_step
deliver_fits node e items N I fit M = message_fits node N e.sender e.incarnation I items fit e.message M
