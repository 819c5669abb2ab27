-- Every decision keeps the lengths of a node's lists: rows and peers are only set in place, merged or made anew.
use Prim.Native.Nat.{ℕ}
use mathlib.Core.Path.{refl, ◌∙◌}
use mathlib.Core.List.{List}
use lib.ListN.{length-set}
use Rattle.item.specs.declared.counters.Attempt.{Attempt}
use Rattle.item.specs.declared.counters.Incarnation.{Incarnation}
use Rattle.item.specs.declared.Item.{Item}
use Rattle.item.specs.declared.Row.{Row}
use Rattle.item.specs.declared.Tag.{Tag}
use Rattle.message.specs.declared.Envelope.{Envelope}
use Rattle.message.specs.declared.Message.{Message}
use Rattle.message.specs.declared.Message.TheVariants as message
use Rattle.protocol.specs.Answer.{ok, refused}
use Rattle.protocol.specs.Deliver.{on_message, deliver_step}
use Rattle.protocol.specs.Fetching.{with_table, none_counted, stopped, written_back}
use Rattle.protocol.specs.Node.{blank_node, fresh_node, crashed, started, storing_begun, with_row, with_rows, with_counted, confirming_begun, write_ended}
use Rattle.protocol.specs.Storing.{send_confirm, store_success}
use Rattle.protocol.specs.Write.{send_store, send_fetch, written, retried, write_step, retry_step, crash_step, start_step}
use Rattle.protocol.specs.declared.Node.{Node}
use Rattle.protocol.specs.declared.Phase.{Phase}
use Rattle.protocol.specs.declared.Refusal.{Refusal}
use Rattle.protocol.specs.declared.Sends.{Sends}
use Rattle.protocol.specs.declared.Step.{Step}
use Rattle.protocol.specs.Shaped.{Shaped}
use Rattle.protocol.proofs.Cases.{write_cases, retry_cases, crash_cases, start_cases, store_cases, stored_cases, confirm_cases, confirmed_cases, fetch_cases, table_cases}
use Rattle.protocol.proofs.Rows.{merged_length}

-- the changes of a node
pub crashed_shaped : (node : Node) → Shaped (crashed node)
unfolding crashed blank_node
crashed_shaped node = record { rows_length = refl; counted_length = refl; asked_length = refl }

pub fresh_shaped : (number n : ℕ) → Shaped (fresh_node number n)
unfolding fresh_node write_ended blank_node
fresh_shaped number n = record { rows_length = refl; counted_length = refl; asked_length = refl }

pub started_shaped : (node : Node) → Shaped (started node)
unfolding started
started_shaped node = record { rows_length = refl; counted_length = refl; asked_length = refl }

pub begun_shaped : (node : Node) (phase : Phase) (attempt : Attempt) (item : Item) → Shaped node → Shaped (storing_begun node phase attempt item)
unfolding storing_begun
begun_shaped node phase attempt item s =
    record { rows_length = simp length-set s.rows_length; counted_length = refl; asked_length = refl }

pub row_shaped : (node : Node) (i : ℕ) (row : Row) → Shaped node → Shaped (with_row node i row)
unfolding with_row
row_shaped node i row s =
    record { rows_length = simp length-set s.rows_length; counted_length = s.counted_length; asked_length = s.asked_length }

pub counted_shaped : (node : Node) (i : ℕ) (incarnation : Incarnation) → Shaped node → Shaped (with_counted node i incarnation)
unfolding with_counted
counted_shaped node i incarnation s =
    record { rows_length = s.rows_length; counted_length = simp length-set s.counted_length; asked_length = s.asked_length }

pub confirming_shaped : (node : Node) (phase : Phase) → Shaped node → Shaped (confirming_begun node phase)
unfolding confirming_begun
confirming_shaped node phase s =
    record { rows_length = s.rows_length; counted_length = refl; asked_length = s.counted_length }

pub ended_shaped : (node : Node) → Shaped node → Shaped (write_ended node)
unfolding write_ended
ended_shaped node s = record { rows_length = s.rows_length; counted_length = refl; asked_length = refl }

pub table_shaped : (node : Node) (i : ℕ) (incarnation : Incarnation) (items : List Item) → Shaped node → Shaped (with_table node i incarnation items)
unfolding with_table with_rows
table_shaped node i incarnation items s = counted_shaped _ i incarnation (record {
  rows_length = merged_length (none_counted node) node.rows _ ∙ s.rows_length;
  counted_length = s.counted_length;
  asked_length = s.asked_length;
})

-- the shapes of a decision
abbrev ShapedStep : Step → Type 0
ShapedStep step = Shaped step.node

module _ (node : Node) (s : Shaped node) where
  ok_shaped : (out : Sends) → ShapedStep (ok node out)
  unfolding ok
  ok_shaped out = s

  refused_shaped : (why : Refusal) → ShapedStep (refused node why)
  unfolding refused
  refused_shaped why = s

  store_shaped : ShapedStep (send_store node)
  unfolding send_store ok
  store_shaped = s

  fetch_shaped : ShapedStep (send_fetch node)
  unfolding send_fetch ok
  fetch_shaped = s

  confirm_shaped : ShapedStep (send_confirm node)
  unfolding send_confirm ok
  confirm_shaped = s

  success_shaped : ShapedStep (store_success node)
  unfolding store_success
  success_shaped = ended_shaped node s

stopped_shaped : (node : Node) (row : ℕ) → ShapedStep (stopped node row)
unfolding stopped
stopped_shaped node row = crashed_shaped node

-- the calls
pub write_shaped : (node : Node) (tag : Tag) → Shaped node → Shaped (write_step node tag).node
unfolding written
write_shaped node tag s = write_cases ShapedStep node (refused_shaped node s) tag (λ e l. store_shaped _ (begun_shaped node _ _ _ s))

pub retry_shaped : (node : Node) → Shaped node → Shaped (retry_step node).node
unfolding retried
retry_shaped node s = retry_cases ShapedStep node (refused_shaped node s) (λ e. fetch_shaped node s)
    (λ e d l. store_shaped _ (begun_shaped node _ _ _ s))

pub crash_shaped : (node : Node) → Shaped node → Shaped (crash_step node).node
crash_shaped node s = crash_cases ShapedStep node (refused_shaped node s) (ok_shaped _ (crashed_shaped node) _)

pub start_shaped : (node : Node) → Shaped node → Shaped (start_step node).node
start_shaped node s = start_cases ShapedStep node (refused_shaped node s) (λ d l. fetch_shaped _ (started_shaped node))

-- and the delivery of a message, by its kind
message_shaped : (m : Message) (node : Node) (sender : ℕ) (incarnation : Incarnation) (items : List Item) → Shaped node
    → Shaped (on_message m node sender incarnation items).node
unfolding on_message written_back
message_shaped (message.Store attempt item) node sender incarnation items s =
    store_cases ShapedStep node (refused_shaped node s) sender incarnation attempt item (λ e l h. ok_shaped _ (row_shaped node sender _ s) _)
message_shaped (message.Stored other attempt item) node sender incarnation items s =
    stored_cases ShapedStep node (refused_shaped node s) sender incarnation other attempt item
    (λ e own few. ok_shaped _ (counted_shaped node sender incarnation s) _)
    (λ e own few. confirm_shaped _ (confirming_shaped _ _ (counted_shaped node sender incarnation s)))
message_shaped (message.Confirm other attempt item) node sender incarnation items s =
    confirm_cases ShapedStep node (refused_shaped node s) sender incarnation other attempt item (ok_shaped node s _)
message_shaped (message.Confirmed other attempt item) node sender incarnation items s =
    confirmed_cases ShapedStep node (refused_shaped node s) sender incarnation other attempt item
    (λ e own few. ok_shaped _ (counted_shaped node sender incarnation s) _)
    (λ e own few. success_shaped _ (counted_shaped node sender incarnation s))
message_shaped message.Fetch node sender incarnation items s =
    fetch_cases ShapedStep node (refused_shaped node s) incarnation (λ e. ok_shaped node s _)
message_shaped (message.Table other) node sender incarnation items s =
    table_cases ShapedStep node (refused_shaped node s) sender incarnation other items
    (λ e own few. ok_shaped _ (table_shaped node sender incarnation items s) _)
    (stopped_shaped _)
    (λ e own few c. store_shaped _ (begun_shaped _ _ _ _ (table_shaped node sender incarnation items s)))

pub deliver_shaped : (node : Node) (e : Envelope) (items : List Item) → Shaped node → Shaped (deliver_step node e items).node
unfolding deliver_step
deliver_shaped node e items s = message_shaped e.message node e.sender e.incarnation items s
