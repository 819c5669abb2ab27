-- What a decision may come to, as data: refused, or what its definition gives where its tests pass, with those tests (the
-- cases of protocol's `Cases`). Each law goes by these; no proof here opens a decision.
use Prim.Native.Nat.{ℕ, suc}
use mathlib.Core.Path.{◌≡◌}
use mathlib.Core.Bool.{true, false}
use mathlib.Core.List.{List}
use lib.Dec.{ltb}
use Rattle.item.specs.Counter.{incarnation_at_largest}
use Rattle.item.proofs.Tests.{and_right}
use Rattle.item.specs.declared.counters.Attempt.{Attempt}
use Rattle.item.specs.declared.counters.Incarnation.{Incarnation}
use Rattle.item.specs.declared.Item.{Item}
use Rattle.item.specs.declared.Tag.{Tag}
use Rattle.message.specs.declared.Envelope.{Envelope}
use Rattle.message.specs.declared.Message.{Message}
use Rattle.message.specs.declared.Message.TheVariants as message
use Rattle.protocol.specs.Answer.{ok, refused}
use Rattle.protocol.specs.Deliver.{on_message, deliver_step}
use Rattle.protocol.specs.Fetching.{with_table, has_conflict, stopped, written_back}
use Rattle.protocol.specs.Node.{half, stored_row, count_peers, crashed, started, with_row, with_rows, with_counted, confirming_begun}
use Rattle.protocol.specs.Phase.{is_down, is_fetching, is_up, is_up_idle, is_storing, is_confirming, at_stage}
use Rattle.protocol.specs.Storing.{own_write, send_confirm, asked_under, store_success}
use Rattle.protocol.specs.Write.{send_store, send_fetch, written, retried, nothing_to_retry}
use Rattle.protocol.specs.declared.Node.{Node}
use Rattle.protocol.specs.declared.Refusal.{Refusal}
use Rattle.protocol.specs.declared.Sends.TheVariants as sends
use Rattle.protocol.specs.declared.Stage.TheVariants.{Confirming}
use Rattle.protocol.specs.declared.Step.{Step}
use Rattle.protocol.proofs.Cases.{write_cases, retry_cases, crash_cases, start_cases, store_cases, stored_cases, confirm_cases, confirmed_cases, fetch_cases, table_cases}
use Rattle.laws_node.specs.Decision.{Decision, Write, Retry, Crash, Start, Deliver, decide}

-- the sender is counted, and those counted are asked
abbrev pub asking : Node → ℕ → Incarnation → Node
asking node s i = confirming_begun (with_counted node s i) (at_stage (with_counted node s i).phase Confirming)

-- a message from s, under incarnation i, at the node
pub data Received (node : Node) (s : ℕ) (i : Incarnation) (items : List Item) : Message → Step → Type 0 where
  declines : (m : Message) (why : Refusal) → Received node s i items m (refused node why)
  takes : (a : Attempt) (item : Item) → is_up node.phase ≡ true
      → Received node s i items (message.Store a item) (ok (with_row node s (stored_row item i a)) (sends.Back (message.Stored i a item)))
  counts_stored : (o : Incarnation) (a : Attempt) (item : Item) → is_storing node.phase ≡ true
      → ltb (count_peers (with_counted node s i).counted) (half node.n) ≡ true
      → Received node s i items (message.Stored o a item) (ok (with_counted node s i) sends.Nothing)
  asks : (o : Incarnation) (a : Attempt) (item : Item) → is_storing node.phase ≡ true
      → ltb (count_peers (with_counted node s i).counted) (half node.n) ≡ false
      → Received node s i items (message.Stored o a item) (send_confirm (asking node s i))
  confirms : (o : Incarnation) (a : Attempt) (item : Item)
      → Received node s i items (message.Confirm o a item) (ok node (sends.Back (message.Confirmed i a item)))
  counts_confirmed : (o : Incarnation) (a : Attempt) (item : Item) → is_confirming node.phase ≡ true → asked_under node s i ≡ true
      → ltb (count_peers (with_counted node s i).counted) (half node.n) ≡ true
      → Received node s i items (message.Confirmed o a item) (ok (with_counted node s i) sends.Nothing)
  ends : (o : Incarnation) (a : Attempt) (item : Item) → is_confirming node.phase ≡ true
      → Received node s i items (message.Confirmed o a item) (store_success (with_counted node s i))
  tells : is_up node.phase ≡ true → Received node s i items message.Fetch (ok node (sends.Back (message.Table i)))
  counts_table : (o : Incarnation) → is_fetching node.phase ≡ true
      → ltb (count_peers (with_table node s i items).counted) (suc (half node.n)) ≡ true
      → Received node s i items (message.Table o) (ok (with_table node s i items) sends.Nothing)
  stops : (o : Incarnation) (row : ℕ) → Received node s i items (message.Table o) (stopped (with_table node s i items) row)
  writes_back : (o : Incarnation) → is_fetching node.phase ≡ true → has_conflict (with_table node s i items) ≡ false
      → Received node s i items (message.Table o) (send_store (written_back (with_table node s i items)))

-- any decision of the node
pub data Outcome (node : Node) : Decision → Step → Type 0 where
  refuses : (d : Decision) (why : Refusal) → Outcome node d (refused node why)
  writes : (tag : Tag) → is_up_idle node.phase ≡ true → Outcome node (Write tag) (send_store (written node tag))
  fetches_again : Outcome node Retry (send_fetch node)
  retries : nothing_to_retry node ≡ false → is_fetching node.phase ≡ false → Outcome node Retry (send_store (retried node))
  crashes : Outcome node Crash (ok (crashed node) sends.Nothing)
  starts : is_down node.phase ≡ true → incarnation_at_largest node.incarnation ≡ false → Outcome node Start (send_fetch (started node))
  receives : (e : Envelope) (items : List Item) (step : Step) → Received node e.sender e.incarnation items e.message step
      → Outcome node (Deliver e items) step

module _ (node : Node) (s : ℕ) (i : Incarnation) (items : List Item) where
  received : (m : Message) → Received node s i items m (on_message m node s i items)
  unfolding on_message with_table with_rows with_counted
  received (message.Store a item) = store_cases (Received node s i items (message.Store a item)) node (declines _) s i a item (λ up _ _. takes a item up)
  received (message.Stored o a item) = stored_cases (Received node s i items (message.Stored o a item)) node (declines _) s i o a item
      (λ storing _ less. counts_stored o a item storing less) (λ storing _ less. asks o a item storing less)
  received (message.Confirm o a item) = confirm_cases (Received node s i items (message.Confirm o a item)) node (declines _) s i o a item (confirms o a item)
  received (message.Confirmed o a item) = confirmed_cases (Received node s i items (message.Confirmed o a item)) node (declines _) s i o a item
      (λ confirming own less. counts_confirmed o a item confirming (and_right (own_write node o a item) (asked_under node s i) own) less)
      (λ confirming _ _. ends o a item confirming)
  received message.Fetch = fetch_cases (Received node s i items message.Fetch) node (declines _) i tells
  received (message.Table o) = table_cases (Received node s i items (message.Table o)) node (declines _) s i o items
      (λ fetching _ less. counts_table o fetching less) (stops o) (λ fetching _ _ c. writes_back o fetching c)

pub outcome : (node : Node) (d : Decision) → Outcome node d (decide d node)
unfolding decide deliver_step
outcome node (Write tag) = write_cases (Outcome node (Write tag)) node (refuses _) tag (λ e _. writes tag e)
outcome node Retry = retry_cases (Outcome node Retry) node (refuses _) (λ _. fetches_again) (λ e f _. retries e f)
outcome node Crash = crash_cases (Outcome node Crash) node (refuses _) crashes
outcome node Start = start_cases (Outcome node Start) node (refuses _) (λ e l. starts e l)
outcome node (Deliver e items) = receives e items _ (received node e.sender e.incarnation items e.message)
