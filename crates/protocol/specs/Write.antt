-- Write, Retry, Crash and Start of one node (document 01, Operations), with refusals 5 and 6; 7 is the store's.
use Rattle.std.specs.Prelude.{Bool, cond, ◌||◌}
use Rattle.item.specs.Counter.{index_at_largest, next_index, incarnation_at_largest, attempt_at_largest, next_attempt}
use Rattle.item.specs.declared.Item.{Item}
use Rattle.item.specs.declared.Tag.{Tag}
use Rattle.message.specs.declared.Message.TheVariants as message
use Rattle.protocol.specs.Answer.{ok, refused}
use Rattle.protocol.specs.Node.{own_item, crashed, started, storing_begun}
use Rattle.protocol.specs.Phase.{is_down, is_fetching, is_up_idle, is_idle, at_stage}
use Rattle.protocol.specs.declared.Node.{Node}
use Rattle.protocol.specs.declared.Phase.TheVariants.{Up}
use Rattle.protocol.specs.declared.Refusal.TheVariants.{WrongStage, AtLargest}
use Rattle.protocol.specs.declared.Sends.TheVariants as sends
use Rattle.protocol.specs.declared.Stage.TheVariants.{Storing}
use Rattle.protocol.specs.declared.Step.{Step}

-- send_store of document 002: "Store goes to every other node" with the attempt and item of the write that has begun
unfoldable pub send_store : Node → Step
send_store node = ok node (sends.Others (message.Store node.attempt (own_item node)))

-- send_recover_req of document 002: "Fetch to all others"
unfoldable pub send_fetch : Node → Step
send_fetch node = ok node (sends.Others message.Fetch)

-- "own index .. rise by one", with the tag given
unfoldable pub next_item : Item → Tag → Item
next_item item tag = record { index = next_index item.index; tag = tag }

-- "own index or attempt is at its largest"
unfoldable pub write_at_largest : Node → Bool
write_at_largest node = index_at_largest (own_item node).index || attempt_at_largest node.attempt

-- "own index and attempt rise by one, the own row takes the item with these counters, nothing is counted, Storing begins"
unfoldable pub written : Node → Tag → Node
written node tag = storing_begun node (Up Storing) (next_attempt node.attempt) (next_item (own_item node) tag)

-- Write. "5: not Up and Idle. 6: own index or attempt is at its largest." Document 002 asks only that the index rises;
-- here a write begins only when none is under way.
unfoldable pub write_step : Node → Tag → Step
write_step node tag =
    cond (is_up_idle node.phase)
    (cond (write_at_largest node) (refused node AtLargest) (send_store (written node tag)))
    (refused node WrongStage)

-- "attempt rises, the own row takes it with the present incarnation, the count is emptied, and Storing begins again with
-- the same item"
unfoldable pub retried : Node → Node
retried node = storing_begun node (at_stage node.phase Storing) (next_attempt node.attempt) (own_item node)

-- "Down, or Idle": there is nothing to retry
unfoldable pub nothing_to_retry : Node → Bool
nothing_to_retry node = is_down node.phase || is_idle node.phase

-- Retry. "5: Down, or Idle. 6: attempt at its largest, unless Fetching." "Fetching: Fetch goes to all others again,
-- answers kept." Document 002 has no such action.
unfoldable pub retry_step : Node → Step
retry_step node =
    cond (nothing_to_retry node) (refused node WrongStage)
    (cond (is_fetching node.phase) (send_fetch node)
    (cond (attempt_at_largest node.attempt) (refused node AtLargest) (send_store (retried node))))

-- Crash (node_crash). "5: Down. Otherwise Down; only number, n and incarnation remain."
unfoldable pub crash_step : Node → Step
crash_step node =
    cond (is_down node.phase) (refused node WrongStage) (ok (crashed node) sends.Nothing)

-- Start (nonce_increase and send_recover_req). "5: not Down. 6: incarnation at its largest. .. Otherwise incarnation
-- rises, Fetching, Fetch to all others."
unfoldable pub start_step : Node → Step
start_step node =
    cond (is_down node.phase)
    (cond (incarnation_at_largest node.incarnation) (refused node AtLargest) (send_fetch (started node)))
    (refused node WrongStage)
