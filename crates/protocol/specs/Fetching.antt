-- Delivery of Fetch and Table to one node (document 01, Deliver): the recovery.
use Rattle.std.specs.Prelude.{ℕ, Bool, cond, List, eqb, Option, Some, None, is_some}
use Rattle.item.specs.declared.counters.Incarnation.{Incarnation}
use Rattle.item.specs.declared.Item.{Item}
use Rattle.message.specs.declared.Message.TheVariants as message
use Rattle.protocol.specs.Answer.{ok, refused}
use Rattle.protocol.specs.Merge.{merge_rows, lowest_marked}
use Rattle.protocol.specs.Node.{own_item, count_peers, crashed, storing_begun, with_counted, with_rows, at_most_half, own_incarnation}
use Rattle.protocol.specs.Phase.{is_up, is_fetching}
use Rattle.protocol.specs.Storing.{is_counted}
use Rattle.protocol.specs.Write.{send_store}
use Rattle.protocol.specs.declared.Answer.TheVariants as answer
use Rattle.protocol.specs.declared.Node.{Node}
use Rattle.protocol.specs.declared.Phase.TheVariants.{Returning}
use Rattle.protocol.specs.declared.Refusal.TheVariants.{NotTaken, Stale, Counted}
use Rattle.protocol.specs.declared.Sends.TheVariants as sends
use Rattle.protocol.specs.declared.Stage.TheVariants.{Storing}
use Rattle.protocol.specs.declared.Step.{Step}

-- "Fetch, at Up"
abbrev pub answers_fetch : Node → Bool
answers_fetch node = is_up node.phase

-- send_recover_resp: "Fetch, at Up: Table with all rows."
unfoldable pub on_fetch : Node → Incarnation → Step
on_fetch node incarnation =
    cond (answers_fetch node) (ok node (sends.Back (message.Table incarnation))) (refused node NotTaken)

-- no table is counted yet
unfoldable pub none_counted : Node → Bool
none_counted node = eqb (count_peers node.counted) 0

-- a table is counted: every row is merged with its item
unfoldable pub with_table : Node → ℕ → Incarnation → List Item → Node
with_table node sender incarnation items =
    with_counted (with_rows node (merge_rows (none_counted node) node.rows items)) sender incarnation

-- "some row's greatest index comes with two tags"
unfoldable pub has_conflict : Node → Bool
has_conflict node = is_some (lowest_marked node.rows)

-- ""stopped" with the lowest such row, and the node is Down as by Crash"
unfoldable pub stopped : Node → ℕ → Step
stopped node row = record { answer = answer.Stopped row; node = crashed node; sends = sends.Nothing }

-- "it is Returning: it writes back its own item under attempt 1, as Write does but with the index unchanged"
unfoldable pub written_back : Node → Node
written_back node = storing_begun node (Returning Storing) (record { 0 = 1 }) (own_item node)

-- stopped, or "rows become the greatest items" and the write-back, by the lowest row whose greatest index comes with two tags
unfoldable pub recovered : Option ℕ → Node → Step
recovered None node = send_store (written_back node)
recovered (Some row) node = stopped node row

-- node_recover, at f+1 tables. Document 002's model writes back first and rebuilds at the end; here the rows are rebuilt first.
unfoldable pub node_recover : Node → Step
node_recover node = recovered (lowest_marked node.rows) node

-- the sender's table is counted. "At f+1"
unfoldable pub table_counted : Node → Step
table_counted node =
    cond (at_most_half node) (ok node sends.Nothing) (node_recover node)

-- "Table, at Fetching. 10: other incarnation not its own. 11: sender counted."
unfoldable pub on_table : Node → ℕ → Incarnation → Incarnation → List Item → Step
on_table node sender incarnation other items =
    cond (is_fetching node.phase)
    (cond (own_incarnation node other)
    (cond (is_counted node sender) (refused node Counted) (table_counted (with_table node sender incarnation items)))
    (refused node Stale))
    (refused node NotTaken)
