-- A node as the code holds it: "A node keeps 15 rows".
use Rattle.std.specs.Prelude.{◌≡◌, length}
use Rattle.item.specs.Maxima.{max_nodes}
use Rattle.protocol.specs.declared.Node.{Node}

-- the lists of a node stand for arrays
pub record Shaped (node : Node) : Type 0 where
  pub rows_length : length node.rows ≡ max_nodes
  pub counted_length : length node.counted ≡ max_nodes
  pub asked_length : length node.asked ≡ max_nodes
