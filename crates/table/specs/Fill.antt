-- A table filled node by node, as the loop does it.
use Rattle.std.specs.Prelude.{ℕ, zero, suc, List, set}
use Rattle.protocol.specs.Node.{fresh_node}
use Rattle.protocol.specs.declared.Node.{Node}

-- the first k nodes are those of a group of n as it is set up
unfoldable pub fresh_to : ℕ → List Node → ℕ → List Node
fresh_to n t zero = t
fresh_to n t (suc k) = set (fresh_to n t k) k (fresh_node k n)
