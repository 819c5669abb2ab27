-- The table (document 01: "a lent list of n node records") as a list of nodes of any length.
use Rattle.std.specs.Prelude.{ℕ, zero, suc, Bool, ◌&&◌, List, [], ◌∷◌, eqb, length, get_or}
use Rattle.protocol.specs.Node.{blank_node, fresh_node}
use Rattle.protocol.specs.Sound.{sound_node, every_from}
use Rattle.protocol.specs.declared.Node.{Node}

-- what stands where the table has no node: a node that is Down
unfoldable pub no_node : Node
no_node = blank_node 0 0 (record { 0 = 0 })

unfoldable pub node_at : List Node → ℕ → Node
node_at table k = get_or table k no_node

-- "A table is sound if it has n nodes, each with its place as number, this n, and unused fields zero .."
unfoldable pub sound_table : ℕ → List Node → Bool
sound_table n table = eqb (length table) n && every_from (sound_node n) 0 table

-- `left` fresh nodes of a group of n, from number k on
unfoldable pub fresh_nodes : ℕ → ℕ → ℕ → List Node
fresh_nodes n k zero = []
fresh_nodes n k (suc left) = fresh_node k n ∷ fresh_nodes n (suc k) left

-- Set up: "all nodes Up and Idle, incarnation 1, attempt 0, rows zero"
unfoldable pub fresh_table : ℕ → List Node
fresh_table n = fresh_nodes n 0 n
