-- A table checked node by node, as the loop does it, and that this is document 01's sound table.
use Prim.Native.Nat.{ℕ, zero, suc}
use mathlib.Core.Bool.{Bool, ◌&&◌}
use mathlib.Core.List.{List}
use lib.Dec.{eqb}
use lib.ListN.{length, get_or}
use Rattle.protocol.specs.Sound.{sound_node}
use Rattle.protocol.specs.Table.{no_node}
use Rattle.protocol.specs.declared.Node.{Node}

-- the table has n nodes, and the first k of them are sound at their places
unfoldable pub sound_to : ℕ → List Node → ℕ → Bool
sound_to n t zero = eqb (length t) n
sound_to n t (suc k) = sound_to n t k && sound_node n k (get_or t k no_node)
