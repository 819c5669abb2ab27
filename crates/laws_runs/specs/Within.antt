-- A table and a store as the code holds them (document 01: "Index and tag are 64-bit, incarnation and attempt 32-bit", "A
-- node keeps 15 rows", a store of bytes). Every value of the code's types is so; a definition takes lists of any numbers.
use Rattle.std.specs.Prelude.{ℕ, List}
use Rattle.endian.specs.Number.{AreBytes}
use Rattle.protocol.specs.Table.{node_at}
use Rattle.protocol.specs.declared.Node.{Node}
use Rattle.operations.specs.Fits.{NodeFits}
use Rattle.protocol.specs.Shaped.{Shaped}

pub record Within (table : List Node) (store : List ℕ) : Type 0 where
  -- rows and peers are arrays of 15
  pub shaped : (k : ℕ) → Shaped (node_at table k)
  -- every number of a node that a message may bear is within its width
  pub fit : (k : ℕ) → NodeFits (node_at table k)
  pub bytes : AreBytes store
