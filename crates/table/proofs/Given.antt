-- What an operation over a table and a store gives: its answer, and the table and the store afterwards.
use Prim.Native.Nat.{ℕ}
use mathlib.Core.Path.{◌≡◌}
use mathlib.Core.List.{List}
use Rattle.operations.specs.Operation.{Result}
use Rattle.protocol.specs.declared.Answer.{Answer}
use Rattle.protocol.specs.declared.Node.{Node}

-- an answer, nodes and a store are those of a result
abbrev pub Gives : Result → Answer → List Node → List ℕ → Type 0
Gives result r nodes store = (r ≡ result.answer) × ((nodes ≡ result.table) × (store ≡ result.store))
