-- The records of a store while it is set up: linked to the free chain, and the head still zero.
use Rattle.std.specs.Prelude.{ℕ, zero, suc, List, [], ◌∷◌}
use Rattle.record.specs.Record.{no_record}
use Rattle.store.specs.Change.{free_records}

unfoldable pub linked_records : ℕ → List (List ℕ)
linked_records zero = []
linked_records (suc left) = no_record ∷ free_records left 1
