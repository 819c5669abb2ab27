-- Laws of the kinds.
use Prim.Native.Nat.{ℕ, ◌≤◌}
use native.Mathlib.Omega.{arith}
use Rattle.item.specs.Maxima.{max_nodes}
use Rattle.message.specs.declared.Message.{Message}
use Rattle.message.specs.declared.Message.TheVariants.{Store, Stored, Confirm, Confirmed, Fetch, Table}
use Rattle.record.specs.Kind.{rows_held}

pub rows_held_most : (m : Message) (n : ℕ) → rows_held m n ≤ max_nodes
unfolding rows_held
rows_held_most (Store attempt item) n = omega arith
rows_held_most (Stored other attempt item) n = omega arith
rows_held_most (Confirm other attempt item) n = omega arith
rows_held_most (Confirmed other attempt item) n = omega arith
rows_held_most Fetch n = omega arith
rows_held_most (Table other) n = omega arith
