-- The nodes held that are the group's table.
use Rattle.std.specs.Prelude.{ℕ, cond, ltb}

-- how many of the nodes held are the table of a group of n
unfoldable pub first_nodes : ℕ → ℕ → ℕ
first_nodes n held = cond (ltb n held) n held
