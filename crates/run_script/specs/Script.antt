-- A drill's whole script run at once, and what its caller is told.
use Rattle.std.specs.Prelude.{ℕ, ◌+◌, ◌*◌, ◌<◌, ◌≤◌, ◌≡◌, List, length, take}
use Rattle.answers.specs.Output.{line_room}
use Rattle.drill_state.specs.Drill.{drill_output}
use Rattle.drill_state.specs.Feeding.{line_feeds}

-- the largest number of 64 bits: what is given where not all was printed
abbrev pub not_all : ℕ
not_all = 18446744073709551615

-- the first `at` bytes of the output stand in `out`, and fewer are left after them than the longest line takes
pub record NoRoom (output out : List ℕ) : Type 0 where
  pub at : ℕ
  pub within : at ≤ length out
  pub begun : take at out ≡ take at output
  pub full : length out < at + line_room

-- what `r` says of a run of the script that has left `out`: unless it is the largest number, all of the output stands in
-- the first r bytes. It is the largest number only for want of room, and 72 bytes for each line feed and once more always
-- are enough. How much stands in `out` where not all was printed is left open, and so is what stands after it.
pub record ScriptRun (script out : List ℕ) (r : ℕ) : Type 0 where
  pub printed : (r ≡ not_all → ⊥) → take r out ≡ drill_output script
  pub within : (r ≡ not_all → ⊥) → r ≤ length out
  pub unprinted : r ≡ not_all → NoRoom (drill_output script) out
  pub enough : line_room * (line_feeds script + 1) ≤ length out → r ≡ not_all → ⊥
