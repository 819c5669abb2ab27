-- A whole piece of a script, taken in as many turns as the room for its output wants.
use Rattle.std.specs.Prelude.{ℕ, suc, ◌^◌, ◌<◌, ◌≡◌, ◌⊎◌, List, [], ◌++◌}
use Rattle.answers.specs.Output.{line_room}
use Rattle.drill_state.specs.Feeding.{progress_output}
use Rattle.drill_state.specs.declared.Progress.{Progress}

-- Something was printed for the piece, and whatever comes after it, the rest of the output is what is printed from here on.
-- Nothing of the piece is left, unless `room` bytes are too few for a line or no count is left for another one.
pub record TakenWhole (piece : List ℕ) (before : Progress) (store_before : List ℕ) (room : ℕ) (after : Progress) (store : List ℕ) : Type 0 where
  pub printed : List ℕ
  pub left : List ℕ
  pub output : (rest : List ℕ) → progress_output before store_before (piece ++ rest) ≡ printed ++ progress_output after store (left ++ rest)
  pub ended : (left ≡ []) ⊎ ((room < line_room) ⊎ (suc after.count ≡ 2 ^ 64))
