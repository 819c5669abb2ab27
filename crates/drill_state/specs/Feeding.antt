-- The same as the program does it: the input comes in pieces, at most 64 bytes of a line are kept, and what is printed
-- goes out in pieces.
use Rattle.std.specs.Prelude.{ℕ, suc, ◌+◌, ◌*◌, ◌<◌, ◌≤◌, ◌^◌, ◌≡◌, ◌⊎◌, cond, List, [], ◌∷◌, ◌++◌, eqb, length, take, drop}
use Rattle.answers.specs.Output.{output_line, line_room}
use Rattle.script.specs.Bytes.{line_feed}
use Rattle.script.specs.LineBuffer.{none_yet, pushed, buffered_line}
use Rattle.script.specs.declared.buffer.LineBuffer.{LineBuffer}
use Rattle.drill_state.specs.Turn.{Done, no_group, line_done}
use Rattle.drill_state.specs.Drill.{last_output}
use Rattle.drill_state.specs.declared.Drill.{Drill}
use Rattle.drill_state.specs.declared.Fed.{Fed}
use Rattle.drill_state.specs.declared.Progress.{Progress}

-- where the drill begins
unfoldable pub at_start : Progress
at_start = record { count = 0; pending = none_yet; drill = no_group }

-- what is printed for the bytes still to come
unfoldable pub buffered_output : ℕ → LineBuffer → Drill → List ℕ → List ℕ → List ℕ
buffered_output count pending drill store [] = last_output count pending.len
buffered_output count pending drill store (b ∷ bs) =
    cond (eqb b line_feed)
    (let done : Done = line_done (buffered_line pending) drill store in
    output_line (suc count) done.turn.reply ++ buffered_output (suc count) none_yet done.turn.drill done.store bs)
    (buffered_output count (pushed pending b) drill store bs)

unfoldable pub progress_output : Progress → List ℕ → List ℕ → List ℕ
progress_output p store bs = buffered_output p.count p.pending p.drill store bs

-- how far a piece was taken, how many bytes were printed for it, and where the drill stands then
abbrev pub fed_at : ℕ → ℕ → ℕ → LineBuffer → Drill → Fed
fed_at next at count pending drill = record { next = next; at = at; progress = record { count = count; pending = pending; drill = drill } }

-- how many line feeds there are
unfoldable pub line_feeds : List ℕ → ℕ
line_feeds [] = 0
line_feeds (b ∷ bs) = cond (eqb b line_feed) (suc (line_feeds bs)) (line_feeds bs)

-- what was counted before a piece and after its first `next` bytes: each line ended and each byte kept of the next line
-- took a byte, each line feed ended a line, and none of the lines printed is longer than the longest
pub record Counted (piece : List ℕ) (count_before len_before next at count len : ℕ) : Type 0 where
  pub bytes : count + len ≤ count_before + len_before + next
  pub lines : count + line_feeds (drop next piece) ≡ count_before + line_feeds piece
  pub room : at + line_room * count_before ≤ line_room * count

-- a piece of the input was taken up to `next`, and what it prints stands in the first `at` bytes of `out`: whatever comes
-- after the piece, the rest of the output is what is printed from here on. All of the piece was taken, unless there was
-- no room for another line or no count for it.
pub record Taken (piece : List ℕ) (before : Progress) (store_before : List ℕ) (next at : ℕ) (out : List ℕ) (after : Progress) (store : List ℕ) : Type 0 where
  pub output : (rest : List ℕ) → progress_output before store_before (piece ++ rest) ≡ take at out ++ progress_output after store (drop next piece ++ rest)
  pub within : (next ≤ length piece) × (at ≤ length out)
  pub counted : Counted piece before.count before.pending.len next at after.count after.pending.len
  pub ended : (next ≡ length piece) ⊎ ((length out < at + line_room) ⊎ (suc after.count ≡ 2 ^ 64))
