-- The whole drill (document 01, Drill program): "It reads lines .. each ended by a line feed .. For each it prints the
-- line's count from 1, a space, and" what it is answered.
use Rattle.std.specs.Prelude.{ℕ, suc, ◌*◌, cond, List, [], ◌∷◌, ◌++◌, eqb, length, replicate, None}
use Rattle.answers.specs.Output.{output_line}
use Rattle.script.specs.Bytes.{line_feed}
use Rattle.script.specs.Line.{line_of}
use Rattle.store.specs.Records.{record_count}
use Rattle.record.specs.Layout.{record_size}
use Rattle.drill_state.specs.Turn.{Done, no_group, line_done}
use Rattle.drill_state.specs.declared.Drill.{Drill}

-- "an unended last line" prints `unread`
unfoldable pub last_output : ℕ → ℕ → List ℕ
last_output count length = cond (eqb length 0) [] (output_line (suc count) None)

-- what is printed for the bytes still to come, where `count` lines have ended and `line` has come of the next
unfoldable pub output_from : ℕ → List ℕ → Drill → List ℕ → List ℕ → List ℕ
output_from count line drill store [] = last_output count (length line)
output_from count line drill store (b ∷ bs) =
    cond (eqb b line_feed)
    (let done : Done = line_done (line_of line) drill store in
    output_line (suc count) done.turn.reply ++ output_from (suc count) [] done.turn.drill done.store bs)
    (output_from count (line ++ (b ∷ [])) drill store bs)

-- the drill's output for an input: no line has come, no group stands, and the store is zero
unfoldable pub drill_output : List ℕ → List ℕ
drill_output input = output_from 0 [] no_group (replicate (record_count * record_size) 0) input
