-- Where a drill stands in a piece of its script, while nodes and store are held by someone else.
use Rattle.std.specs.Prelude.{ℕ, suc, ◌+◌, ◌<◌, ◌≤◌, ◌^◌, ◌≡◌, cond, ◌⊎◌, List, ◌++◌, length, take, drop, Option, Some, None, option_map, is_some}
use Rattle.answers.specs.Output.{output_line, line_room}
use Rattle.script.specs.declared.Asked.{Asked}
use Rattle.script.specs.declared.Asked.TheVariants as ask
use Rattle.script.specs.Operated.{operated_first}
use Rattle.script.specs.declared.buffer.LineBuffer.{LineBuffer}
use Rattle.drill_state.specs.Feeding.{buffered_output, progress_output, Counted}
use Rattle.drill_state.specs.Turn.{line_for, size_after}
use Rattle.drill_state.specs.declared.Progress.{Progress}
use Rattle.operations.specs.Operation.{Result}
use Rattle.protocol.specs.declared.Answer.{Answer}
use Rattle.protocol.specs.declared.Node.{Node}
use Rattle.script.specs.declared.Line.{Line}
use Rattle.script.specs.declared.Line.TheVariants.{SetUp, Call}
use Rattle.drill_state.specs.declared.line_reader.Position.{Position}

-- what a line asks of a group of n
unfoldable pub asked_of : ℕ → Line → Asked
asked_of n (SetUp k) = ask.SetUp k
asked_of n (Call e) = ask.Call n e

-- and where the group has n nodes: nothing, if the line is unread there
unfoldable pub asked_by : ℕ → Option Line → Option Asked
asked_by n line = option_map (asked_of n) (line_for n line)

-- how many nodes the group has after what is asked was answered so
unfoldable pub size_then : Option Asked → ℕ → Answer → ℕ
size_then (Some (ask.SetUp n)) before answer = size_after n before answer
size_then (Some (ask.Call n e)) before answer = before
size_then None before answer = before

-- every line ended was answered
unfoldable pub resting_at : ℕ → ℕ → ℕ → LineBuffer → ℕ → Position
resting_at next at count pending n = record { next = next; at = at; count = count; pending = pending; n = n; asked = None }

-- the same place, where what was asked is answered
unfoldable pub nothing_asked : Position → Position
nothing_asked p = resting_at p.next p.at p.count p.pending p.n

-- what is printed for the bytes still to come, where nothing is asked, and where an operation with this result was asked
unfoldable pub rest_output : Position → List Node → List ℕ → List ℕ → List ℕ
rest_output p nodes store bs = buffered_output p.count p.pending (record { n = p.n; nodes = nodes }) store bs

unfoldable pub answer_output : Position → Result → List ℕ → List ℕ
answer_output p result bs =
    output_line p.count (Some result.answer) ++ buffered_output p.count p.pending (record { n = size_then p.asked p.n result.answer; nodes = result.table }) result.store bs

unfoldable pub asked_output : Option Asked → Position → List Node → List ℕ → List ℕ → List ℕ
asked_output (Some asked) p nodes store bs = answer_output p (operated_first asked nodes store) bs
asked_output None p nodes store bs = rest_output p nodes store bs

unfoldable pub position_output : Position → List Node → List ℕ → List ℕ → List ℕ
position_output p nodes store bs = asked_output p.asked p nodes store bs

-- the bytes of `out` that are taken, with room for the answer of what is asked
unfoldable pub room_taken : Position → ℕ
room_taken p = cond (is_some p.asked) (p.at + line_room) p.at

-- a piece of the input was taken up to this position: whatever comes after the piece, the rest of the output is what is
-- printed from here on
pub record Reached (piece : List ℕ) (before : Progress) (store_before out : List ℕ) (p : Position) (nodes : List Node) (store : List ℕ) : Type 0 where
  pub output : (rest : List ℕ) → progress_output before store_before (piece ++ rest) ≡ take p.at out ++ position_output p nodes store (drop p.next piece ++ rest)
  pub within : (p.next ≤ length piece) × (room_taken p ≤ length out)
  pub counted : Counted piece before.count before.pending.len p.next (room_taken p) p.count p.pending.len

-- the reading went on from byte `from`: past a line feed, where something is asked; else all of the piece was taken, unless
-- there was no room for another line or no count for it
pub record Onward (piece : List ℕ) (from : ℕ) (out : List ℕ) (p : Position) : Type 0 where
  pub forward : from ≤ p.next
  pub further : (asked : Asked) → p.asked ≡ Some asked → (from < p.next) × (p.next ≤ length piece)
  pub ended : p.asked ≡ None → (from ≤ length piece) → (p.next ≡ length piece) ⊎ ((length out < p.at + line_room) ⊎ (suc p.count ≡ 2 ^ 64))
