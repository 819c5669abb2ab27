-- What the lines of a piece keep of a position that was reached, with the nodes and the store that are held there.
use Rattle.std.specs.Prelude.{ℕ, suc, ◌+◌, ◌<◌, ◌^◌, ◌≡◌, ◌⊎◌, List, length, None}
use Rattle.answers.specs.Output.{line_room}
use Rattle.drill_state.specs.declared.Progress.{Progress}
use Rattle.protocol.specs.declared.Node.{Node}
use Rattle.drill_state.specs.Position.{Reached}
use Rattle.drill_state.specs.declared.line_reader.Position.{Position}

-- where nothing is asked, all of the piece was taken, unless there was no room for another line or no count for it
abbrev pub Stops : List ℕ → List ℕ → Position → Type 0
Stops piece out p = p.asked ≡ None → (p.next ≡ length piece) ⊎ ((length out < p.at + line_room) ⊎ (suc p.count ≡ 2 ^ 64))

-- from a position that was reached the lines lead to another
abbrev pub Takes : List ℕ → List ℕ → Position → List Node → List ℕ → List ℕ → Position → List Node → List ℕ → Type 0
Takes piece out p nodes store out' p' nodes' store' =
    (before : Progress) (store_before : List ℕ) → Reached piece before store_before out p nodes store → Stops piece out p → Reached piece before store_before out' p' nodes' store' × Stops piece out' p'
