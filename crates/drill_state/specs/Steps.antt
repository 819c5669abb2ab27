-- What reading on and answering keep of a position that was reached.
use Rattle.std.specs.Prelude.{ℕ, ◌≡◌, List, length, Some}
use Rattle.script.specs.Operated.{operated_first}
use Rattle.script.specs.declared.Asked.{Asked}
use Rattle.drill_state.specs.declared.Progress.{Progress}
use Rattle.protocol.specs.declared.Answer.{Answer}
use Rattle.protocol.specs.declared.Node.{Node}
use Rattle.drill_state.specs.Position.{Reached, Onward}
use Rattle.drill_state.specs.declared.line_reader.Position.{Position}

-- reading on from p, where nothing is asked, leads to p', whatever nodes and store are held
pub record Reads (piece out : List ℕ) (p : Position) (out' : List ℕ) (p' : Position) : Type 0 where
  pub reached : (before : Progress) (store_before : List ℕ) (nodes : List Node) (store : List ℕ) → Reached piece before store_before out p nodes store → Reached piece before store_before out' p' nodes store
  pub onward : Onward piece p.next out' p'
  pub same : length out' ≡ length out

-- what p asks was answered so, and reading on leads to p' with the nodes and the store that the operation leaves
pub record Answers (piece out : List ℕ) (p : Position) (answer : Answer) (out' : List ℕ) (p' : Position) : Type 0 where
  pub reached : (asked : Asked) → p.asked ≡ Some asked → (before : Progress) (store_before : List ℕ) (nodes : List Node) (store : List ℕ) → answer ≡ (operated_first asked nodes store).answer
      → Reached piece before store_before out p nodes store → Reached piece before store_before out' p' (operated_first asked nodes store).table (operated_first asked nodes store).store
  pub onward : Onward piece p.next out' p'
