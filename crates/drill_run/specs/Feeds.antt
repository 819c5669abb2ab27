-- What lending the nodes to the lines of a piece gives.
use Rattle.std.specs.Prelude.{ℕ, List}
use Rattle.drill_run.specs.Taking.{Stops}
use Rattle.drill_state.specs.Feeding.{Taken, fed_at}
use Rattle.drill_state.specs.declared.Fed.{Fed}
use Rattle.drill_state.specs.declared.Progress.{Progress}
use Rattle.protocol.specs.declared.Node.{Node}
use Rattle.drill_state.specs.Position.{Reached}
use Rattle.drill_state.specs.declared.line_reader.Position.{Position}

-- how far the piece was taken, and where the drill stands then
unfoldable pub fed_from : Position → List Node → Fed
fed_from p nodes = fed_at p.next p.at p.count p.pending (record { n = p.n; nodes = nodes })

-- from a position that was reached the piece was taken
abbrev pub Feeds : List ℕ → List ℕ → Position → List Node → List ℕ → List ℕ → Fed → List ℕ → Type 0
Feeds piece out p nodes store out' fed store' =
    (before : Progress) (store_before : List ℕ) → Reached piece before store_before out p nodes store → Stops piece out p → Taken piece before store_before fed.next fed.at out' fed.progress store'
