-- Laws of the end of a piece.
use Prim.Native.Nat.{ℕ, ◌≤◌}
use mathlib.Core.Path.{◌≡◌, sym, subst, ◌∙◌}
use Rattle.std.specs.Prelude.{None}
use mathlib.Core.List.{List}
use lib.ListN.{length}
use Rattle.drill_run.specs.Taking.{Stops, Takes}
use Rattle.drill_state.specs.Feeding.{Taken, Counted, progress_output}
use Rattle.drill_state.specs.declared.Fed.{Fed}
use Rattle.drill_state.specs.declared.Progress.{Progress}
use Rattle.protocol.specs.declared.Node.{Node}
use Rattle.drill_state.specs.Position.{Reached, position_output, asked_output, rest_output, room_taken}
use Rattle.drill_state.specs.declared.line_reader.Position.{Position}
use Rattle.drill_run.specs.Feeds.{Feeds, fed_from}

-- a position where nothing is asked ends the piece
pub fed_taken : (piece : List ℕ) (before : Progress) (sb out : List ℕ) (p : Position) (nodes : List Node) (store : List ℕ) → p.asked ≡ None → Reached piece before sb out p nodes store → Stops piece out p
    → Taken piece before sb (fed_from p nodes).next (fed_from p nodes).at out (fed_from p nodes).progress store
unfolding fed_from position_output asked_output rest_output room_taken progress_output
fed_taken piece before sb out p nodes store f so stops =
    let here : room_taken p ≡ p.at = rw f in
    record {
      output = λ rest. so.output rest ∙ rw f;
      within = (so.within.0, subst (λ (k : ℕ). k ≤ length out) here so.within.1);
      counted = subst (λ (k : ℕ). Counted piece before.count before.pending.len p.next k p.count p.pending.len) here so.counted;
      ended = stops f;
    }

pub fed_feeds : (piece out₀ : List ℕ) (p₀ : Position) (nodes₀ : List Node) (store₀ out : List ℕ) (p : Position) (nodes : List Node) (store : List ℕ)
    → (p.asked ≡ None) × Takes piece out₀ p₀ nodes₀ store₀ out p nodes store → (r : Fed) → r ≡ fed_from p nodes → Feeds piece out₀ p₀ nodes₀ store₀ out r store
fed_feeds piece out₀ p₀ nodes₀ store₀ out p nodes store k r e before sb so stops =
    let w = k.1 before sb so stops in
    subst (λ (x : Fed). Taken piece before sb x.next x.at out x.progress store) (sym e) (fed_taken piece before sb out p nodes store k.0 w.0 w.1)
