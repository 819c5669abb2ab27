-- Laws of a turn of the loop over the lines of a piece.
use Prim.Native.Nat.{ℕ, ◌+◌, ◌-◌, ◌<◌}
use native.Mathlib.Omega.{arith}
use mathlib.Core.Path.{◌≡◌, refl, sym, subst}
use mathlib.Core.Bool.{cond}
use Rattle.std.specs.Prelude.{Option, Some, None, is_some}
use Rattle.script.specs.declared.Asked.{Asked}
use mathlib.Core.List.{List}
use lib.ListN.{length}
use Rattle.script.specs.Operated.{operated_first}
use Rattle.table.proofs.Given.{Gives}
use Rattle.protocol.specs.declared.Answer.{Answer}
use Rattle.protocol.specs.declared.Node.{Node}
use Rattle.drill_state.specs.Position.{Reached, Onward}
use Rattle.drill_state.specs.Steps.{Answers}
use Rattle.drill_state.specs.declared.line_reader.Position.{Position}
use Rattle.drill_run.specs.Taking.{Takes}

-- what is left of the piece, and an answer that is to be printed
abbrev pub left : List ℕ → Position → ℕ
left piece p = length piece - p.next + cond (is_some p.asked) 1 0

pub nearer : (piece out : List ℕ) (p p' : Position) (asked : Asked) → p.asked ≡ Some asked → Onward piece p.next out p' → left piece p' < left piece p
nearer piece out p p' asked t on = by_test p'.asked refl
  where
    now : left piece p ≡ length piece - p.next + 1
    now = rw t

    by_test : (o : Option Asked) → p'.asked ≡ o → length piece - p'.next + cond (is_some o) 1 0 < left piece p
    by_test (Some a) e = omega (arith, now, (on.further a e).0, (on.further a e).1)
    by_test None e = omega (arith, now, on.forward)

-- what a position asks was carried out over the nodes and the store held there and answered, and reading on leads to p'
pub turned : (piece out₀ : List ℕ) (p₀ : Position) (nodes₀ : List Node) (store₀ out : List ℕ) (p : Position) (nodes : List Node) (store : List ℕ) → Takes piece out₀ p₀ nodes₀ store₀ out p nodes store → (asked : Asked) → p.asked ≡ Some asked
    → (r : Answer) (l : List Node) (m : List ℕ) → Gives (operated_first asked nodes store) r l m → (out' : List ℕ) (p' : Position) → Answers piece out p r out' p' → Takes piece out₀ p₀ nodes₀ store₀ out' p' l m
turned piece out₀ p₀ nodes₀ store₀ out p nodes store k asked t r l m e out' p' a before sb so stops =
    let w = k before sb so stops in (
      subst (λ (z : List ℕ). Reached piece before sb out' p' l z) (sym e.1.1)
          (subst (λ (z : List Node). Reached piece before sb out' p' z (operated_first asked nodes store).store) (sym e.1.0) (a.reached asked t before sb nodes store e.0 w.0)),
      λ f. a.onward.ended f w.0.within.0,
    )
