use Prim.Native.Nat.{◌+◌, ◌≤◌}
use native.Mathlib.Omega.{arith}
use mathlib.Core.Path.{sym, ap, ◌∙◌}
use mathlib.Core.Logic.{inl, inr}
use lib.ListN.{length}
use borrow.Author.Tests.{leb-true, leb-false}
use borrow.Author.Rules.{rules}
use Rattle.item.proofs.Tests.{granted}
use Rattle.answers.specs.Output.{line_room}
use Rattle.drill_state.specs.Position.{asked_by}
use Rattle.drill_state.proofs.Laws.{kept_start, kept_byte, kept_unread, asks_there, ended_there}
use Rattle.drill_state.proofs.line_reader.read_on.Goals as goal

pub loop-here-init : goal.loop-here-init
loop-here-init c = (search rules, kept_start _ _ _)

pub loop-here-preserved-then-in_line : goal.loop-here-preserved-then-in_line
loop-here-preserved-then-in_line c =
    (c.loop-here.invariant.0, kept_byte c.loop-here.invariant.1 c.loop-here-test.true (search rules) _ c.push.ensures)

pub returns-then-is_some : goal.returns-then-is_some
returns-then-is_some c =
    let room : c.loop-here.here.at + line_room ≤ length c.loop-here.out = leb-true _ _ (granted c.has_room.ensures (search rules)) in
    asks_there c.loop-here.invariant.1 c.loop-here-test.true (search rules) room _ c.none-here.ensures _
    (c.asked_by-asked.ensures ∙ ap (asked_by _) c.read.ensures) (search rules)

pub loop-here-preserved : goal.loop-here-preserved
loop-here-preserved c =
    let room : c.loop-here.here.at + line_room ≤ length c.loop-here.out = leb-true _ _ (granted c.has_room.ensures (search rules)) in (
      omega (arith, c.if-here.false, c.loop-here.invariant.0),
      kept_unread c.loop-here.invariant.1 c.loop-here-test.true (search rules) room _ c.none-here.ensures _
          (c.asked_by-asked.ensures ∙ ap (asked_by _) c.read.ensures) (search rules) _ _ c.print_line.ensures,
    )

pub returns-after-loop-here : goal.returns-after-loop-here
returns-after-loop-here c =
    let k = c.loop-here.invariant.1 in
    ended_there k (λ few. inl (omega (arith, c.loop-here-test.false, k.within few)))

pub returns-then-not-has_room : goal.returns-then-not-has_room
returns-then-not-has_room c =
    ended_there c.loop-here.invariant.1 (λ few. inr (inl (leb-false _ _ (sym c.has_room.ensures ∙ search rules))))

pub returns-then-here : goal.returns-then-here
returns-then-here c = ended_there c.loop-here.invariant.1 (λ few. inr (inr (omega (arith, c.if-here.true))))
