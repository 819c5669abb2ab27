-- `answers::print_line` meets its contract: the test for room, and `put_line`.
use Prim.Native.Nat.{◌+◌, ◌≤◌, ◌<◌}
use native.Mathlib.Omega.{arith}
use mathlib.Core.Path.{sym, ◌∙◌}
use lib.ListN.{length}
use borrow.Author.Tests.{leb-true, leb-false}
use borrow.Author.Rules.{rules}
use Rattle.item.proofs.Tests.{granted}
use Rattle.answers.proofs.Printing.{line_length}
use Rattle.answers.proofs.Placing.{begun_at, placed_fits, after_fits, placed_none, after_none}
use Rattle.answers.specs.Output.{output_line, line_room}
use Rattle.answers.proofs.print_line.Goals as goal

pub returns-then-not-has_room : goal.returns-then-not-has_room
returns-then-not-has_room c =
    let a = c.args in
    let few : length a.out.now < a.at + line_room = leb-false _ _ (sym c.has_room.ensures ∙ c.if-not-has_room.true) in
    (sym (after_none _ _ _ _ few), sym (placed_none _ _ _ _ few))

pub returns : goal.returns
returns c =
    let a = c.args in
    let room : a.at + line_room ≤ length a.out.now = leb-true _ _ (granted c.has_room.ensures (search rules)) in
    let f : a.at + length (output_line a.count a.reply) ≤ length a.out.now = omega (arith, line_length a.count a.reply, room) in
    let w = begun_at a.out.now a.at f c.put_line.ensures in (
      w.0 ∙ sym (after_fits line_room a.out.now a.at (output_line a.count a.reply) room),
      w.1 ∙ sym (placed_fits line_room a.out.now a.at (output_line a.count a.reply) room),
    )
