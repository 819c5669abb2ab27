-- `main` is safe and ends: the arrays keep their lengths.
use Rattle.std.proofs.Common.{rules, length, ◌≤◌, ◌∙◌, ℕ, arith, sym}
use Rattle.std.proofs.lemmas.List.{length-take-le}
use Rattle.std.proofs.Math.Seq.{length_front}
use Rattle.drill.proofs.main.Goals as goal

pub slice_bounds-take_piece-end-in-loop : goal.slice_bounds-take_piece-end-in-loop
slice_bounds-take_piece-end-in-loop c =
    let within : 65280 ≤ length c.loop.room = omega (arith, c.loop.invariant.0) in
    sym (length-take-le {A = ℕ} 65280 c.loop.room within)

pub loop-preserved : goal.loop-preserved
loop-preserved c =
    let room = length_front c.loop.room c.take_piece-taken.new.store 65280 c.take_piece-taken.auto.store in
    (room ∙ c.loop.invariant.0, search rules, search rules)
