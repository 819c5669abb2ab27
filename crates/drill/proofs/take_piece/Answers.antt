-- `take_piece` takes the whole piece: each turn takes a part of it, prints within `out`, and goes on where the turn before stopped.
use Rattle.std.proofs.Common.{rules, length, take, drop, ◌≡◌, ◌-◌, ◌∙◌, ℕ, List, arith, sym, ap}
use Rattle.std.proofs.lemmas.List.{length-take, length-drop}
use Rattle.std.proofs.Math.Seq.{take-length}
use Rattle.drill_run.proofs.Whole.{more_taken, stopped_there, all_taken}
use Rattle.drill.proofs.take_piece.Goals as goal

-- a part that goes to the end is the rest
rest_is : (piece : List ℕ) (from : ℕ) → take (length piece - from) (drop from piece) ≡ drop from piece
rest_is piece from = ap (λ (n : ℕ). take n (drop from piece)) (sym (length-drop from piece)) ∙ take-length (drop from piece)

pub loop-from-preserved : goal.loop-from-preserved
loop-from-preserved g c =
    let i = c.loop-from.invariant in
    let w = simp (length-take, length-drop) at c.feed-fed.ensures.within.0 in
    let s = rw rest_is at c.feed-fed.ensures in
    (omega (arith, w, c.loop-from-test.true), search rules, search rules, more_taken i.3 s)

pub returns-after-loop-from : goal.returns-after-loop-from
returns-after-loop-from g c =
    let i = c.loop-from.invariant in
    all_taken i.3 (omega (arith, i.0, c.loop-from-test.false)) _

pub returns-then-next-eq0 : goal.returns-then-next-eq0
returns-then-next-eq0 g c =
    let i = c.loop-from.invariant in
    let s = rw rest_is at c.feed-fed.ensures in
    stopped_there i.3 s c.if-next-eq0.true c.loop-from-test.true _ (search rules)
