use Rattle.std.proofs.Common.{◌≡◌, ℕ, ◌+◌, ◌-◌, sym, refl, ◌∙◌, arith}
use Rattle.store.specs.Records.{records_of, record_count}
use Rattle.store.proofs.Lent.{next_in_lem}
use Rattle.store_change.proofs.Search.{last_end, last_turn, last_out}
use Rattle.store_change.proofs.putting.last_from.Goals as goal

-- one record fewer is left after a turn
one_less : (turn : ℕ) → record_count - (turn + 1) ≡ record_count - turn - 1
one_less turn = omega arith

pub loop-turn-init : goal.loop-turn-init
loop-turn-init c = refl

pub returns-then-after-eq0 : goal.returns-then-after-eq0
returns-then-after-eq0 c =
    let l = c.loop-turn in
    let s = c.args.s.now in
    sym (last_end (records_of s) l.i _ (c.next-after.ensures ∙ next_in_lem s c.told-s l.i) (record_count - l.turn) c.if-after-eq0.true) ∙ l.invariant

pub loop-turn-preserved-then-after-guess : goal.loop-turn-preserved-then-after-guess
loop-turn-preserved-then-after-guess c =
    let l = c.loop-turn in
    let s = c.args.s.now in
    let after = sym c.if-after-guess.true ∙ c.next-after.ensures ∙ next_in_lem s c.told-s l.i in
    rw (one_less l.turn) (sym (last_turn (records_of s) l.i _ after (record_count - l.turn) (omega arith) (λ z. c.if-after-eq0.false (c.if-after-guess.true ∙ z))) ∙ l.invariant)

pub loop-turn-preserved : goal.loop-turn-preserved
loop-turn-preserved c =
    let l = c.loop-turn in
    let s = c.args.s.now in
    rw (one_less l.turn) (sym (last_turn (records_of s) l.i _ (c.next-after.ensures ∙ next_in_lem s c.told-s l.i) (record_count - l.turn) (omega arith) c.if-after-eq0.false) ∙ l.invariant)

pub returns : goal.returns
returns c = let l = c.loop-turn in sym (last_out (records_of c.args.s.now) l.i (record_count - l.turn) (omega arith)) ∙ l.invariant
