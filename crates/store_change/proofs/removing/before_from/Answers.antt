use Rattle.std.proofs.Common.{◌≡◌, ℕ, ◌+◌, ◌-◌, sym, refl, ◌∙◌, arith}
use Rattle.store.specs.Records.{records_of, record_count}
use Rattle.store.proofs.Lent.{next_in_lem}
use Rattle.store_change.proofs.RemovingSearch.{before_end, before_found, before_turn, before_out}
use Rattle.store_change.proofs.removing.before_from.Goals as goal

-- one record fewer is left after a turn
one_less : (turn : ℕ) → record_count - (turn + 1) ≡ record_count - turn - 1
one_less turn = omega arith

pub loop-turn-init : goal.loop-turn-init
loop-turn-init c = refl

pub returns-then-i-eq0 : goal.returns-then-i-eq0
returns-then-i-eq0 c = let l = c.loop-turn in let a = c.args in sym (before_end (records_of a.s.now) l.i a.r (record_count - l.turn) c.if-i-eq0.true) ∙ l.invariant

pub returns-then-after-r : goal.returns-then-after-r
returns-then-after-r c =
    let l = c.loop-turn in
    let s = c.args.s.now in
    sym (before_found (records_of s) l.i _ (c.next-after.ensures ∙ next_in_lem s c.told-s l.i) (record_count - l.turn) c.args.r (omega arith) c.if-i-eq0.false c.if-after-r.true) ∙ l.invariant

pub loop-turn-preserved-then-after-guess : goal.loop-turn-preserved-then-after-guess
loop-turn-preserved-then-after-guess c =
    let l = c.loop-turn in
    let s = c.args.s.now in
    let after = sym c.if-after-guess.true ∙ c.next-after.ensures ∙ next_in_lem s c.told-s l.i in
    rw (one_less l.turn) (sym (before_turn (records_of s) l.i _ after (record_count - l.turn) c.args.r (omega arith) c.if-i-eq0.false (λ z. c.if-after-r.false (c.if-after-guess.true ∙ z))) ∙ l.invariant)

pub loop-turn-preserved : goal.loop-turn-preserved
loop-turn-preserved c =
    let l = c.loop-turn in
    let s = c.args.s.now in
    rw (one_less l.turn) (sym (before_turn (records_of s) l.i _ (c.next-after.ensures ∙ next_in_lem s c.told-s l.i) (record_count - l.turn) c.args.r (omega arith) c.if-i-eq0.false c.if-after-r.false) ∙ l.invariant)

pub returns : goal.returns
returns c = let l = c.loop-turn in let a = c.args in sym (before_out (records_of a.s.now) l.i a.r (record_count - l.turn) (omega arith)) ∙ l.invariant
