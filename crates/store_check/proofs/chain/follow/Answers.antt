use Rattle.std.proofs.Common.{◌≡◌, ℕ, ◌-◌, sym, ap, refl, ◌∙◌, arith, length-set}
use Rattle.store.specs.Records.{record_count, records_of}
use Rattle.store.specs.Chain.{walk}
use Rattle.store_check.proofs.Walking.{walk_ends, walk_on, walk_past, walk_met, walk_other, walk_turn}
use Rattle.store_check.proofs.chain.follow.Goals as goal

pub loop-count-init : goal.loop-count-init
loop-count-init g c = (c.told-passed, refl)

pub returns-then-i-eq0 : goal.returns-then-i-eq0
returns-then-i-eq0 g c =
    let l = c.loop-count in
    sym (walk_ends (g.C.Belongs.belongs c.args.chain.now) c.args.s.now c.told-s (record_count - l.count) l.i l.passed l.count c.if-i-eq0.true) ∙ l.invariant.1

pub returns-then-i-ge-RECORDS : goal.returns-then-i-ge-RECORDS
returns-then-i-ge-RECORDS g c =
    let l = c.loop-count in
    sym (walk_past (g.C.Belongs.belongs c.args.chain.now) c.args.s.now c.told-s (record_count - l.count) l.i l.passed l.count c.if-i-eq0.false (omega arith)) ∙ l.invariant.1

pub returns-then-passed-i : goal.returns-then-passed-i
returns-then-passed-i g c =
    let l = c.loop-count in
    sym (walk_met (g.C.Belongs.belongs c.args.chain.now) c.args.s.now c.told-s (record_count - l.count) l.i l.passed l.count c.if-i-eq0.false (omega arith) c.if-passed-i.true) ∙ l.invariant.1

pub returns-then-not-has : goal.returns-then-not-has
returns-then-not-has g c =
    let l = c.loop-count in
    sym (walk_other (g.C.Belongs.belongs c.args.chain.now) c.args.s.now c.told-s (record_count - l.count) l.i l.passed l.count c.if-i-eq0.false (omega arith) c.if-passed-i.false c.has.ensures c.if-not-has.true) ∙ l.invariant.1

pub loop-count-preserved-then-after-guess : goal.loop-count-preserved-then-after-guess
loop-count-preserved-then-after-guess g c =
    let l = c.loop-count in (
      simp length-set l.invariant.0,
      sym (walk_turn (g.C.Belongs.belongs c.args.chain.now) c.args.s.now c.told-s l.count l.i _ l.passed (omega arith) c.if-i-eq0.false (omega arith) c.if-passed-i.false
          c.has.ensures c.if-not-has.false (sym c.if-after-guess.true ∙ c.next-after.ensures)) ∙ l.invariant.1,
    )

pub loop-count-preserved : goal.loop-count-preserved
loop-count-preserved g c =
    let l = c.loop-count in (
      simp length-set l.invariant.0,
      sym (walk_turn (g.C.Belongs.belongs c.args.chain.now) c.args.s.now c.told-s l.count l.i _ l.passed (omega arith) c.if-i-eq0.false (omega arith) c.if-passed-i.false
          c.has.ensures c.if-not-has.false c.next-after.ensures) ∙ l.invariant.1,
    )

pub returns-then-i-ne0 : goal.returns-then-i-ne0
returns-then-i-ne0 g c =
    let l = c.loop-count in
    let none : record_count - l.count ≡ 0 = omega arith in
    sym (walk_on (g.C.Belongs.belongs c.args.chain.now) c.args.s.now c.told-s l.i l.passed l.count c.if-i-ne0.true)
    ∙ ap (λ (left : ℕ). walk (g.C.Belongs.belongs c.args.chain.now) left (records_of c.args.s.now) l.i l.passed l.count) (sym none)
    ∙ l.invariant.1

pub returns : goal.returns
returns g c =
    let l = c.loop-count in
    sym (walk_ends (g.C.Belongs.belongs c.args.chain.now) c.args.s.now c.told-s (record_count - l.count) l.i l.passed l.count (omega arith)) ∙ l.invariant.1
