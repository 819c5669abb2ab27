use mathlib.Core.Path.{sym, ◌∙◌}
use Rattle.script.proofs.NumberReading.{digit_is, digit_none, digits_end, is_fits}
use Rattle.script.proofs.decimal.digits_in.Goals as goal

pub returns-in_err-v : goal.returns-in_err-v
returns-in_err-v c =
    let l = c.loop-b in
    c.from_residual.ensures ∙ sym (digit_none c.args.s.now l.v l.b-index c.loop-b-test.true (sym c.in_err-v.ensures)) ∙ l.invariant.1

pub loop-b-preserved : goal.loop-b-preserved
loop-b-preserved c =
    let l = c.loop-b in
    let e = sym c.in_ok-v.ensures in
    (is_fits _ _ _ e, sym (digit_is c.args.s.now l.v l.b-index _ c.loop-b-test.true e) ∙ l.invariant.1)

pub returns : goal.returns
returns c =
    let l = c.loop-b in
    sym (digits_end c.args.s.now l.v l.b-index c.loop-b-test.false l.invariant.0) ∙ l.invariant.1
