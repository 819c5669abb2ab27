-- `drill_state::finish` meets its contract: nothing is printed where no byte is held or no number is left, else one line.
use native.Mathlib.Numerals.{add-one}
use native.Mathlib.Omega.{arith}
use mathlib.Core.Path.{◌≡◌}
use borrow.Author.Tests.{eq-eqb, ne_eqb}
use Rattle.drill_state.specs.Drill.{last_output}
use Rattle.drill_state.proofs.FeedingLaws.{line_within, line_stands}
use Rattle.drill_state.proofs.finish.Goals as goal

pub returns-then-pending-eq0 : goal.returns-then-pending-eq0
unfolding last_output
returns-then-pending-eq0 c =
    let none : c.args.last.pending.len ≡ 0 = c.if-pending-eq0.true in
    record { upper_bound = omega arith; out_after = λ h room. rw (eq-eqb _ _ none) }

pub returns-then-last-eq18446744073709551615 : goal.returns-then-last-eq18446744073709551615
returns-then-last-eq18446744073709551615 c =
    record { upper_bound = omega arith; out_after = λ h room. absurd (omega (arith, h, c.if-last-eq18446744073709551615.true)) }

pub returns : goal.returns
unfolding last_output
returns c =
    let e = c.print_line.ensures in
    record {
      upper_bound = (line_within _ 0 _ _ _ _ (omega arith) e).0;
      out_after = λ h room. rw (ne_eqb _ _ c.if-pending-eq0.false, ← add-one) (line_stands _ 0 _ _ _ _ room e);
    }
