-- `store_check::chain::message_to` meets its contract: its tests are those of the definition, in their order.
use Rattle.std.proofs.Common.{arith, lt-ltb, le-ltb, ne_eqb, eq-eqb}
use mathlib.Core.Logic.{inl, inr}
use Rattle.store_check.proofs.Belonging.{from_another, belongs_by}
use Rattle.store_check.proofs.chain.message_to.Goals.{then-ends-n, else-ends-n}
use Rattle.store_check.proofs.chain.message_to.Goals as goal

pub returns-in_default : goal.returns-in_default
unfolding from_another
returns-in_default c = rw (← belongs_by _ _ _, ← c.read.ensures, c.in_default.is)

pub returns-then-ends : goal.returns-then-ends
unfolding from_another
returns-then-ends c =
    let t = c.if-ends.true in
    rw (← belongs_by _ _ _, ← c.read.ensures, c.in-Some.is, lt-ltb _ _ t.0, ne_eqb _ _ t.1)

pub returns-else-ends : goal.returns-else-ends
unfolding from_another
returns-else-ends c =
    elim c.if-ends-n.branch [
      | then-ends-n w ↦ elim c.if-ends.either [
        | inl both ↦ rw (w.t-9-is, ← belongs_by _ _ _, ← c.read.ensures, c.in-Some.is, lt-ltb _ _ both.0, eq-eqb _ _ both.1)
        | inr past ↦ absurd (omega (arith, past, w.if-ends-n.true))
      ]
      | else-ends-n w ↦ rw (w.t-9-is, ← belongs_by _ _ _, ← c.read.ensures, c.in-Some.is, le-ltb _ _ w.if-ends-n.false)
    ]
