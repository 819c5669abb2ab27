-- `store_access::links::set_next` meets its contract: nothing past the end, else the part lent comes back with the two lowest bytes of the next.
use Rattle.record.specs.Record.{with_next}
use native.Mathlib.Omega.{arith}
use mathlib.Core.Path.{sym}
use Rattle.record.proofs.RecordLaws.{with_low, lent_at, back_at, with_record_none}
use Rattle.store_access.proofs.links.set_next.Goals as goal

pub returns-in_default : goal.returns-in_default
returns-in_default c = let a = c.args in let h = c.in_default.ensures in sym (with_record_none a.s.now a.i _ (omega arith))

pub returns : goal.returns
unfolding with_next
returns c = let a = c.args in let h = c.in-Some.ensures in rw (c.write.ensures, with_low, lent_at a.s.now a.i c.in-Some.a h) (back_at a.s.now a.i c.in-Some.a h _)
