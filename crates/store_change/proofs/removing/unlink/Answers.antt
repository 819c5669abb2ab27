-- `store_change::removing::unlink` meets its contract: the inbox begins with the next of its first record, or the record before gets it.
use Rattle.std.proofs.Common.{sym, ap, ◌∙◌, eq-eqb, ne_eqb}
use Rattle.store.specs.Records.{records_of, record_count}
use Rattle.store.proofs.Joined.{records_count}
use Rattle.store.specs.Head.{first_of, with_first_of}
use Rattle.store.specs.Chain.{before_from}
use Rattle.store.proofs.Lent.{next_in_lem, records_first, records_next}
use Rattle.store.specs.Change.{unlinked, with_next_in}
use Rattle.store_change.proofs.removing.unlink.Goals as goal

pub returns-then-first-r : goal.returns-then-first-r
unfolding unlinked
returns-then-first-r c = let a = c.args in let s = a.s.now in let rs = records_of s in rw (eq-eqb (first_of rs a.k) a.r (sym c.first_of-first.ensures ∙ c.if-first-r.true)) (ap records_of c.set_first_of.ensures ∙ records_first s c.told-s a.k _ ∙ ap (with_first_of rs a.k) (c.next-after.ensures ∙ next_in_lem s c.told-s a.r))

pub returns : goal.returns
unfolding unlinked
returns c = let a = c.args in let s = a.s.now in let rs = records_of s in let f = c.first_of-first in let n = c.next-after.ensures ∙ next_in_lem s c.told-s a.r in let b = c.before_from-before.ensures ∙ ap (before_from record_count rs a.r) f.ensures in rw (ne_eqb (first_of rs a.k) a.r (λ e. c.if-first-r.false (f.ensures ∙ e)), records_count s) (ap records_of c.set_next.ensures ∙ records_next s c.told-s _ _ ∙ (λ j. with_next_in rs (b j) (n j)))
