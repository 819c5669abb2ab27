-- `store_change::putting::append` meets its contract: an empty inbox gets its first record, else the last record its next.
use Rattle.std.proofs.Common.{ℕ, sym, ap, ◌∙◌, eq-eqb, ne_eqb}
use Rattle.store.specs.Records.{records_of, record_count}
use Rattle.store.proofs.Joined.{records_count}
use Rattle.store.specs.Head.{first_of}
use Rattle.store.specs.Chain.{last_from}
use Rattle.store.proofs.Lent.{records_first, records_next}
use Rattle.store.specs.Change.{appended, with_next_in}
use Rattle.store_change.proofs.putting.append.Goals as goal

pub returns-then-first-eq0 : goal.returns-then-first-eq0
unfolding appended
returns-then-first-eq0 c = let a = c.args in let s = a.s.now in let rs = records_of s in rw (eq-eqb (first_of rs a.k) 0 (sym c.first_of-first.ensures ∙ c.if-first-eq0.true)) (ap records_of c.set_first_of.ensures ∙ records_first s c.told-s a.k a.i)

pub returns : goal.returns
unfolding appended
returns c = let a = c.args in let s = a.s.now in let rs = records_of s in let f = c.first_of-first in rw (ne_eqb (first_of rs a.k) 0 (λ e. c.if-first-eq0.false (f.ensures ∙ e)), records_count s) (ap records_of c.set_next.ensures ∙ records_next s c.told-s _ a.i ∙ ap (λ (m : ℕ). with_next_in rs m a.i) (c.last_from-last.ensures ∙ ap (last_from record_count rs) f.ensures))
