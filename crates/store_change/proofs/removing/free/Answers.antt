-- `store_change::removing::free` meets its contract: cleared, linked before the free records, and made the first of them.
use Rattle.std.proofs.Common.{ℕ, List, set, ap, ◌∙◌, rules}
use Rattle.store.specs.Records.{records_of}
use Rattle.record.specs.Record.{with_next, no_record}
use Rattle.store.specs.Head.{with_first_free}
use Rattle.store.proofs.Lent.{records_free, records_next, records_clear}
use Rattle.store.specs.Change.{freed, with_next_in}
use Rattle.store_change.proofs.RemovingSearch.{clear_next}
use Rattle.store_change.proofs.removing.free.Goals as goal

pub returns : goal.returns
unfolding freed
returns c =
    let a = c.args in
    let s = a.s.now in
    let rs = records_of s in
    let f = c.first_free-first in
    let cleared = ap records_of c.clear.ensures ∙ records_clear s c.told-s a.r in
    let linked = ap records_of c.set_next.ensures ∙ records_next _ (search rules) a.r f.result
    ∙ ap (λ (l : List (List ℕ)). with_next_in l a.r f.result) cleared in
    ap records_of c.set_first_free.ensures ∙ records_free _ (search rules) a.r
    ∙ ap (λ (l : List (List ℕ)). with_first_free l a.r)
    (linked ∙ clear_next rs a.r f.result ∙ ap (λ (k : ℕ). set rs a.r (with_next no_record k)) f.ensures)
