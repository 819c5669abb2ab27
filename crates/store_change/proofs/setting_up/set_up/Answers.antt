-- `store_change::setting_up::set_up` meets its contract: bytes of another length stay as they are, else the change of the records is one of the bytes.
use Rattle.std.proofs.Common.{ℕ, ◌%◌, List, set, ap, ◌∙◌, rules}
use Rattle.store.specs.Records.{records_of, record_count, record_in}
use Rattle.store.proofs.Lent.{records_free, records_byte, changed, unchanged}
use Rattle.store.specs.Head.{size_at, with_first_free}
use Rattle.store_change.proofs.Linked.{head_set}
use Rattle.store.specs.Change.{empty_records, set_up}
use Rattle.store_change.proofs.setting_up.set_up.Goals as goal

pub returns-in_default : goal.returns-in_default
unfolding set_up
returns-in_default c = let a = c.args in unchanged (λ (rs : List (List ℕ)). empty_records record_count (a.n % 256)) a.s.now c.in_default.ensures.cases

pub returns : goal.returns
unfolding set_up
returns c =
    let a = c.args in
    let n = a.n % 256 in
    changed (λ (rs : List (List ℕ)). empty_records record_count n) a.s.now _
    (ap records_of c.set_group_size.ensures ∙ records_byte _ (search rules) size_at n
    ∙ ap (λ (l : List (List ℕ)). set l 0 (set (record_in l 0) size_at n))
    (ap records_of c.set_first_free.ensures ∙ records_free _ (search rules) 1
    ∙ ap (λ (l : List (List ℕ)). with_first_free l 1) c.link_free.ensures)
    ∙ head_set 239 n)
    c.in-Some.ensures.cases.long
    (search rules)
