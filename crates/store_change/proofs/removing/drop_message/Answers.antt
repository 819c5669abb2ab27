-- `store_change::removing::drop_message` meets its contract: bytes of another length stay as they are, else the change of the records is one of the bytes.
use Rattle.std.proofs.Common.{ℕ, List, ap, ◌∙◌, rules}
use Rattle.store.specs.Records.{records_of}
use Rattle.store.specs.Change.{unlinked, freed, drop_in}
use Rattle.store.proofs.Lent.{changed, unchanged}
use Rattle.store_change.proofs.removing.drop_message.Goals as goal

pub returns-in_default : goal.returns-in_default
returns-in_default c = let a = c.args in unchanged (λ (rs : List (List ℕ)). drop_in rs a.owner a.r) a.s.now c.in_default.ensures.cases

pub returns : goal.returns
unfolding drop_in
returns c =
    let a = c.args in
    let same = c.in-Some.ensures.cases in
    changed (λ (rs : List (List ℕ)). drop_in rs a.owner a.r) a.s.now _
    (c.free.ensures ∙ ap (λ (l : List (List ℕ)). freed l a.r) (c.unlink.ensures ∙ ap (λ (s : List ℕ). unlinked (records_of s) a.owner a.r) same.same))
    same.long
    (search rules)
