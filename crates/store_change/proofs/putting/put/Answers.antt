-- `store_change::putting::put` meets its contract: bytes of another length stay as they are, else the change of the records is one of the bytes.
use Rattle.std.proofs.Common.{ℕ, List, ap, ◌∙◌, rules}
use Rattle.store.specs.Records.{records_of}
use Rattle.store.specs.Change.{put_in}
use Rattle.store.proofs.Lent.{changed, unchanged}
use Rattle.store_change.proofs.putting.put.Goals as goal

pub returns-in_default : goal.returns-in_default
returns-in_default c = let a = c.args in unchanged (λ (rs : List (List ℕ)). put_in rs a.envelope a.rows) a.s.now c.in_default.ensures.cases

pub returns : goal.returns
returns c =
    let a = c.args in
    let same = c.in-Some.ensures.cases in
    changed (λ (rs : List (List ℕ)). put_in rs a.envelope a.rows) a.s.now _
    (c.put_into.ensures ∙ ap (λ (s : List ℕ). put_in (records_of s) a.envelope a.rows) same.same)
    same.long
    (search rules)
