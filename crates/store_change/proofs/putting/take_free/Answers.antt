-- `store_change::putting::take_free` meets its contract: the free chain goes on behind its first record, and that is written.
use Rattle.std.proofs.Common.{set, ap, ◌∙◌, rules}
use Rattle.store.specs.Records.{records_of}
use Rattle.record.specs.Record.{record_bytes}
use Rattle.store.specs.Head.{with_first_free}
use Rattle.store.specs.Chain.{next_in}
use Rattle.store.specs.Change.{taken}
use Rattle.store.proofs.Lent.{next_in_lem, records_with, records_free}
use Rattle.record.proofs.RoundTripLaws.{length_record}
use Rattle.store_change.proofs.putting.take_free.Goals as goal

pub returns : goal.returns
unfolding taken
returns c =
    let a = c.args in
    let s = a.s.now in
    let rs = records_of s in
    let f = c.first_free-i in
    let n = c.group_size-n in
    let behind = ap records_of c.set_first_free.ensures ∙ records_free s c.told-s _
    ∙ ap (with_first_free rs) (c.next-after.ensures ∙ next_in_lem s c.told-s _ ∙ ap (next_in rs) f.ensures) in
    ap records_of c.write.ensures ∙ records_with _ (search rules) _ _ (λ h. length_record n.result 0 a.envelope a.rows)
    ∙ (λ j. set (behind j) (f.ensures j) (record_bytes (n.ensures j) 0 a.envelope a.rows))
