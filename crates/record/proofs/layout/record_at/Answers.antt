use Rattle.record.proofs.RecordLaws.{array_is_record}
use Rattle.record.proofs.layout.record_at.Goals as goal

pub returns : goal.returns
returns c = let a = c.as_chunks.ensures in array_is_record c.args.s.now c.args.i _ a.front a.front_len c.get.result c.get.ensures.lookup
