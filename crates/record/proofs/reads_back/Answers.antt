-- `record::reads_back` has the theorem for its contract.
use Rattle.record.proofs.RoundTripLaws.{reads_back}
use Rattle.record.proofs.reads_back.Goals as goal

pub returns : goal.returns
returns c = reads_back
