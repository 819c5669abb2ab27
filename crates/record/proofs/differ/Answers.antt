-- `record::differ` has the theorem for its contract.
use Rattle.record.proofs.RoundTripLaws.{differ}
use Rattle.record.proofs.differ.Goals as goal

pub returns : goal.returns
returns c = differ
