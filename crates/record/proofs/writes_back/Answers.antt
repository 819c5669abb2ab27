-- `record::writes_back` has the theorem for its contract.
use Rattle.record.proofs.RoundTripLaws.{writes_back_lem}
use Rattle.record.proofs.writes_back.Goals as goal

pub returns : goal.returns
returns c = writes_back_lem
