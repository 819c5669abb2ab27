-- `record_words::words::reads_back` has the theorem for its contract.
use Rattle.record_words.proofs.ReadBackLaws.{read_back}
use Rattle.record_words.proofs.words.reads_back.Goals as goal

pub returns : goal.returns
returns c = read_back
