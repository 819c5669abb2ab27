-- The number after the word.
use Rattle.answers.proofs.Placing.{goes_on}
use Rattle.answers.proofs.put_value.Goals as goal

pub returns : goal.returns
returns c = goes_on c.put_text-next.ensures.begins c.put_number.ensures.begins
