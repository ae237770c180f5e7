-- `read_off` meets its contract: the asked bits and the answer on them are the callees'.
-- Assumes nothing.
use Rattle.answers.specs.Granted.{answer_of}
use Rattle.answers.proofs.answer.read_off.Goals as goal

pub returns : goal.returns
unfolding answer_of
returns c = rw (← c.asked-asked.ensures, c.is_allowed.ensures)
