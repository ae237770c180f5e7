-- `large32` meets its contract: a number of five groups by `five`, any other by `longer`. Assumes nothing.
use mathlib.Core.Path.{sym, ap}
use Rattle.base.specs.Sevens.{num_of}
use Rattle.base.proofs.sevens.large32.Goals as goal

pub returns : goal.returns
unfolding num_of
returns c = sym (ap num_of c.in-Some.ensures)
