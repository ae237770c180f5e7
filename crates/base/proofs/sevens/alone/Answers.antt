-- `alone` meets its contract: the byte is the number, and the next place follows it.
-- Assumes nothing.
use mathlib.Core.Path.{refl}
use Rattle.base.specs.Sevens.{num_of}
use Rattle.base.proofs.sevens.alone.Goals as goal

pub returns : goal.returns
unfolding num_of
returns c = refl
