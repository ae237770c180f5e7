-- `counts` meets its contract: the test for no bit is the test for one, turned round.
-- Assumes nothing.
use mathlib.Core.Bool.{not-not}
use mathlib.Core.Path.{sym}
use lib.Dec.{eqb}
use Rattle.base.specs.Bits.{and}
use Rattle.passes.proofs.walk.counts.Goals as goal

pub returns : goal.returns
returns c = sym (not-not (eqb (and c.args.flags 0x08) 0))
