-- `descriptor` hands out the bytes that the definition has.
-- Assumes nothing.
use mathlib.Core.Path.{refl}
use Rattle.testkit.specs.Sample.{descriptor_d}
use Rattle.testkit.proofs.sample.descriptor.Goals as goal

pub returns : goal.returns
unfolding descriptor_d
returns c = refl
