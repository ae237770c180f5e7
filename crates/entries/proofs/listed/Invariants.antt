-- `listed` ends: it stands in a held list, and the measure is how many bytes of it are left.
-- Assumes nothing.
use Rattle.std.proofs.Common.{◌-◌, length}
use Rattle.entries.proofs.listed.Given as goal

abbrev pub decreases-loop-a : goal.decreases-loop-a
decreases-loop-a g l = length l.r.list.now - l.r.at
