-- `longer` meets its contract. The invariant: the groups that were read stand among those of the number. Assumes nothing.
use Prim.Native.Nat.{◌<◌, ◌≤◌}
use Rattle.base.proofs.LongerLaws.{Among}
use Rattle.base.proofs.sevens.longer.Given as goal

abbrev pub invariant-loop-place : goal.invariant-loop-place
invariant-loop-place l = (0 < l.shift) × (l.shift < l.bits) × (l.bits ≤ 64) × Among l.bits l.s l.at l.value l.shift l.place
