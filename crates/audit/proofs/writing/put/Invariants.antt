-- `put` meets its contract. The loop's invariant: noting the number at `o` is noting the groups that are left at `i` (Packs). The measure
-- is the number that is left. Assumes nothing.
use Prim.Native.Nat.{◌+◌, ◌^◌, ◌<◌}
use Rattle.audit.proofs.NotingLaws.{Packs}
use Rattle.audit.proofs.writing.put.Given as goal

abbrev pub invariant-loop-n : goal.invariant-loop-n
invariant-loop-n l = Packs l.write l.initial.out l.o l.v l.out l.n l.i × (l.n < 2 ^ 64) × (l.i < l.o + 10)

abbrev pub decreases-loop-n : goal.decreases-loop-n
decreases-loop-n l = l.n
