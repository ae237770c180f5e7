-- `put` meets its contract. A number below 128 is its own byte, and one of five groups is written by `put_five`. The loop's invariant:
-- writing the number at `o` is writing the groups that are left at `i` (Writes), where there is room. The measure is the number that is
-- left. Assumes nothing.
use Prim.Native.Nat.{◌^◌, ◌<◌}
use mathlib.Core.Path.{◌≡◌}
use lib.ListN.{length}
use Rattle.base.proofs.WriteLaws.{Writes}
use Rattle.tokens.proofs.pack.put.Given as goal

abbrev pub invariant-loop-n : goal.invariant-loop-n
invariant-loop-n l = Writes l.initial.out l.o l.v l.out l.n l.i × (l.n < 2 ^ 64) × (length l.out ≡ length l.initial.out) × (l.i < length l.out)

abbrev pub decreases-loop-n : goal.decreases-loop-n
decreases-loop-n l = l.n
