-- `same` meets its contract. The invariant: the lists are the same up to the place that was reached. The measure of the steps is what is
-- left up to the last eight bytes, which are the same when the loop begins. Assumes nothing.
use mathlib.Core.Path.{◌≡◌}
use lib.ListN.{take}
use Rattle.base.proofs.bytes.same.Given as goal

abbrev pub invariant-loop-i : goal.invariant-loop-i
invariant-loop-i l = take l.i l.a ≡ take l.i l.b
