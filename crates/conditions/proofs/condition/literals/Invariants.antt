-- `literals` meets its contract. The loop's invariant: the composite comes to what its bytes from `at` on come to, in some number of steps
-- that is enough for them. The measure is what is left. Assumes nothing.
use Prim.Native.Nat.{◌-◌, ◌≤◌}
use lib.ListN.{length}
use Rattle.conditions.proofs.OperandLaws.{Listing}
use Rattle.conditions.proofs.condition.literals.Given as goal

abbrev pub invariant-loop-at : goal.invariant-loop-at
invariant-loop-at l = (l.at ≤ length l.c) × Listing l.c l.at

abbrev pub decreases-loop-at : goal.decreases-loop-at
decreases-loop-at l = length l.c - l.at
