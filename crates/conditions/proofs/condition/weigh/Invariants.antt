-- `weigh` meets its contract. The loop's invariant is `Running`: the expression comes to what its bytes from `at` on come to, with operands
-- that the stack stands for; the latest operand's place lies inside. The measure is what is left. Assumes nothing.
use Prim.Native.Nat.{◌-◌, ◌≤◌}
use lib.ListN.{length}
use Rattle.conditions.specs.Condition.{told_by}
use Rattle.conditions.proofs.RunLaws.{Running}
use Rattle.conditions.proofs.condition.weigh.Given as goal

abbrev pub invariant-loop-at : goal.invariant-loop-at
invariant-loop-at g l = Running (told_by (g.T.Tests.told l.who) l.s) l.s l.m l.at × ((l.m.from ≤ l.m.to) × (l.m.to ≤ length l.s))

abbrev pub decreases-loop-at : goal.decreases-loop-at
decreases-loop-at g l = length l.s - l.at
