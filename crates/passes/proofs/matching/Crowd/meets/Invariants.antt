-- `meets` meets its contract. The loop's invariant is `Meeting`: the list is met as its literals from `at` on are. The measure is what is
-- left. Assumes nothing.
use Prim.Native.Nat.{◌-◌}
use mathlib.Core.Bool.{true}
use lib.ListN.{length}
use Rattle.conditions.proofs.MembershipLaws.{Meeting}
use Rattle.passes.specs.Crowds.{shown_in}
use Rattle.passes.specs.Matching.{matches}
use Rattle.passes.proofs.matching.Crowd.meets.Given as goal

abbrev pub invariant-loop-at : goal.invariant-loop-at
invariant-loop-at l = Meeting (matches true (shown_in l.self) l.self.hits) l.every l.c l.at

abbrev pub decreases-loop-at : goal.decreases-loop-at
decreases-loop-at l = length l.c - l.at
