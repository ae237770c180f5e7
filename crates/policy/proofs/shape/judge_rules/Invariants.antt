-- `policy::shape::judge_rules` meets its contract. The loop's invariant: the standing of all rules is that of the rules that are left,
-- after something unread was met or not. Assumes nothing.
use Prim.Native.Nat.{◌-◌}
use mathlib.Core.Path.{◌≡◌}
use Rattle.policy.specs.Policy.{standing, rules_shaped, rules_unread}
use Rattle.policy.proofs.PolicySteps.{Left}
use Rattle.policy.proofs.shape.judge_rules.Given as goal

abbrev pub invariant-loop : goal.invariant-loop
invariant-loop l = standing (rules_shaped l.s l.n 5) (rules_unread l.s l.n 5) ≡ Left l.s l.unread (l.n - l.counter) l.at
