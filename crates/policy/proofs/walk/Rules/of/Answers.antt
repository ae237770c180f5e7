-- `policy::walk::Rules::of` meets its contract: before the first rule all are left. Assumes nothing.
use Rattle.policy.specs.Walking.{rules_left}
use Rattle.policy.proofs.walk.Rules.of.Goals as goal

pub returns-clause-left : goal.returns-clause-left
unfolding rules_left
returns-clause-left c = rw c.u32_at.ensures
