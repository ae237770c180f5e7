-- `policy::walk::Rules::next` meets its contract: the next rule, or none is left. Assumes nothing.
use Rattle.std.proofs.Common.{rules}
use Rattle.policy.specs.Walking.{rules_left}
use Rattle.policy.proofs.RulesSteps.{walk_over, walk_stops, walk_more}
use Rattle.policy.proofs.walk.RulesIterator.next.Goals as goal

pub returns-then-self-eq0-clause-steps : goal.returns-then-self-eq0-clause-steps
unfolding rules_left
returns-then-self-eq0-clause-steps c = let q = c.args.self.now in walk_over q.policy.now q.ahead q.place c.if-self-eq0.true

pub returns-in_err-r-clause-steps : goal.returns-in_err-r-clause-steps
unfolding rules_left
returns-in_err-r-clause-steps c =
    let q = c.args.self.now in
    let n = walk_stops q.policy.now q.ahead q.place c.if-self-eq0.false c.in_err-r.ensures.value in
    rw c.from_residual.ensures n

pub returns-clause-steps : goal.returns-clause-steps
unfolding rules_left
returns-clause-steps c =
    let q = c.args.self.now in (
      walk_more q.policy.now q.ahead q.place c.in_ok-r.r c.if-self-eq0.false c.in_ok-r.ensures.value,
      (c.in_ok-r.ensures.placed, search rules),
    )
