-- `policy::one_rule::rule_at` meets its contract: one law for each section that is refused, and the rule that is there. Assumes nothing.
use Rattle.policy.proofs.OneRuleSteps.{none_fits, applies_held, effective_held, sacl_held, staged_held, last_held}
use Rattle.policy.proofs.OneRuleSteps.{refused_applies, refused_effective, refused_sacl, refused_staged, refused_last, rule_there}
use Rattle.policy.proofs.one_rule.rule_at.Goals as goal

pub returns-in_err-r-clause-value : goal.returns-in_err-r-clause-value
returns-in_err-r-clause-value c = rw c.from_residual.ensures (none_fits _ _ c.in_err-r.ensures.value)

pub returns-in_err-applies-clause-value : goal.returns-in_err-applies-clause-value
returns-in_err-applies-clause-value c =
    let s = c.args.s.now in
    let w = c.in_ok-r.ensures.value in
    let a = applies_held s c.args.at c.in_ok-r.r w _ _ c.bytes_of.ensures c.applies_section.ensures in
    rw c.from_residual-in_err-applies.ensures (refused_applies s c.args.at c.in_ok-r.r w _ c.in_err-applies.ensures a)

pub returns-in_err-effective-clause-value : goal.returns-in_err-effective-clause-value
returns-in_err-effective-clause-value c =
    let s = c.args.s.now in
    let w = c.in_ok-r.ensures.value in
    let e = effective_held s c.args.at c.in_ok-r.r w _ _ c.bytes_of-2.ensures c.acl_section.ensures in
    rw c.from_residual-in_err-effective.ensures (refused_effective s c.args.at c.in_ok-r.r w _ c.in_err-effective.ensures e)

pub returns-in_err-alien-clause-value : goal.returns-in_err-alien-clause-value
returns-in_err-alien-clause-value c =
    let s = c.args.s.now in
    let w = c.in_ok-r.ensures.value in
    let d = sacl_held s c.args.at c.in_ok-r.r w _ _ c.bytes_of-3.ensures c.maybe_acl.ensures in
    rw c.from_residual-in_err-alien.ensures (refused_sacl s c.args.at c.in_ok-r.r w _ c.in_err-alien.ensures d)

pub returns-in_err-staged-clause-value : goal.returns-in_err-staged-clause-value
returns-in_err-staged-clause-value c =
    let s = c.args.s.now in
    let w = c.in_ok-r.ensures.value in
    let t = staged_held s c.args.at c.in_ok-r.r w _ _ c.bytes_of-4.ensures c.maybe_acl-2.ensures in
    rw c.from_residual-in_err-staged.ensures (refused_staged s c.args.at c.in_ok-r.r w _ c.in_err-staged.ensures t)

pub returns-in_err-alien-2-clause-value : goal.returns-in_err-alien-2-clause-value
returns-in_err-alien-2-clause-value c =
    let s = c.args.s.now in
    let w = c.in_ok-r.ensures.value in
    let y = last_held s c.args.at c.in_ok-r.r w _ _ c.bytes_of-5.ensures c.maybe_acl-3.ensures in
    rw c.from_residual-in_err-alien-2.ensures (refused_last s c.args.at c.in_ok-r.r w _ c.in_err-alien-2.ensures y)

pub returns-clause-value : goal.returns-clause-value
returns-clause-value c =
    let s = c.args.s.now in
    let w = c.in_ok-r.ensures.value in
    let a = applies_held s c.args.at c.in_ok-r.r w _ _ c.bytes_of.ensures c.applies_section.ensures in
    let e = effective_held s c.args.at c.in_ok-r.r w _ _ c.bytes_of-2.ensures c.acl_section.ensures in
    let d = sacl_held s c.args.at c.in_ok-r.r w _ _ c.bytes_of-3.ensures c.maybe_acl.ensures in
    let t = staged_held s c.args.at c.in_ok-r.r w _ _ c.bytes_of-4.ensures c.maybe_acl-2.ensures in
    let y = last_held s c.args.at c.in_ok-r.r w _ _ c.bytes_of-5.ensures c.maybe_acl-3.ensures in
    rule_there s c.args.at c.in_ok-r.r w _ _ _ _ _ _ _ _ _ _ c.in_ok-applies.ensures c.in_ok-effective.ensures c.in_ok-alien.ensures
    c.in_ok-staged.ensures c.in_ok-alien-2.ensures a e d t y
