-- `policy::walk::rule_by_lengths` meets its contract: each section begins where the one before it ends. Assumes nothing.
use Rattle.policy.specs.ByLengths.{rule_by_lengths}
use Rattle.policy.proofs.SectionSteps.{again}
use Rattle.policy.proofs.walk.rule_by_lengths.Goals as goal

pub returns-clause-value : goal.returns-clause-value
unfolding rule_by_lengths
returns-clause-value c =
    let s = c.args.s.now in
    let a = again s c.args.at _ _ c.section_at.ensures.value c.unwrap_or-applies.ensures in
    let b = again s _ _ _ c.section_at-2.ensures.value c.unwrap_or-effective.ensures in
    let d = again s _ _ _ c.section_at-3.ensures.value c.unwrap_or-sacl.ensures in
    let e = again s _ _ _ c.section_at-4.ensures.value c.unwrap_or-staged.ensures in
    let f = again s _ _ _ c.section_at-5.ensures.value c.unwrap_or-staged_sacl.ensures in
    rw (← a, ← b, ← d, ← e, ← f)
