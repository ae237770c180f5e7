-- `policy::one_rule::sections_at` meets its contract: each section begins where the one before it ends. Assumes nothing.
use Rattle.policy.specs.Policy.{section_at}
use Rattle.policy.specs.ByLengths.{rule_by_lengths}
use Rattle.policy.proofs.SectionSteps.{fit_none, fit_some}
use Rattle.policy.proofs.one_rule.sections_at.Goals as goal

pub returns-in_err-applies-clause-value : goal.returns-in_err-applies-clause-value
unfolding rule_by_lengths
returns-in_err-applies-clause-value c =
    rw (c.from_residual.ensures, fit_none (section_at c.args.s.now c.args.at) c.in_err-applies.ensures.value)

pub returns-in_err-effective-clause-value : goal.returns-in_err-effective-clause-value
unfolding rule_by_lengths
returns-in_err-effective-clause-value c =
    let a = fit_some _ _ c.in_ok-applies.ensures.value in
    rw (c.from_residual-in_err-effective.ensures, ← a.0, a.1, fit_none _ c.in_err-effective.ensures.value)

pub returns-in_err-sacl-clause-value : goal.returns-in_err-sacl-clause-value
unfolding rule_by_lengths
returns-in_err-sacl-clause-value c =
    let a = fit_some _ _ c.in_ok-applies.ensures.value in
    let b = fit_some _ _ c.in_ok-effective.ensures.value in
    rw (c.from_residual-in_err-sacl.ensures, ← a.0, a.1, ← b.0, b.1, fit_none _ c.in_err-sacl.ensures.value)

pub returns-in_err-staged-clause-value : goal.returns-in_err-staged-clause-value
unfolding rule_by_lengths
returns-in_err-staged-clause-value c =
    let a = fit_some _ _ c.in_ok-applies.ensures.value in
    let b = fit_some _ _ c.in_ok-effective.ensures.value in
    let d = fit_some _ _ c.in_ok-sacl.ensures.value in
    rw (c.from_residual-in_err-staged.ensures, ← a.0, a.1, ← b.0, b.1, ← d.0, d.1, fit_none _ c.in_err-staged.ensures.value)

pub returns-in_err-staged_sacl-clause-value : goal.returns-in_err-staged_sacl-clause-value
unfolding rule_by_lengths
returns-in_err-staged_sacl-clause-value c =
    let a = fit_some _ _ c.in_ok-applies.ensures.value in
    let b = fit_some _ _ c.in_ok-effective.ensures.value in
    let d = fit_some _ _ c.in_ok-sacl.ensures.value in
    let e = fit_some _ _ c.in_ok-staged.ensures.value in
    rw (
      c.from_residual-in_err-staged_sacl.ensures,
      ← a.0,
      a.1,
      ← b.0,
      b.1,
      ← d.0,
      d.1,
      ← e.0,
      e.1,
      fit_none _ c.in_err-staged_sacl.ensures.value,
    )

pub returns-clause-value : goal.returns-clause-value
unfolding rule_by_lengths
returns-clause-value c =
    let a = fit_some _ _ c.in_ok-applies.ensures.value in
    let b = fit_some _ _ c.in_ok-effective.ensures.value in
    let d = fit_some _ _ c.in_ok-sacl.ensures.value in
    let e = fit_some _ _ c.in_ok-staged.ensures.value in
    let f = fit_some _ _ c.in_ok-staged_sacl.ensures.value in
    rw (← a.0, a.1, ← b.0, b.1, ← d.0, d.1, ← e.0, e.1, ← f.0, f.1)
