-- `policy::sections::acl_section` meets its contract: one law for each way out. Assumes nothing.
use mathlib.Core.Path.{sym, ap, ◌∙◌}
use native.Mathlib.Omega.{arith}
use Rattle.conditions.specs.Scanning.{scan_result}
use Rattle.policy.proofs.SectionSteps.{acl_none, acl_other, acl_whole}
use Rattle.policy.proofs.sections.acl_section.Goals as goal

pub returns-in_default : goal.returns-in_default
returns-in_default c = rw (acl_none c.args.deep c.args.l.now (sym c.in_default.is ∙ c.acl_end.ensures.value))

pub returns-then-e-l : goal.returns-then-e-l
returns-then-e-l c = rw (acl_other c.args.deep c.args.l.now c.in-Some.e (sym c.in-Some.is ∙ c.acl_end.ensures.value) c.if-e-l.true)

pub returns : goal.returns
returns c =
    c.scan_entries.ensures
    ∙ ap scan_result
    (sym (acl_whole c.args.deep c.args.l.now c.in-Some.e (sym c.in-Some.is ∙ c.acl_end.ensures.value) (omega arith)))
