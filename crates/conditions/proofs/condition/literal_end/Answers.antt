-- `literal_end` meets its contract: what the length encloses is a SID. Assumes nothing.
use mathlib.Core.Path.{sym, ◌∙◌}
use Rattle.conditions.specs.Condition.{enclosed_end, literal_end}
use Rattle.base.proofs.FoundLaws.{found_none, none_found}
use Rattle.conditions.proofs.OperandLaws.{literal_none, literal_yes, literal_no}
use Rattle.conditions.proofs.condition.literal_end.Goals as goal

pub returns-in_err-e-clause-value : goal.returns-in_err-e-clause-value
returns-in_err-e-clause-value c =
    let a = c.args in
    c.from_residual.ensures
    ∙ found_none (literal_end a.s.now a.at) (literal_none a.s.now a.at (none_found (enclosed_end a.s.now a.at) c.in_err-e.ensures.value))

pub returns-then-is_sid-clause-value : goal.returns-then-is_sid-clause-value
returns-then-is_sid-clause-value c =
    literal_yes c.args.s.now c.args.at c.in_ok-e.e c.in_ok-e.ensures.value (sym c.is_sid.ensures ∙ c.if-is_sid.true)

pub returns-else-is_sid-clause-value : goal.returns-else-is_sid-clause-value
returns-else-is_sid-clause-value c =
    literal_no c.args.s.now c.args.at c.in_ok-e.e c.in_ok-e.ensures.value (sym c.is_sid.ensures ∙ c.if-is_sid.false)
