-- `composite` meets its contract: what it encloses comes first, and then the stack. Assumes nothing.
use mathlib.Core.Path.{◌≡◌, sym, ap, ◌∙◌}
use native.Mathlib.Omega.{arith}
use Rattle.std.specs.Prelude.{Err}
use Rattle.conditions.specs.Condition.{enclosed_end}
use Rattle.conditions.specs.Stack.{step_of}
use Rattle.base.proofs.FoundLaws.{none_found}
use Rattle.conditions.proofs.StackLaws.{composite_broken, composite_fault, composite_plain}
use Rattle.conditions.proofs.condition.composite.Goals as goal

pub returns-in_default : goal.returns-in_default
returns-in_default c =
    λ st q.
    let a = c.args in
    sym (ap step_of (composite_broken a.s.now a.at st (none_found (enclosed_end a.s.now a.at) (sym c.in_default.is ∙ c.enclosed_end.ensures.value))))

pub returns-in_err-literals : goal.returns-in_err-literals
returns-in_err-literals c =
    λ st q.
    let a = c.args in
    let up : c.from_residual.result ≡ Err c.in_err-literals.field-0.0 = grind arith in
    up ∙ composite_fault a.s.now a.at c.in-Some.e c.in-Some.ensures.value st c.in_err-literals.field-0.0 c.in_err-literals.ensures

pub returns : goal.returns
returns c =
    λ st q.
    let a = c.args in
    c.push.ensures st q ∙ composite_plain a.s.now a.at c.in-Some.e c.in-Some.ensures.value st c.in_ok-literals.field-0 c.in_ok-literals.ensures
