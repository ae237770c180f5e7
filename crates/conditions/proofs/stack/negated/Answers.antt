-- `negated` meets its contract, by what the lowest digits stand for. Assumes nothing.
use mathlib.Core.Path.{◌≡◌, ◌∙◌}
use native.Mathlib.Omega.{arith}
use Rattle.std.specs.Prelude.{Err}
use Rattle.conditions.proofs.StackLaws.{negated_fault, negated_truth}
use Rattle.conditions.proofs.stack.negated.Goals as goal

pub returns-in_err-b : goal.returns-in_err-b
returns-in_err-b c =
    λ st q.
    let a = c.args in
    let up : c.from_residual.result ≡ Err c.in_err-b.field-0.0 = grind arith in
    up ∙ negated_fault a.word a.next c.in_err-b.field-0.0 c.in_err-b.ensures st q

pub returns : goal.returns
returns c =
    λ st q.
    let a = c.args in
    negated_truth a.word a.next c.in_ok-b.b _ c.in_ok-b.ensures c.push.ensures st q
