-- `paired` meets its contract, by what the lowest digits stand for. Assumes nothing.
use mathlib.Core.Path.{◌≡◌, ap, ◌∙◌}
use mathlib.Core.Bool.{Bool}
use native.Mathlib.Omega.{arith}
use Rattle.std.specs.Prelude.{Err}
use Rattle.conditions.specs.Condition.{push}
use Rattle.conditions.specs.Condition.Item.{truth}
use Rattle.conditions.specs.Stack.{step_of}
use Rattle.conditions.proofs.StackLaws.{paired_first, paired_second, paired_truths}
use Rattle.conditions.proofs.stack.paired.Goals as goal

pub returns-in_err-b : goal.returns-in_err-b
returns-in_err-b c =
    λ st q.
    let a = c.args in
    let up : c.from_residual.result ≡ Err c.in_err-b.field-0.0 = grind arith in
    up ∙ paired_first a.every a.word a.next c.in_err-b.field-0.0 c.in_err-b.ensures st q

pub returns-in_err-a : goal.returns-in_err-a
returns-in_err-a c =
    λ st q.
    let a = c.args in
    let up : c.from_residual-in_err-a.result ≡ Err c.in_err-a.field-0.0 = grind arith in
    up ∙ paired_second a.every a.word a.next c.in_err-a.field-0.0 c.in_ok-b.b c.in_ok-b.ensures c.in_err-a.ensures st q

pub returns : goal.returns
returns c =
    λ st q.
    let a = c.args in
    paired_truths a.every a.word a.next c.in_ok-b.b c.in_ok-a.a _ c.in_ok-b.ensures c.in_ok-a.ensures
    (λ st k. c.push.ensures st k ∙ ap (λ (x : Bool). step_of (push a.next (truth x) st)) c.joined.ensures) st q
