-- `test` meets its contract, by the lowest digit. Assumes nothing.
use mathlib.Core.Path.{sym, ap}
use native.Mathlib.Omega.{arith}
use Rattle.conditions.specs.Condition.{told_by}
use Rattle.conditions.specs.Stack.{step_of}
use Rattle.conditions.proofs.StackLaws.{answered_other, answered_list, word_in}
use Rattle.conditions.proofs.condition.test.Goals as goal

pub returns-then-m-ne3 : goal.returns-then-m-ne3
returns-then-m-ne3 g c =
    λ st q.
    let a = c.args in
    let w = word_in a.m st q in
    sym (ap step_of (answered_other (told_by (g.T.Tests.told a.who.now) a.s.now a.b st) a.next st (λ e. c.if-m-ne3.true (omega arith))))

pub returns : goal.returns
returns g c =
    λ st q.
    let a = c.args in
    answered_list (g.T.Tests.told a.who.now) a.s.now a.b a.next a.m _ _ c.tell-told.ensures c.push.ensures c.if-m-ne3.false st q
