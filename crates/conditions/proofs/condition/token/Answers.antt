-- `token` meets its contract: each way out is the token that the tests found. Assumes nothing.
use mathlib.Core.Path.{sym, ap, ◌∙◌}
use native.Mathlib.Omega.{arith}
use Rattle.base.specs.Bytes.{byte_at}
use Rattle.conditions.specs.Condition.{told_by}
use Rattle.conditions.specs.Stack.{step_of}
use Rattle.conditions.proofs.StackLaws.{word_in}
use Rattle.conditions.proofs.StepLaws.{asks_some, step_literal, step_composite, step_asks, step_both, step_either, step_not, step_foreign}
use Rattle.conditions.proofs.condition.token.Goals as goal

pub returns-in-81 : goal.returns-in-81
returns-in-81 g c =
    λ st q.
    let a = c.args in
    let told = told_by (g.T.Tests.told a.who.now) a.s.now (byte_at a.s.now a.at) st in
    c.literal.ensures st (word_in a.m st q) ∙ sym (ap step_of (step_literal told a.s.now a.at st c.in-81.is))

pub returns-in-80 : goal.returns-in-80
returns-in-80 g c =
    λ st q.
    let a = c.args in
    let told = told_by (g.T.Tests.told a.who.now) a.s.now (byte_at a.s.now a.at) st in
    c.composite.ensures st (word_in a.m st q) ∙ sym (ap step_of (step_composite told a.s.now a.at st c.in-80.is))

pub returns-in-160 : goal.returns-in-160
returns-in-160 g c =
    λ st q.
    let a = c.args in
    let told = told_by (g.T.Tests.told a.who.now) a.s.now (byte_at a.s.now a.at) st in
    c.paired.ensures st (word_in a.m st q) ∙ sym (ap step_of (step_both told a.s.now a.at st c.in-160.is))

pub returns-in-161 : goal.returns-in-161
returns-in-161 g c =
    λ st q.
    let a = c.args in
    let told = told_by (g.T.Tests.told a.who.now) a.s.now (byte_at a.s.now a.at) st in
    c.paired-in-161.ensures st (word_in a.m st q) ∙ sym (ap step_of (step_either told a.s.now a.at st c.in-161.is))

pub returns-in-162 : goal.returns-in-162
returns-in-162 g c =
    λ st q.
    let a = c.args in
    let told = told_by (g.T.Tests.told a.who.now) a.s.now (byte_at a.s.now a.at) st in
    c.negated.ensures st (word_in a.m st q) ∙ sym (ap step_of (step_not told a.s.now a.at st c.in-162.is))

pub returns-in-137 : goal.returns-in-137
returns-in-137 g c =
    λ st q.
    let a = c.args in
    let told = told_by (g.T.Tests.told a.who.now) a.s.now (byte_at a.s.now a.at) st in
    let some = asks_some (byte_at a.s.now a.at) (λ x y z. omega arith) in
    c.test.ensures st q ∙ sym (ap step_of (step_asks told a.s.now a.at st (λ z. omega arith) (λ z. omega arith) some))

pub returns-in_default : goal.returns-in_default
returns-in_default g c =
    λ st q.
    let a = c.args in
    let told = told_by (g.T.Tests.told a.who.now) a.s.now (byte_at a.s.now a.at) st in
    sym (ap step_of (step_foreign told a.s.now a.at st (λ z. omega arith) (λ z. omega arith) (λ z. grind arith) (λ z. grind arith)
    (λ z. grind arith) (λ z. grind arith) (λ z. omega arith) (λ z. omega arith) (λ z. omega arith)))
