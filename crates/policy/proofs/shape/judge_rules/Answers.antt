-- `policy::shape::judge_rules` meets its contract. The loop's invariant: the standing of all rules is that of the rules that are left,
-- after something unread was met or not. Assumes nothing.
use mathlib.Core.Path.{sym, ap, ◌∙◌}
use mathlib.Core.Bool.{Bool, cond}
use native.Mathlib.Omega.{arith}
use Rattle.policy.specs.Standing.{judged}
use Rattle.policy.specs.Standing.Standing.{Sound, Unread}
use Rattle.policy.proofs.PolicySteps.{rules_end, rules_over, rules_broken, rules_more}
use Rattle.policy.proofs.shape.judge_rules.Goals as goal

pub returns-in_default : goal.returns-in_default
returns-in_default c =
    let l = c.loop in
    sym
    (ap judged
    (l.invariant
    ∙ rules_broken c.args.s.now l.unread c.args.n l.counter l.at (omega arith) (sym c.in_default.is ∙ c.rule_at.ensures.value)))

pub loop-preserved : goal.loop-preserved
loop-preserved c =
    let l = c.loop in
    l.invariant
    ∙ rules_more c.args.s.now l.unread c.args.n l.counter l.at c.in-Some.r (omega arith) (sym c.in-Some.is ∙ c.rule_at.ensures.value)

pub returns-then-at-s : goal.returns-then-at-s
returns-then-at-s c =
    let l = c.loop in
    sym (ap judged (l.invariant ∙ rules_over c.args.s.now l.unread c.args.n l.counter l.at (omega arith) c.if-at-s.true))

pub returns-then-unread : goal.returns-then-unread
returns-then-unread c =
    let l = c.loop in
    sym
    (ap judged
    (l.invariant
    ∙ rules_end c.args.s.now l.unread c.args.n l.counter l.at (omega arith) (omega arith)
    ∙ ap (λ (t : Bool). cond t Unread Sound) c.if-unread.true))

pub returns : goal.returns
returns c =
    let l = c.loop in
    sym
    (ap judged
    (l.invariant
    ∙ rules_end c.args.s.now l.unread c.args.n l.counter l.at (omega arith) (omega arith)
    ∙ ap (λ (t : Bool). cond t Unread Sound) c.if-unread.false))
