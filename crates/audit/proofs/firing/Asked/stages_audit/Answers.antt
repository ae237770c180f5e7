-- `stages_audit` meets its contract. The loop's invariant: some rule stages audit that differs if one that is left does. Assumes nothing.
use Prim.Native.Nat.{ℕ}
use mathlib.Core.Path.{sym, ap, ◌∙◌}
use mathlib.Core.List.{List, ◌∷◌}
use Rattle.passes.specs.Crowds.{shown_in}
use Rattle.policy.specs.ByLengths.{lists_by_lengths}
use Rattle.policy.specs.Walking.{rules_left}
use Rattle.audit.proofs.StagingSteps.{left_none, left_stages, left_more}
use Rattle.audit.proofs.firing.Asked.stages_audit.Goals as goal

pub returns-then-rule_stages : goal.returns-then-rule_stages
returns-then-rule_stages c =
    let k = c.args.self in
    let l = c.loop-r in
    let e =
    c.in-Some.ensures.steps.0
    ∙ ap (λ (s : List ℕ). lists_by_lengths s c.in-Some.r ∷ rules_left c.next.new.self) l.invariant.3 in
    sym
    (l.invariant.2
    ∙ left_stages k.sought (shown_in k.crowd) k.crowd.hits (rules_left l.r-iterator) (lists_by_lengths c.args.s.now c.in-Some.r)
    (rules_left c.next.new.self) e (sym c.rule_stages.ensures ∙ c.if-rule_stages.true))

pub loop-r-preserved : goal.loop-r-preserved
loop-r-preserved c =
    let k = c.args.self in
    let l = c.loop-r in
    let e =
    c.in-Some.ensures.steps.0
    ∙ ap (λ (s : List ℕ). lists_by_lengths s c.in-Some.r ∷ rules_left c.next.new.self) l.invariant.3 in (
      tt,
      tt,
      l.invariant.2
          ∙ left_more k.sought (shown_in k.crowd) k.crowd.hits (rules_left l.r-iterator) (lists_by_lengths c.args.s.now c.in-Some.r)
          (rules_left c.next.new.self) e (sym c.rule_stages.ensures ∙ c.if-rule_stages.false),
      c.in-Some.ensures.steps.1.1 ∙ l.invariant.3,
    )

pub returns : goal.returns
returns c =
    let k = c.args.self in
    let l = c.loop-r in
    sym (l.invariant.2 ∙ left_none k.sought (shown_in k.crowd) k.crowd.hits (rules_left l.r-iterator) c.in-None.ensures.steps)
