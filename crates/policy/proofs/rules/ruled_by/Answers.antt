-- `policy::rules::ruled_by` meets its contract. The loop's invariant: what all rules leave is what the rules ahead leave of what is left
-- so far. Assumes nothing.
use Prim.Native.Nat.{ℕ}
use mathlib.Core.Path.{sym, ap, ◌∙◌}
use mathlib.Core.List.{List, ◌∷◌}
use Rattle.passes.specs.Crowds.{shown_in}
use Rattle.policy.specs.ByLengths.{lists_by_lengths}
use Rattle.policy.specs.Walking.{rules_left}
use Rattle.policy.proofs.RulesSteps.{left_more, left_none}
use Rattle.policy.proofs.rules.ruled_by.Goals as goal

pub loop-r-preserved : goal.loop-r-preserved
loop-r-preserved c =
    let a = c.args in
    let l = c.loop-r in
    let g = c.in-Some.ensures.steps in
    let e = g.0 ∙ ap (λ (s : List ℕ). lists_by_lengths s c.in-Some.r ∷ rules_left c.next.new.self) l.invariant.3 in (
      tt,
      tt,
      l.invariant.2
          ∙ left_more a.kind (shown_in a.crowd) a.crowd.hits a.privileges l.so_far c.judged-so_far.result (rules_left l.r-iterator)
          (lists_by_lengths a.s.now c.in-Some.r) (rules_left c.next.new.self) e c.judged-so_far.ensures,
      g.1.1 ∙ l.invariant.3,
    )

pub returns : goal.returns
returns c =
    let a = c.args in
    let l = c.loop-r in
    sym
    (l.invariant.2
    ∙ left_none a.kind (shown_in a.crowd) a.crowd.hits a.privileges l.so_far (rules_left l.r-iterator) c.in-None.ensures.steps)
