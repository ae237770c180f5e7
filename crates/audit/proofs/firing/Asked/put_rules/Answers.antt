-- `put_rules` meets its contract. The loop's invariant: noting all events at `o` is noting those of the rules that are left at `to` (Ahead).
-- Assumes nothing.
use Prim.Native.Nat.{ℕ, ◌+◌}
use mathlib.Core.Path.{◌≡◌, ap, ◌∙◌}
use mathlib.Core.List.{List, ◌∷◌, ◌++◌}
use native.Mathlib.Omega.{arith}
use Rattle.passes.specs.Crowds.{shown_in}
use Rattle.policy.specs.ByLengths.{lists_by_lengths}
use Rattle.policy.specs.Walking.{rules_left}
use Rattle.audit.specs.Events.{rule_events, rules_events}
use Rattle.audit.specs.Trail.{trail_bytes}
use Rattle.audit.proofs.NotingLaws.{ahead_room, ahead_step, ahead_done}
use Rattle.audit.proofs.PuttingSteps.{rules_nil, rules_cons}
use Rattle.audit.proofs.firing.Asked.put_rules.Goals as goal
use Rattle.audit.proofs.firing.Asked.put_rules.Goals.{In-Some}

-- one rule more, as the walk gave it
one_more : (c : In-Some) →
    trail_bytes
    (rules_events c.args.self.sought (shown_in c.args.self.crowd) c.args.self.crowd.hits (c.loop-r.source + 1) (rules_left c.loop-r.r-iterator))
    ≡ trail_bytes
    (rule_events c.args.self.sought (shown_in c.args.self.crowd) c.args.self.crowd.hits (c.loop-r.source + 1)
    (lists_by_lengths c.args.s.now c.in-Some.r))
    ++ trail_bytes
    (rules_events c.args.self.sought (shown_in c.args.self.crowd) c.args.self.crowd.hits (c.loop-r.source + 1 + 1) (rules_left c.next.new.self))
one_more c =
    let k = c.args.self in
    rules_cons k.sought (shown_in k.crowd) k.crowd.hits (c.loop-r.source + 1) (rules_left c.loop-r.r-iterator) _ (rules_left c.next.new.self)
    (c.in-Some.ensures.steps.0
    ∙ ap (λ (s : List ℕ). lists_by_lengths s c.in-Some.r ∷ rules_left c.next.new.self) c.loop-r.invariant.3)

pub put_rule-to-requires-clause-o_bound : goal.put_rule-to-requires-clause-o_bound
put_rule-to-requires-clause-o_bound c =
    let l = c.loop-r in
    (omega arith, ahead_room l.invariant.2 _ _ (one_more (goal.at.put_rule-to-requires-clause-o_bound c).In-Some) c.requires.1)

pub loop-r-preserved : goal.loop-r-preserved
loop-r-preserved c =
    let l = c.loop-r in
    let g = c.in-Some.ensures.goes.on tt in (
      tt,
      tt,
      ahead_step l.invariant.2 _ _ (one_more (goal.at.loop-r-preserved c).In-Some) c.put_rule-to.ensures.noted,
      c.in-Some.ensures.steps.1.1 ∙ l.invariant.3,
      omega (arith, g.2, l.invariant.4),
      omega (arith, l.invariant.5, c.put_rule-to.ensures.upper_bound),
    )

pub returns : goal.returns
returns c =
    let k = c.args.self in
    let l = c.loop-r in
    ahead_done l.invariant.2
    (rules_nil k.sought (shown_in k.crowd) k.crowd.hits (l.source + 1) (rules_left l.r-iterator) c.in-None.ensures.steps)
