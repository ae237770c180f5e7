-- `stages_audit` meets its contract. The loop's invariant: some rule stages audit that differs if one that is left does. Assumes nothing.
use mathlib.Core.Path.{◌≡◌}
use Rattle.passes.specs.Crowds.{shown_in}
use Rattle.policy.specs.ByLengths.{rules_by_lengths}
use Rattle.policy.specs.Walking.{rules_left}
use Rattle.audit.specs.Events.{stages_audit}
use Rattle.audit.proofs.firing.Asked.stages_audit.Given as goal

abbrev pub invariant-loop-r : goal.invariant-loop-r
invariant-loop-r l =
    (goal.iterator-loop-r).can_next l.r-iterator
    × (goal.iterator-loop-r).is_finite l.r-iterator
    × (stages_audit l.self.sought (shown_in l.self.crowd) l.self.crowd.hits (rules_by_lengths l.s)
    ≡ stages_audit l.self.sought (shown_in l.self.crowd) l.self.crowd.hits (rules_left l.r-iterator))
    × (l.r-iterator.policy.now ≡ l.s)
