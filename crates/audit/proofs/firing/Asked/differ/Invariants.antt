-- `differ` meets its contract. The loop's invariant: the SACLs' events differ if those that are left do (Apart). Assumes nothing.
use mathlib.Core.Path.{◌≡◌}
use Rattle.passes.specs.Crowds.{shown_in}
use Rattle.audit.specs.Events.{audits_differ}
use Rattle.audit.specs.Walking.{events_left}
use Rattle.audit.proofs.StagingSteps.{Apart}
use Rattle.audit.proofs.firing.Asked.differ.Given as goal

abbrev pub invariant-loop-e : goal.invariant-loop-e
invariant-loop-e l =
    (goal.iterator-loop-e).can_next l.e-iterator
    × (goal.iterator-loop-e).is_finite l.e-iterator
    × (audits_differ l.self.sought (shown_in l.self.crowd) l.self.crowd.hits l.one l.two ≡ Apart (events_left l.e-iterator) (events_left l.others))
