-- `policy::rules::ruled_by` meets its contract. The loop's invariant: what all rules leave is what the rules ahead leave of what is left
-- so far. Assumes nothing.
use mathlib.Core.Path.{◌≡◌}
use Rattle.passes.specs.Crowds.{shown_in}
use Rattle.policy.specs.Rules.{ruled_by, ruled_from}
use Rattle.policy.specs.ByLengths.{rules_by_lengths}
use Rattle.policy.specs.Walking.{rules_left}
use Rattle.policy.proofs.rules.ruled_by.Given as goal

abbrev pub invariant-loop-r : goal.invariant-loop-r
invariant-loop-r l =
    (goal.iterator-loop-r).can_next l.r-iterator
    × (goal.iterator-loop-r).is_finite l.r-iterator
    × (ruled_by l.kind (shown_in l.crowd) l.crowd.hits l.privileges (rules_by_lengths l.s)
    ≡ ruled_from l.kind (shown_in l.crowd) l.crowd.hits l.privileges l.so_far (rules_left l.r-iterator))
    × (l.r-iterator.policy.now ≡ l.s)
