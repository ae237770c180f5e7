-- `put_rules` meets its contract. The loop's invariant: noting all events at `o` is noting those of the rules that are left at `to` (Ahead).
-- Assumes nothing.
use Prim.Native.Nat.{◌+◌, ◌*◌, ◌^◌, ◌≤◌, ◌<◌}
use mathlib.Core.Path.{◌≡◌}
use Rattle.passes.specs.Crowds.{shown_in}
use Rattle.policy.specs.ByLengths.{rules_by_lengths}
use Rattle.policy.specs.Walking.{rules_left}
use Rattle.audit.specs.Events.{rules_events}
use Rattle.audit.specs.Trail.{trail_bytes}
use Rattle.audit.proofs.NotingLaws.{Ahead}
use Rattle.audit.proofs.firing.Asked.put_rules.Given as goal

abbrev pub invariant-loop-r : goal.invariant-loop-r
invariant-loop-r l =
    (goal.iterator-loop-r).can_next l.r-iterator
    × (goal.iterator-loop-r).is_finite l.r-iterator
    × Ahead l.write l.initial.out l.o
    (trail_bytes (rules_events l.self.sought (shown_in l.self.crowd) l.self.crowd.hits 1 (rules_by_lengths l.s))) l.out l.to
    (trail_bytes (rules_events l.self.sought (shown_in l.self.crowd) l.self.crowd.hits (l.source + 1) (rules_left l.r-iterator)))
    × (l.r-iterator.policy.now ≡ l.s)
    × (l.source + l.r-iterator.ahead < 2 ^ 32)
    × (l.to ≤ 30 * 65536 * (l.source + 1))
