-- `put_list` meets its contract. The loop's invariant: noting all events at `o` is noting those that are left at `to` (Ahead). Assumes
-- nothing.
use Prim.Native.Nat.{◌+◌, ◌*◌, ◌≤◌}
use lib.ListN.{length}
use Rattle.passes.specs.Crowds.{shown_in}
use Rattle.audit.specs.Events.{events_in}
use Rattle.audit.specs.Trail.{trail_bytes}
use Rattle.audit.specs.Walking.{events_left}
use Rattle.audit.proofs.NotingLaws.{Ahead}
use Rattle.audit.proofs.firing.Asked.put_list.Given as goal

abbrev pub invariant-loop-e : goal.invariant-loop-e
invariant-loop-e l =
    (goal.iterator-loop-e).can_next l.e-iterator
    × (goal.iterator-loop-e).is_finite l.e-iterator
    × Ahead l.write l.initial.out l.o (trail_bytes (events_in l.self.sought (shown_in l.self.crowd) l.self.crowd.hits l.source l.list)) l.out l.to
    (trail_bytes (events_left l.e-iterator))
    × (l.to + 30 * length (events_left l.e-iterator) ≤ l.o + 30 * 65536)
