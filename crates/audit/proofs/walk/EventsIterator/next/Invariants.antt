-- `Events::next` meets its contract. The loop's invariant: the events of all entries are those of the entries ahead. The measure is how many
-- entries are ahead. Assumes nothing.
use Prim.Native.Nat.{◌-◌}
use mathlib.Core.Path.{◌≡◌}
use Rattle.audit.specs.Walking.{events_left}
use Rattle.audit.proofs.walk.EventsIterator.next.Given as goal

abbrev pub invariant-loop-self : goal.invariant-loop-self
invariant-loop-self l = events_left l.initial.self ≡ events_left l.self

abbrev pub decreases-loop-self : goal.decreases-loop-self
decreases-loop-self l = l.self.count - l.self.entry
