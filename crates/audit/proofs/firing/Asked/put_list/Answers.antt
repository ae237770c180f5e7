-- `put_list` meets its contract. The loop's invariant: noting all events at `o` is noting those that are left at `to` (Ahead). Assumes
-- nothing.
use mathlib.Core.Path.{◌≡◌, sym, ap}
use native.Mathlib.Omega.{arith}
use lib.ListN.{length}
use Rattle.std.proofs.Common.{rules}
use Rattle.passes.specs.Crowds.{shown_in}
use Rattle.audit.specs.Events.{events_in}
use Rattle.audit.specs.Trail.{event_bytes, trail_bytes}
use Rattle.audit.specs.Walking.{events_left, event_of}
use Rattle.audit.proofs.NotingLaws.{ahead_start, ahead_room, ahead_step, ahead_done}
use Rattle.audit.proofs.PuttingSteps.{trail_nil, trail_cons}
use Rattle.audit.proofs.firing.Asked.put_list.Goals as goal

pub loop-e-init : goal.loop-e-init
loop-e-init c =
    let a = c.args in
    let k = a.self in
    let i : c.into_iter-e-iterator.result ≡ c.of-e-items.result = search rules in
    let g : events_left c.into_iter-e-iterator.result ≡ events_in k.sought (shown_in k.crowd) k.crowd.hits a.source a.list.now
    = rw i c.of-e-items.ensures.left in (
      tt,
      tt,
      ahead_start a.write a.out.now a.o _ _ (ap trail_bytes (sym g)),
      rw i (omega (arith, c.of-e-items.ensures.few)),
    )

pub put_event-to-requires : goal.put_event-to-requires
put_event-to-requires c =
    let l = c.loop-e in (
      omega (arith, l.invariant.3, c.requires.0),
      ahead_room l.invariant.2 (event_bytes (event_of c.in-Some.e)) (trail_bytes (events_left c.next.new.self))
          (trail_cons (events_left l.e-iterator) (event_of c.in-Some.e) (events_left c.next.new.self) c.in-Some.ensures.steps)
          c.requires.1,
    )

pub loop-e-preserved : goal.loop-e-preserved
loop-e-preserved c =
    let l = c.loop-e in (
      tt,
      tt,
      ahead_step l.invariant.2 (event_bytes (event_of c.in-Some.e)) (trail_bytes (events_left c.next.new.self))
          (trail_cons (events_left l.e-iterator) (event_of c.in-Some.e) (events_left c.next.new.self) c.in-Some.ensures.steps)
          c.put_event-to.ensures.noted,
      omega (arith, l.invariant.3, c.put_event-to.ensures.upper_bound, ap length c.in-Some.ensures.steps),
    )

pub returns-clause-noted : goal.returns-clause-noted
returns-clause-noted c = ahead_done c.loop-e.invariant.2 (trail_nil (events_left c.loop-e.e-iterator) c.in-None.ensures.steps)
