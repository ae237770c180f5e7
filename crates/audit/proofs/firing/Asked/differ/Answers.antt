-- `differ` meets its contract. The loop's invariant: the SACLs' events differ if those that are left do (Apart). Assumes nothing.
use mathlib.Core.Path.{sym, ◌∙◌}
use Rattle.audit.specs.Walking.{events_left, event_of}
use Rattle.audit.proofs.StagingSteps.{apart_fewer, apart_mask, apart_on, apart_end}
use Rattle.audit.proofs.firing.Asked.differ.Goals as goal

pub returns-in_default : goal.returns-in_default
returns-in_default c =
    let l = c.loop-e in
    let none = rw c.in_default.is at c.next-in-loop-e.ensures.steps in
    sym
    (l.invariant.2
    ∙ apart_fewer (events_left l.e-iterator) (events_left l.others) (event_of c.in-Some.e) (events_left c.next.new.self) c.in-Some.ensures.steps
    none)

pub returns-then-e-f : goal.returns-then-e-f
returns-then-e-f c =
    let l = c.loop-e in
    sym
    (l.invariant.2
    ∙ apart_mask (events_left l.e-iterator) (events_left l.others) (event_of c.in-Some.e) (events_left c.next.new.self) c.in-Some.ensures.steps
    (event_of c.in-Some-next.f) (events_left c.next-in-loop-e.new.self) c.in-Some-next.ensures.steps c.if-e-f.true)

pub loop-e-preserved : goal.loop-e-preserved
loop-e-preserved c =
    let l = c.loop-e in (
      tt,
      tt,
      l.invariant.2
          ∙ apart_on (events_left l.e-iterator) (events_left l.others) (event_of c.in-Some.e) (events_left c.next.new.self)
          c.in-Some.ensures.steps (event_of c.in-Some-next.f) (events_left c.next-in-loop-e.new.self) c.in-Some-next.ensures.steps
          c.if-e-f.false,
    )

pub returns : goal.returns
returns c =
    let l = c.loop-e in
    c.is_some.ensures
    ∙ apart_end (events_left l.e-iterator) l.others c.next-2.result c.next-2.new.self c.in-None.ensures.steps c.next-2.ensures.steps
    ∙ sym l.invariant.2
