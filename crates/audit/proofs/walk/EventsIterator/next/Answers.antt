-- `Events::next` meets its contract. The loop's invariant: the events of all entries are those of the entries ahead. The measure is how many
-- entries are ahead. Assumes nothing.
use mathlib.Core.Path.{sym, ap, ◌∙◌}
use lib.ListN.{length}
use Rattle.std.proofs.Common.{rules}
use Rattle.passes.specs.Crowds.{shown_in}
use Rattle.audit.specs.Walking.{events_left}
use Rattle.audit.proofs.WalkingLaws.{events_over, events_stop, events_other, events_passed, events_here}
use Rattle.audit.proofs.walk.EventsIterator.next.Goals as goal

pub returns-in_err-read-clause-steps : goal.returns-in_err-read-clause-steps
unfolding events_left
returns-in_err-read-clause-steps c =
    let l = c.loop-self.self in
    let a = l.asked in
    let e =
    c.loop-self.invariant
    ∙ events_stop a.sought (shown_in a.crowd) a.crowd.hits l.source l.list.now l.count l.entry l.place c.loop-self-test.true
    c.in_err-read.ensures.value in
    rw c.from_residual.ensures e

pub returns-then-fires-clause-steps : goal.returns-then-fires-clause-steps
unfolding events_left
returns-then-fires-clause-steps c =
    let l = c.loop-self.self in
    let a = l.asked in
    c.loop-self.invariant
    ∙ events_here a.sought (shown_in a.crowd) a.crowd.hits l.source l.list.now l.count l.entry l.place c.loop-self-test.true c.in_ok-read.read
    c.in_ok-read.ensures.value c.in-Some.x c.in-Some.is (sym c.fires.ensures ∙ c.if-fires.true)

pub returns-then-fires-clause-goes : goal.returns-then-fires-clause-goes
unfolding events_left
returns-then-fires-clause-goes c =
    let l = c.loop-self.self in
    let a = l.asked in
    let step =
    c.loop-self.invariant
    ∙ events_here a.sought (shown_in a.crowd) a.crowd.hits l.source l.list.now l.count l.entry l.place c.loop-self-test.true c.in_ok-read.read
    c.in_ok-read.ensures.value c.in-Some.x c.in-Some.is (sym c.fires.ensures ∙ c.if-fires.true) in
    let shorter = ap length step in
    search rules

pub loop-self-preserved-else-fires : goal.loop-self-preserved-else-fires
unfolding events_left
loop-self-preserved-else-fires c =
    let l = c.loop-self.self in
    let a = l.asked in
    c.loop-self.invariant
    ∙ events_passed a.sought (shown_in a.crowd) a.crowd.hits l.source l.list.now l.count l.entry l.place c.loop-self-test.true c.in_ok-read.read
    c.in_ok-read.ensures.value c.in-Some.x c.in-Some.is (sym c.fires.ensures ∙ c.if-fires.false)

pub loop-self-preserved : goal.loop-self-preserved
unfolding events_left
loop-self-preserved c =
    let l = c.loop-self.self in
    let a = l.asked in
    c.loop-self.invariant
    ∙ events_other a.sought (shown_in a.crowd) a.crowd.hits l.source l.list.now l.count l.entry l.place c.loop-self-test.true c.in_ok-read.read
    c.in_ok-read.ensures.value c.in_default.is

pub returns-clause-steps : goal.returns-clause-steps
unfolding events_left
returns-clause-steps c =
    let l = c.loop-self.self in
    let a = l.asked in
    c.loop-self.invariant
    ∙ events_over a.sought (shown_in a.crowd) a.crowd.hits l.source l.list.now l.count l.entry l.place c.loop-self-test.false
