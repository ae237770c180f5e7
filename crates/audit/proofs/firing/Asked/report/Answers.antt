-- `report` meets its contract: the first walk changes nothing; where its measure is 0 that is all, and where it fits the second writes as
-- much. Assumes nothing.
-- the bytes of all events
use mathlib.Core.List.{List}
use Prim.Native.Nat.{ℕ}
use Rattle.passes.specs.Crowds.{shown_in}
use Rattle.policy.specs.ByLengths.{rules_by_lengths}
use Rattle.audit.specs.Events.{events_of}
use Rattle.audit.specs.Trail.{trail_bytes}
use Rattle.audit.proofs.NotingLaws.{room_none, measured_room, measured_nothing, measured_none, measured_all}
use Rattle.audit.proofs.firing.Asked.report.Goals as goal
use Rattle.audit.proofs.firing.Asked.report.Goals.{Start}

abbrev whole : Start → List ℕ
whole z =
    let a = z.args in
    trail_bytes
    (events_of a.self.sought (shown_in a.self.crowd) a.self.crowd.hits a.sacl.now
    (rules_by_lengths a.policy.now))

pub put_all-n-requires : goal.put_all-n-requires
put_all-n-requires c = room_none c.args.out.now 0 (whole (goal.at.put_all-n-requires c).Start)

pub returns-then-n-eq0 : goal.returns-then-n-eq0
returns-then-n-eq0 c = let whole = measured_nothing c.put_all-n.ensures c.if-n-eq0.true in record { value = whole.0; written = whole.1 }

pub returns-then-out-n : goal.returns-then-out-n
returns-then-out-n c = let whole = measured_none c.put_all-n.ensures c.if-out-n.true in record { value = whole.0; written = whole.1 }

pub put_all-requires : goal.put_all-requires
put_all-requires c = measured_room c.put_all-n.ensures c.if-out-n.false

pub returns : goal.returns
returns c =
    let whole = measured_all {w = whole (goal.at.returns c).Start} c.put_all-n.ensures c.if-out-n.false c.put_all.ensures in
    record { value = whole.0; written = whole.1 }
