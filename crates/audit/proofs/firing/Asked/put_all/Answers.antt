-- `put_all` meets its contract: the rules' events come after those of the descriptor's SACL. Assumes nothing.
-- the bytes of all events
use mathlib.Core.Path.{◌≡◌, sym}
use mathlib.Core.List.{List, ◌++◌}
use native.Mathlib.Omega.{arith}
use Prim.Native.Nat.{ℕ}
use Rattle.passes.specs.Crowds.{shown_in}
use Rattle.policy.specs.ByLengths.{rules_by_lengths}
use Rattle.audit.specs.Events.{events_in, rules_events, events_of}
use Rattle.audit.specs.Trail.{trail_bytes}
use Rattle.audit.proofs.NotingLaws.{noted_both, noted_same, room_same, room_first, room_second}
use Rattle.audit.proofs.PuttingSteps.{all_events}
use Rattle.audit.proofs.firing.Asked.put_all.Goals as goal
use Rattle.audit.proofs.firing.Asked.put_all.Goals.{Start}

abbrev whole : Start → List ℕ
whole z =
    let a = z.args in
    trail_bytes
    (events_of a.self.sought (shown_in a.self.crowd) a.self.crowd.hits a.sacl.now
    (rules_by_lengths a.policy.now))

-- the bytes of the descriptor's events, and of the rules'
abbrev first : Start → List ℕ
first z =
    let a = z.args in
    trail_bytes (events_in a.self.sought (shown_in a.self.crowd) a.self.crowd.hits 0 a.sacl.now)

abbrev second : Start → List ℕ
second z =
    let a = z.args in
    trail_bytes
    (rules_events a.self.sought (shown_in a.self.crowd) a.self.crowd.hits 1 (rules_by_lengths a.policy.now))

-- one after the other
parted : (z : Start) → whole z ≡ first z ++ second z
parted z =
    let a = z.args in
    all_events a.self.sought (shown_in a.self.crowd) a.self.crowd.hits a.sacl.now
    (rules_by_lengths a.policy.now)

pub put_list-o-requires : goal.put_list-o-requires
put_list-o-requires c =
    let out = c.args.out.now in
    (omega arith, room_first out 0 (first (goal.at.put_list-o-requires c).Start) (second (goal.at.put_list-o-requires c).Start) (room_same out 0 (parted (goal.at.put_list-o-requires c).Start) c.requires))

pub put_rules-requires : goal.put_rules-requires
put_rules-requires c =
    let e = c.put_list-o.ensures in
    (omega (arith, e.upper_bound), room_second {v = first (goal.at.put_rules-requires c).Start} (second (goal.at.put_rules-requires c).Start) e.noted (room_same c.args.out.now 0 (parted (goal.at.put_rules-requires c).Start) c.requires))

pub returns : goal.returns
returns c = noted_same (sym (parted (goal.at.returns c).Start)) (noted_both {v = first (goal.at.returns c).Start} {w = second (goal.at.returns c).Start} c.put_list-o.ensures.noted c.put_rules.ensures)
