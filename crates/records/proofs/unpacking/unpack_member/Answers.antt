-- `unpack_member`: what the identity comes to, alone or with what the attribute word comes to after it.
-- Assumes nothing.
use Prim.Native.Nat.{◌+◌, ◌*◌, ◌≤◌}
use mathlib.Core.Path.{sym, ◌∙◌}
use native.Mathlib.Omega.{arith}
use lib.ListN.{length}
use Rattle.records.specs.Unpacking.{members_room}
use Rattle.records.proofs.UnpackLaws.{word_refused, word_done}
use Rattle.records.proofs.StepLaws.{member_refused, member_worded, room_worded}
use Rattle.records.proofs.RoomLaws.{room_for, number_past}
use Rattle.records.proofs.unpacking.unpack_member.Goals as goal
use Rattle.records.proofs.unpacking.unpack_member.Goals.{In_ok-a}

-- identity and word together: within the room of a member, and at most four bytes written for each byte read
few : (c : In_ok-a) → c.in_ok-w.w.to + 4 ≤ c.args.o + members_room c.args.attrs 1
few c =
    let f = c.in_ok-w.ensures.within.few in
    omega (arith, f, room_worded c.args.attrs c.if-not-attrs.false)

fourfold : (c : In_ok-a) → c.in_ok-w.w.to + 4 + 4 * c.args.at ≤ c.args.o + 4 * c.in_ok-a.a.next
fourfold c =
    let f = c.in_ok-w.ensures.within.fourfold in
    omega (arith, f, number_past 32 _ _ c.in_ok-a.a c.in_ok-a.ensures.value)

room : (c : In_ok-a) → c.in_ok-w.w.to + 4 ≤ length c.args.out.now
room c = room_for c.requires c.in_ok-a.a.next c.in_ok-a.ensures.value_bound.1 (fourfold c) (few c)

pub returns-in_err-w-clause-out_after : goal.returns-in_err-w-clause-out_after
returns-in_err-w-clause-out_after c =
    rw c.from_residual.ensures (sym (member_refused c.args.attrs _ _ _ _ c.in_err-w.ensures.out_after))

pub returns-in_err-a-clause-out_after : goal.returns-in_err-a-clause-out_after
returns-in_err-a-clause-out_after c =
    let d = member_worded c.args.attrs _ _ _ _ _ c.in_ok-w.w c.in_ok-w.ensures.out_after c.if-not-attrs.false in
    rw c.from_residual-in_err-a.ensures (sym (d ∙ word_refused _ _ _ _ c.in_err-a.ensures.value))

pub put_attributes-requires : goal.put_attributes-requires
put_attributes-requires c = omega (arith, room (goal.at.put_attributes-requires c).In_ok-a)

pub overflow_add-result : goal.overflow_add-result
overflow_add-result c = omega (arith, room (goal.at.overflow_add-result c).In_ok-a)

pub returns-clause-out_after : goal.returns-clause-out_after
returns-clause-out_after c =
    let d = member_worded c.args.attrs _ _ _ _ _ c.in_ok-w.w c.in_ok-w.ensures.out_after c.if-not-attrs.false in
    rw c.put_attributes.ensures (sym (d ∙ word_done _ _ _ _ c.in_ok-a.a c.in_ok-a.ensures.value))

pub returns-clause-within : goal.returns-clause-within
returns-clause-within c =
    let z = goal.at.returns-clause-within c in
    record { few = few z.In_ok-a; fourfold = fourfold z.In_ok-a }
