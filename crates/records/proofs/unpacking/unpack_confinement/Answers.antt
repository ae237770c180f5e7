-- `unpack_confinement`: what the capabilities come to after the identity and the count.
-- Assumes nothing.
use mathlib.Core.Path.{◌≡◌, sym, ◌∙◌}
use mathlib.Core.Bool.{false}
use native.Mathlib.Omega.{arith}
use lib.ListN.{length}
use Rattle.records.specs.Unpacking.{copied, member_copied, capabilities_copied, confinement_copied}
use Rattle.records.proofs.UnpackLaws.{counted_refused, counted_done}
use Rattle.records.proofs.StepLaws.{after_refused, after_done}
use Rattle.records.proofs.RoomLaws.{Counted, room_left, room_same, counted_room, within_after, limited_past}
use Rattle.records.proofs.unpacking.unpack_confinement.Goals as goal
use Rattle.records.proofs.unpacking.unpack_confinement.Goals.{In_ok-n}

-- the count after the identity
counted : (c : In_ok-n) → Counted (length c.args.out.now) c.args.o c.args.at c.in_ok-w.w c.in_ok-n.n
counted c =
    let past = limited_past 64 _ _ c.in_ok-n.n c.in_ok-n.ensures.value in
    counted_room c.requires (omega arith) c.in_ok-w.ensures.within past c.in_ok-n.ensures.value_le_most.1

pub returns-in_err-w-clause-out_after : goal.returns-in_err-w-clause-out_after
unfolding confinement_copied
returns-in_err-w-clause-out_after c =
    rw c.from_residual.ensures (sym (after_refused _ _ _ (capabilities_copied _) c.in_err-w.ensures.out_after))

pub returns-in_err-n-clause-out_after : goal.returns-in_err-n-clause-out_after
unfolding confinement_copied
returns-in_err-n-clause-out_after c =
    let d = after_done _ _ _ _ c.in_ok-w.w c.in_ok-w.ensures.out_after (capabilities_copied _) in
    rw c.from_residual-in_err-n.ensures
    (sym (d ∙ counted_refused 64 _ _ (λ k. copied (member_copied false) k _) _ _ c.in_err-n.ensures.value))

pub put_little-requires : goal.put_little-requires
put_little-requires c = omega (arith, (counted (goal.at.put_little-requires c).In_ok-n).inside)

pub overflow_add-w : goal.overflow_add-w
overflow_add-w c = omega (arith, (counted (goal.at.overflow_add-w c).In_ok-n).inside)

pub unpack_members-requires : goal.unpack_members-requires
unpack_members-requires c =
    let k = counted (goal.at.unpack_members-requires c).In_ok-n in
    let few = c.in_ok-n.ensures.value_le_most.0 in
    let long : length c.put_little.new.out ≡ length c.args.out.now = omega arith in
    room_same long (room_left c.requires k.fourfold (omega (arith, k.few, few)))

pub returns-clause-out_after : goal.returns-clause-out_after
unfolding confinement_copied
returns-clause-out_after c =
    let d = after_done _ _ _ _ c.in_ok-w.w c.in_ok-w.ensures.out_after (capabilities_copied _) in
    let e = counted_done 64 _ _ (λ k. copied (member_copied false) k _) _ _ c.in_ok-n.n c.in_ok-n.ensures.value in
    c.unpack_members.ensures.out_after ∙ rw c.put_little.ensures (sym (d ∙ e))

pub returns-clause-within : goal.returns-clause-within
returns-clause-within c =
    let k = counted (goal.at.returns-clause-within c).In_ok-n in
    let few = c.in_ok-n.ensures.value_le_most.0 in
    within_after k.fourfold (omega (arith, k.few, few)) c.unpack_members.ensures.within
