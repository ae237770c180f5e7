-- `unpack_members`: what the members that are left come to from here is what all came to from the start, and there is room for them.
-- While clean, no group is virtual if none of those that are left is.
-- Assumes nothing.
use Prim.Native.Nat.{◌+◌, ◌-◌, ◌<◌}
use mathlib.Core.Path.{◌≡◌, refl, sym, ◌∙◌}
use native.Mathlib.Omega.{arith}
use Rattle.base.proofs.BoolLaws.{both}
use Rattle.records.proofs.UnpackLaws.{copied_none, copied_refused, copied_done}
use Rattle.records.proofs.StepLaws.{step_refused, step_done, room_more}
use Rattle.records.proofs.RoomLaws.{room_left, room_same}
use Rattle.records.proofs.CleanLaws.{groups_none, groups_more}
use Rattle.records.proofs.unpacking.unpack_members.Goals as goal

pub loop-init : goal.loop-init
loop-init c =
    let z : c.args.n - 0 ≡ c.args.n = omega arith in
    rw z (omega arith, omega arith, c.requires, refl, λ a e x. x)

pub unpack_member-requires : goal.unpack_member-requires
unpack_member-requires c =
    let m = room_more c.args.attrs (c.args.n - c.loop.counter) (omega arith) in
    room_same c.loop.auto.out (room_left c.loop.invariant.2 (omega arith) (omega (arith, m)))

pub returns-in_err-w-clause-out_after : goal.returns-in_err-w-clause-out_after
returns-in_err-w-clause-out_after c =
    let t : 0 < c.args.n - c.loop.counter = omega arith in
    let d = step_refused _ _ _ c.in_err-w.ensures.out_after in
    rw c.from_residual.ensures (sym (c.loop.invariant.3 ∙ copied_refused _ _ _ _ _ _ t d))

pub loop-preserved : goal.loop-preserved
loop-preserved c =
    let i = c.loop.invariant in
    let t : 0 < c.args.n - c.loop.counter = omega arith in
    let less : c.args.n - (c.loop.counter + 1) ≡ c.args.n - c.loop.counter - 1 = omega arith in
    let d = step_done _ _ _ _ c.in_ok-w.w c.in_ok-w.ensures.out_after in
    let m = room_more c.args.attrs (c.args.n - c.loop.counter) t in
    let few = c.in_ok-w.ensures.within.few in
    let fourfold = c.in_ok-w.ensures.within.fourfold in
    rw less (
      omega (arith, i.0, few, m),
      omega (arith, i.1, fourfold),
      room_left i.2 (omega (arith, fourfold)) (omega (arith, few, m)),
      i.3 ∙ copied_done _ _ _ _ _ _ _ _ _ t d,
      λ a e x.
          i.4 a (both c.loop.clean c.in_ok-w.w.clean e).0
          (groups_more c.args.attrs _ _ _ _ _ _ _ _ a t d (c.in_ok-w.ensures.such (both c.loop.clean c.in_ok-w.w.clean e).1) x),
    )

pub returns-clause-out_after : goal.returns-clause-out_after
returns-clause-out_after c = sym (c.loop.invariant.3 ∙ copied_none _ _ _ _ _ _ (omega arith))

pub returns-clause-within : goal.returns-clause-within
returns-clause-within c = let i = c.loop.invariant in record { few = omega (arith, i.0); fourfold = i.1 }

pub returns-clause-such : goal.returns-clause-such
returns-clause-such c = λ a e. c.loop.invariant.4 a e (groups_none _ _ _ (omega arith))
