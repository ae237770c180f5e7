-- `pack_members` meets its contract. The loop's invariant: writing all members at the first place is writing those that are left at the
-- place reached (Left), which stand there. Assumes nothing.
use Prim.Native.Nat.{◌+◌, ◌-◌, ◌<◌}
use mathlib.Core.Path.{◌≡◌, refl, sym, ◌∙◌}
use native.Mathlib.Omega.{arith}
use Rattle.base.proofs.WriteLaws.{left_start, left_long, left_room, left_step, left_done}
use Rattle.records.specs.Packing.{member_bytes, member_end, members_bytes}
use Rattle.records.proofs.PackLaws.{members_none, members_more, members_end_none, members_end_more, stand_first, stand_more}
use Rattle.tokens.proofs.pack.pack_members.Goals as goal

pub loop-init : goal.loop-init
loop-init c =
    let p = c.requires in
    let z : c.args.n - 0 ≡ c.args.n = omega arith in
    rw z (left_start _ _ _, p.0, refl, p.1)

pub pack_member-p-requires : goal.pack_member-p-requires
pack_member-p-requires c =
    let i = c.loop.invariant in
    let more = c.args.n - c.loop.counter in
    let t : 0 < more = omega arith in
    let s = c.args.s.now in
    let attrs = c.args.attrs in
    let from = c.loop.p.from in (
      stand_first _ _ _ _ t i.1,
      left_room i.0 (member_bytes attrs s from) (members_bytes attrs (more - 1) s (member_end attrs s from))
          (members_more attrs more s from (member_end attrs s from) t refl)
          i.3,
    )

pub loop-preserved : goal.loop-preserved
loop-preserved c =
    let i = c.loop.invariant in
    let t : 0 < c.args.n - c.loop.counter = omega arith in
    let less : c.args.n - (c.loop.counter + 1) ≡ c.args.n - c.loop.counter - 1 = omega arith in
    let e = c.pack_member-p.ensures.from_value in
    rw less (
      left_step i.0 _ _ (members_more _ _ _ _ _ t e) c.pack_member-p.ensures.wrote,
      stand_more _ _ _ _ t i.1 _ e,
      i.2 ∙ members_end_more _ _ _ _ _ t e,
      i.3,
    )

pub shape_of-out : goal.shape_of-out
shape_of-out c = let i = c.loop.invariant in left_long i.0

pub returns : goal.returns
returns c =
    let i = c.loop.invariant in
    record { wrote = left_done i.0 (members_none _ _ _ _ (omega arith)); from_value = sym (i.2 ∙ members_end_none _ _ _ _ (omega arith)) }
