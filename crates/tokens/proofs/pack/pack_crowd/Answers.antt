-- `pack_crowd` meets its contract: the identity, the count and the members, written one after the other. Assumes nothing.
use Prim.Native.Nat.{◌+◌}
use mathlib.Core.Path.{refl, sym, ◌∙◌}
use mathlib.Core.List.{◌++◌}
use native.Mathlib.Omega.{arith}
use Rattle.base.specs.Bytes.{u32_at, part}
use Rattle.base.specs.Sevens.{packed}
use Rattle.base.proofs.WriteLaws.{room_first, room_after_lem, wrote_append, wrote_same}
use Rattle.sids.proofs.SidLaws.{sid_of_part}
use Rattle.records.specs.TokenRecord.{pack_identity}
use Rattle.records.specs.Packing.{members_bytes}
use Rattle.records.proofs.PackLaws.{starts, crowd_is, crowd_end_is, crowd_members}
use Rattle.tokens.proofs.pack.pack_crowd.Goals as goal

pub slice_bounds-w-count : goal.slice_bounds-w-count
slice_bounds-w-count c = omega (arith, starts c.args.s.now c.args.at.from c.identity_end-e.result c.identity_end-e.ensures.value c.requires.0.identity)

pub slice_bounds-w-start : goal.slice_bounds-w-start
slice_bounds-w-start c = starts c.args.s.now c.args.at.from c.identity_end-e.result c.identity_end-e.ensures.value c.requires.0.identity

pub pack_identity-a-requires : goal.pack_identity-a-requires
pack_identity-a-requires c =
    let n = u32_at c.args.s.now c.identity_end-e.result in
    let room = rw (crowd_is c.args.attrs c.args.s.now c.args.at.from c.identity_end-e.result n c.identity_end-e.ensures.value refl) at c.requires.1 in
    let ms = members_bytes c.args.attrs n c.args.s.now (c.identity_end-e.result + 4) in (
      sid_of_part c.args.s.now c.args.at.from c.identity_end-e.result (sym c.identity_end-e.ensures.value) (λ q. c.requires.0.identity (sym c.identity_end-e.ensures.value ∙ q)),
      room_first c.args.at.to _ (pack_identity (part c.args.s.now c.args.at.from c.identity_end-e.result)) (packed n ++ ms) room,
    )

pub put-to-requires : goal.put-to-requires
put-to-requires c =
    let room =
    rw (crowd_is c.args.attrs c.args.s.now c.args.at.from c.identity_end-e.result c.u32_at-n.result c.identity_end-e.ensures.value c.u32_at-n.ensures) at c.requires.1 in
    let ms = members_bytes c.args.attrs c.u32_at-n.result c.args.s.now (c.identity_end-e.result + 4) in
    rw c.from.ensures (room_first _ _ (packed c.u32_at-n.result) ms (room_after_lem (packed c.u32_at-n.result ++ ms) c.pack_identity-a.ensures room))

pub pack_members-requires : goal.pack_members-requires
pack_members-requires c =
    let room =
    rw (crowd_is c.args.attrs c.args.s.now c.args.at.from c.identity_end-e.result c.u32_at-n.result c.identity_end-e.ensures.value c.u32_at-n.ensures) at c.requires.1 in
    let ms = members_bytes c.args.attrs c.u32_at-n.result c.args.s.now (c.identity_end-e.result + 4) in (
      crowd_members _ _ _ _ _ c.identity_end-e.ensures.value c.u32_at-n.ensures c.requires.0,
      room_after_lem ms (rw c.from.ensures at c.put-to.ensures) (room_after_lem (packed c.u32_at-n.result ++ ms) c.pack_identity-a.ensures room),
    )

pub returns : goal.returns
returns c =
    record {
      wrote = wrote_same (sym (crowd_is _ _ _ _ _ c.identity_end-e.ensures.value c.u32_at-n.ensures))
          (wrote_append c.pack_identity-a.ensures (wrote_append (rw c.from.ensures at c.put-to.ensures) c.pack_members.ensures.wrote));
      from_value = c.pack_members.ensures.from_value ∙ sym (crowd_end_is _ _ _ _ _ c.identity_end-e.ensures.value c.u32_at-n.ensures);
    }
