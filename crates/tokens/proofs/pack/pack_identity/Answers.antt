-- `pack_identity` meets its contract: the count, the authority and the words, written one after the other. Assumes nothing.
use mathlib.Core.Path.{refl, sym}
use mathlib.Core.List.{◌++◌}
use native.Mathlib.Omega.{arith}
use Rattle.base.specs.Sevens.{packed}
use Rattle.base.proofs.WriteLaws.{room_first, room_after_lem, wrote_append, wrote_same}
use Rattle.sids.proofs.SidLaws.{sid_shape, is_sid_long}
use Rattle.records.specs.TokenRecord.{packed_words}
use Rattle.records.proofs.PackLaws.{identity_is}
use Rattle.tokens.proofs.pack.pack_identity.Goals as goal

pub bounds-w-1 : goal.bounds-w-1
bounds-w-1 c = omega (arith, is_sid_long c.args.w.now c.requires.0)

pub put-a-requires : goal.put-a-requires
put-a-requires c = room_first _ _ (packed c.from-n.result) _ (rw (identity_is c.args.w.now c.from-n.result _ c.from-n.ensures refl) at c.requires.1)

pub authority-requires : goal.authority-requires
authority-requires c = is_sid_long c.args.w.now c.requires.0

pub put-b-requires : goal.put-b-requires
put-b-requires c =
    let ws = packed_words c.from-n.result c.args.w.now 8 in
    let room = rw (identity_is c.args.w.now c.from-n.result c.authority.result c.from-n.ensures c.authority.ensures) at c.requires.1 in
    room_first _ _ (packed c.authority.result) ws (room_after_lem (packed c.authority.result ++ ws) c.put-a.ensures room)

pub pack_words-requires : goal.pack_words-requires
pack_words-requires c =
    let ws = packed_words c.from-n.result c.args.w.now 8 in
    let room = rw (identity_is c.args.w.now c.from-n.result c.authority.result c.from-n.ensures c.authority.ensures) at c.requires.1 in
    let long = (sid_shape c.args.w.now c.requires.0).long in (
      omega (arith, long, c.from-n.ensures),
      room_after_lem ws c.put-b.ensures (room_after_lem (packed c.authority.result ++ ws) c.put-a.ensures room),
    )

pub returns : goal.returns
returns c =
    wrote_same (sym (identity_is c.args.w.now c.from-n.result c.authority.result c.from-n.ensures c.authority.ensures))
    (wrote_append c.put-a.ensures (wrote_append c.put-b.ensures c.pack_words.ensures))
