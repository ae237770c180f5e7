-- `pack` meets its contract: each part of the record is written after the one before it, with room for the rest. Assumes nothing.
use mathlib.Core.Path.{refl, ◌∙◌}
use Rattle.records.proofs.PackRecordLaws.{record_room_1, record_room_2, record_room_3, record_room_4, record_room_5, wrote_plain}
use Rattle.records.proofs.PackRecordLaws.{wrote_confined, flags_plain, flags_confined, rest_stands}
use Rattle.tokens.proofs.ToRecordLaws.{privileges}
use Rattle.tokens.proofs.pack.pack.Goals as goal

pub put-a-requires : goal.put-a-requires
put-a-requires c = record_room_1 _ _ _ refl refl c.args.out.now c.requires.1

pub put-b-requires : goal.put-b-requires
put-b-requires c = rw c.from.ensures (record_room_2 _ _ _ c.u32_at-flags.ensures refl _ c.requires.1 c.put-a.ensures)

pub put-to-requires : goal.put-to-requires
put-to-requires c = record_room_3 _ _ _ c.u32_at-flags.ensures (c.u64_at.ensures ∙ privileges c.args.s.now c.requires.0) _ c.requires.1 c.put-a.ensures (rw c.from.ensures at c.put-b.ensures)

pub pack_crowd-p-requires : goal.pack_crowd-p-requires
pack_crowd-p-requires c = (
  c.requires.0.crowd,
  record_room_4 _ _ _ c.u32_at-flags.ensures (c.u64_at.ensures ∙ privileges c.args.s.now c.requires.0) _ c.requires.1 c.put-a.ensures (rw c.from.ensures at c.put-b.ensures) c.put-to.ensures,
)

pub returns-then-flags-eq0 : goal.returns-then-flags-eq0
returns-then-flags-eq0 c =
    wrote_plain _ _ _ c.u32_at-flags.ensures (c.u64_at.ensures ∙ privileges c.args.s.now c.requires.0)
    _ c.requires.1
    c.put-a.ensures
    (rw c.from.ensures at c.put-b.ensures)
    c.put-to.ensures
    c.pack_crowd-p.ensures.wrote
    (flags_plain c.u32_at-flags.result c.if-flags-eq0.true)

pub pack_crowd-q-requires : goal.pack_crowd-q-requires
pack_crowd-q-requires c =
    let e = c.pack_crowd-p.ensures.from_value in
    let t = flags_confined c.u32_at-flags.result c.if-flags-eq0.false in (
      rest_stands _ _ _ c.requires.0 c.u32_at-flags.ensures e t,
      record_room_5 _ _ _ c.u32_at-flags.ensures (c.u64_at.ensures ∙ privileges c.args.s.now c.requires.0)
          _ c.requires.1
          c.put-a.ensures
          (rw c.from.ensures at c.put-b.ensures)
          c.put-to.ensures
          c.pack_crowd-p.ensures.wrote
          c.pack_crowd-p.result.from e t,
    )

pub returns : goal.returns
returns c =
    let e = c.pack_crowd-p.ensures.from_value in
    let t = flags_confined c.u32_at-flags.result c.if-flags-eq0.false in
    wrote_confined _ _ _ c.u32_at-flags.ensures (c.u64_at.ensures ∙ privileges c.args.s.now c.requires.0)
    _ c.requires.1
    c.put-a.ensures
    (rw c.from.ensures at c.put-b.ensures)
    c.put-to.ensures
    c.pack_crowd-p.ensures.wrote
    _ e t c.pack_crowd-q.ensures.wrote
