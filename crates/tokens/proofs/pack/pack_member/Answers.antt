-- `pack_member` meets its contract: the part up to the place where the SID ends is one SID, and its word stands there. Assumes nothing.
use mathlib.Core.Path.{sym, ◌∙◌}
use native.Mathlib.Omega.{arith}
use Rattle.base.specs.Sevens.{packed}
use Rattle.base.proofs.WriteLaws.{room_after_lem, wrote_append, wrote_same}
use Rattle.sids.proofs.SidLaws.{sid_of_part}
use Rattle.records.proofs.PackLaws.{starts, member_word, member_plain, member_room, member_end_word, member_end_plain}
use Rattle.tokens.proofs.pack.pack_member.Goals as goal

pub slice_bounds-w-count : goal.slice_bounds-w-count
slice_bounds-w-count c = omega (arith, starts c.args.s.now c.args.at.from c.identity_end-e.result c.identity_end-e.ensures.value c.requires.0)

pub slice_bounds-w-start : goal.slice_bounds-w-start
slice_bounds-w-start c = starts c.args.s.now c.args.at.from c.identity_end-e.result c.identity_end-e.ensures.value c.requires.0

pub pack_identity-to-requires : goal.pack_identity-to-requires
pack_identity-to-requires c = (
  sid_of_part c.args.s.now c.args.at.from c.identity_end-e.result (sym c.identity_end-e.ensures.value) (λ q. c.requires.0 (sym c.identity_end-e.ensures.value ∙ q)),
  member_room c.args.attrs c.args.s.now c.args.at.from c.identity_end-e.result c.args.at.to _ c.identity_end-e.ensures.value c.requires.1,
)

pub returns-then-not-attrs : goal.returns-then-not-attrs
returns-then-not-attrs c =
    let t = c.if-not-attrs.true in
    record { wrote = wrote_same (sym (member_plain _ _ _ _ t c.identity_end-e.ensures.value)) c.pack_identity-to.ensures; from_value = member_end_plain _ _ _ _ t c.identity_end-e.ensures.value }

pub pack_attributes-requires : goal.pack_attributes-requires
pack_attributes-requires c =
    let t = c.if-not-attrs.false in
    let m = member_word c.args.attrs c.args.s.now c.args.at.from c.identity_end-e.result c.u32_at.result t c.identity_end-e.ensures.value c.u32_at.ensures in
    room_after_lem (packed c.u32_at.result) c.pack_identity-to.ensures (rw m at c.requires.1)

pub returns : goal.returns
returns c =
    let t = c.if-not-attrs.false in
    record {
      wrote = wrote_same (sym (member_word _ _ _ _ _ t c.identity_end-e.ensures.value c.u32_at.ensures))
          (wrote_append c.pack_identity-to.ensures c.pack_attributes.ensures);
      from_value = member_end_word _ _ _ _ t c.identity_end-e.ensures.value;
    }
