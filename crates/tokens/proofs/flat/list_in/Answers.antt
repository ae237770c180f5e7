-- `list_in` answers what unpacking told of the token rules, or what the judge says of what was unpacked, which is what it says of the
-- record.
-- Assumes nothing.
use Prim.Native.Nat.{ℕ, ◌≤◌}
use mathlib.Core.Path.{◌≡◌, refl, sym, ap, ◌∙◌}
use mathlib.Core.Bool.{true}
use mathlib.Core.List.{List}
use native.Mathlib.Omega.{arith}
use lib.ListN.{length}
use Rattle.std.proofs.lemmas.Result.{err_from_is_err_and}
use Rattle.base.proofs.BytesLaws.{bytes_of_lt, part_front}
use Rattle.records.specs.TokenRecord.{read_record}
use Rattle.records.specs.FlatListing.{read_listing}
use Rattle.records.specs.Unpacking.{room_fits}
use Rattle.tokens.specs.Judging.{judged_of}
use Rattle.tokens.specs.Answers.{number_of}
use Rattle.tokens.proofs.ConvertLaws.{unpacked_holding, kept_extent, empty_extent, filled_fit, judged_unlisted, judged_listed, refused_some}
use Rattle.tokens.proofs.flat.list_in.Goals as goal

pub returns-then-has_room-clause-value : goal.returns-then-has_room-clause-value
returns-then-has_room-clause-value c =
    let a = c.args in
    let long : length c.unpack.new.out ≡ length a.room.now = omega arith in
    let fit : room_fits (length a.room.now) (length a.s.now) ≡ true =
    sym (c.has_room.ensures ∙ ap (λ (n : ℕ). room_fits n (length a.s.now)) long) ∙ c.if-has_room.true in
    empty_extent (length a.room.now) a.s.now a.room.now c.unpack.new.out fit c.in_default.ensures.unpacked

pub returns-then-has_room-clause-room_after : goal.returns-then-has_room-clause-room_after
returns-then-has_room-clause-room_after c = unpacked_holding _ _ _ _ c.in_default.ensures.unpacked

pub returns-in_default-clause-room_after : goal.returns-in_default-clause-room_after
returns-in_default-clause-room_after c = unpacked_holding _ _ _ _ c.in_default.ensures.unpacked

pub returns-then-u-clause-value : goal.returns-then-u-clause-value
returns-then-u-clause-value c =
    let a = c.args in
    kept_extent (room_fits (length a.room.now) (length a.s.now)) (read_record a.s.now) _ _ c.in-Some.u.length
    (c.in-Some.ensures.read_keeping c.if-u.true) c.in-Some.ensures.unpacked

pub returns-then-u-clause-room_after : goal.returns-then-u-clause-room_after
returns-then-u-clause-room_after c = unpacked_holding _ _ _ _ c.in-Some.ensures.unpacked

pub returns-in_err-confined_at-clause-value : goal.returns-in_err-confined_at-clause-value
returns-in_err-confined_at-clause-value c =
    let a = c.args in
    let n = c.in-Some.u.length in
    let fit = filled_fit (room_fits (length a.room.now) (length a.s.now)) (read_record a.s.now) _ _ n c.in-Some.ensures.unpacked
    c.in-Some.ensures.length_in_bounds.0 in
    let bound = c.in-Some.ensures.length_in_bounds.1 in
    let inside : n ≤ length c.unpack.new.out = omega (arith, bound) in
    let e = c.in_err-confined_at.field-0.0 in
    let p = err_from_is_err_and c.from_residual.result c.from_residual.ensures.1 in
    rw (p.1, p.2) (judged_unlisted a.s.now a.room.now _ n (record { status = number_of e; confined_at = 0 })
    (bytes_of_lt a.s.now (λ i l. (c.type_inv.s i).fits)) inside fit c.in-Some.ensures.unpacked
    (c.in_err-confined_at.ensures.value ∙ ap (λ (l : List ℕ). judged_of (read_listing l)) (sym (part_front c.unpack.new.out n))) (refused_some e))

pub returns-in_err-confined_at-clause-room_after : goal.returns-in_err-confined_at-clause-room_after
returns-in_err-confined_at-clause-room_after c = unpacked_holding _ _ _ _ c.in-Some.ensures.unpacked

pub returns-clause-value : goal.returns-clause-value
returns-clause-value c =
    let a = c.args in
    let n = c.in-Some.u.length in
    let fit = filled_fit (room_fits (length a.room.now) (length a.s.now)) (read_record a.s.now) _ _ n c.in-Some.ensures.unpacked
    c.in-Some.ensures.length_in_bounds.0 in
    let bound = c.in-Some.ensures.length_in_bounds.1 in
    let inside : n ≤ length c.unpack.new.out = omega (arith, bound) in
    judged_listed a.s.now a.room.now _ n (record { status = 0; confined_at = c.in_ok-confined_at.confined_at })
    (bytes_of_lt a.s.now (λ i l. (c.type_inv.s i).fits)) inside fit c.in-Some.ensures.unpacked
    (c.in_ok-confined_at.ensures.value ∙ ap (λ (l : List ℕ). judged_of (read_listing l)) (sym (part_front c.unpack.new.out n))) refl

pub returns-clause-room_after : goal.returns-clause-room_after
returns-clause-room_after c = unpacked_holding _ _ _ _ c.in-Some.ensures.unpacked
