-- `to_record` meets its contract: what the judge refuses is refused; where the buffer is twice as long as the listing the record is packed
-- there, and else in a room that is. Assumes nothing.
use Prim.Native.Nat.{ℕ, ◌≤◌}
use mathlib.Core.Path.{refl, ap}
use native.Mathlib.Omega.{arith}
use lib.ListN.{length}
use Rattle.std.proofs.lemmas.Result.{err_from_is_err_and}
use Rattle.base.proofs.BytesLaws.{bytes_of_lt}
use Rattle.base.proofs.WriteLaws.{wrote_length}
use Rattle.records.specs.Packing.{record_bytes}
use Rattle.tokens.specs.Answers.{number_of}
use Rattle.tokens.specs.Judging.{Judged}
use Rattle.tokens.proofs.ConvertLaws.{refused_some}
use Rattle.tokens.proofs.ToRecordLaws.{judged_packable, judged_short, judged_twice, record_of_lem, fitted_refused, fitted_within}
use Rattle.tokens.proofs.pack.to_record.Goals as goal

pub returns-in_err-judge : goal.returns-in_err-judge
returns-in_err-judge c =
    let a = c.args in
    let b = bytes_of_lt a.s.now (λ i l. (c.type_inv.s i).fits) in
    let e = c.in_err-judge.field-0.0 in
    let p = err_from_is_err_and c.from_residual.result c.from_residual.ensures.1 in
    let j : Judged = record { status = number_of e; confined_at = 0 } in
    let f = fitted_refused a.s.now j b c.in_err-judge.ensures.value (length a.out.now) (refused_some e) in
    record { value = rw (p.1, p.2, f); out_after = rw f }

pub pack-requires : goal.pack-requires
pack-requires c =
    let a = c.args in
    let b = bytes_of_lt a.s.now (λ i l. (c.type_inv.s i).fits) in
    let j : Judged = record { status = 0; confined_at = c.in_ok-judge.field-0 } in
    let w = judged_twice a.s.now j b c.in_ok-judge.ensures.value refl in
    let k : length (record_bytes a.s.now) ≤ length a.out.now = omega (arith, c.if-s-out.true) in
    (judged_packable a.s.now j b c.in_ok-judge.ensures.value refl, k)

pub returns-then-s-out : goal.returns-then-s-out
returns-then-s-out c =
    let a = c.args in
    let b = bytes_of_lt a.s.now (λ i l. (c.type_inv.s i).fits) in
    let j : Judged = record { status = 0; confined_at = c.in_ok-judge.field-0 } in
    let w = judged_twice a.s.now j b c.in_ok-judge.ensures.value refl in
    let n = wrote_length c.pack.ensures in
    let k : c.pack.result ≤ length a.out.now = omega (arith, c.if-s-out.true) in
    let e = record_of_lem a.s.now j b c.in_ok-judge.ensures.value refl in
    let f = fitted_within (length a.out.now) c.pack.result (record_bytes a.s.now) n k in
    record { value = rw (e, f) (ap (λ (m : ℕ). record { status = 0; length = m }) n); out_after = rw (e, f) c.pack.ensures.bytes }

pub packed_in_room-requires : goal.packed_in_room-requires
packed_in_room-requires c =
    let a = c.args in
    let b = bytes_of_lt a.s.now (λ i l. (c.type_inv.s i).fits) in
    let j : Judged = record { status = 0; confined_at = c.in_ok-judge.field-0 } in
    let w = judged_twice a.s.now j b c.in_ok-judge.ensures.value refl in
    let k : length (record_bytes a.s.now) ≤ 2048 = omega (arith, c.if-s-le1024.true) in
    (omega arith, judged_packable a.s.now j b c.in_ok-judge.ensures.value refl, k)

pub returns-then-s-le1024 : goal.returns-then-s-le1024
returns-then-s-le1024 c =
    let a = c.args in
    let b = bytes_of_lt a.s.now (λ i l. (c.type_inv.s i).fits) in
    let e = record_of_lem a.s.now (record { status = 0; confined_at = c.in_ok-judge.field-0 }) b c.in_ok-judge.ensures.value refl in
    record { value = rw e c.packed_in_room.ensures.value; out_after = rw e c.packed_in_room.ensures.out_after }

pub packed_in_room-requires-2 : goal.packed_in_room-requires-2
packed_in_room-requires-2 c =
    let a = c.args in
    let b = bytes_of_lt a.s.now (λ i l. (c.type_inv.s i).fits) in
    let j : Judged = record { status = 0; confined_at = c.in_ok-judge.field-0 } in
    (omega arith, judged_packable a.s.now j b c.in_ok-judge.ensures.value refl, judged_short a.s.now j b c.in_ok-judge.ensures.value refl)

pub returns : goal.returns
returns c =
    let a = c.args in
    let b = bytes_of_lt a.s.now (λ i l. (c.type_inv.s i).fits) in
    let e = record_of_lem a.s.now (record { status = 0; confined_at = c.in_ok-judge.field-0 }) b c.in_ok-judge.ensures.value refl in
    record { value = rw e c.packed_in_room-2.ensures.value; out_after = rw e c.packed_in_room-2.ensures.out_after }
