-- `unpack_record` meets its contract: each way out is a field that is not there, and the last is what the people come to after flags and
-- privileges.
-- Assumes nothing.
use Prim.Native.Nat.{◌≤◌}
use mathlib.Core.Path.{◌≡◌, ◌∙◌}
use native.Mathlib.Omega.{arith}
use borrow.Author.Tests.{eqb-true}
use lib.Dec.{eqb}
use lib.ListN.{length}
use lib.Seq.{sets}
use Rattle.base.specs.Bytes.{little}
use Rattle.base.proofs.BoolLaws.{both}
use Rattle.records.proofs.RecordAnswer.{Heading, record_unversioned, record_version, record_flags, record_privileges, record_refused_lem}
use Rattle.records.proofs.RecordAnswer.{record_longer, record_done, record_keeping}
use Rattle.records.proofs.StepLaws.{step_refused, step_done}
use Rattle.records.proofs.RoomLaws.{room_left, room_for, room_same, number_past, limited_past}
use Rattle.records.proofs.CleanLaws.{done_from}
use Rattle.records.proofs.unpacking.unpack_record.Goals as goal
use Rattle.records.proofs.unpacking.unpack_record.Goals.{In_ok-p, After-put_little-2}

-- ---- version, flags and privileges

heading : (c : In_ok-p) → Heading c.args.s.now c.in_ok-version.version c.in_ok-flags.flags c.in_ok-p.p
heading c = record {
  version = c.in_ok-version.ensures.value;
  one = c.if-version-ne1.false;
  flags = c.in_ok-flags.ensures.value;
  privileges = c.in_ok-p.ensures.value;
}

-- they are three bytes at least
past : (c : In_ok-p) → 3 ≤ c.in_ok-p.p.next
past c =
    let h = heading c in
    let v = number_past 32 _ _ _ h.version in
    let f = limited_past 3 _ _ _ h.flags in
    let p = number_past 64 _ _ _ h.privileges in
    omega (arith, v, f, p)

-- there is room for flags and privileges
room : (c : In_ok-p) → 12 ≤ length c.args.out.now
room c = room_for c.requires c.in_ok-p.p.next c.in_ok-p.ensures.value_bound.1 (omega (arith, past c)) (omega arith)

-- the buffer with flags and privileges in it
made : (c : After-put_little-2) →
    c.put_little-2.new.out ≡ sets (sets c.args.out.now 0 (little 4 c.in_ok-flags.flags.value)) 4 (little 8 c.in_ok-p.p.value)
made c = c.put_little-2.ensures ∙ rw c.put_little.ensures

pub returns-in_err-version-clause-unpacks : goal.returns-in_err-version-clause-unpacks
returns-in_err-version-clause-unpacks c = rw c.from_residual.ensures (record_unversioned _ _ _ c.in_err-version.ensures.value)

pub returns-then-version-ne1-clause-unpacks : goal.returns-then-version-ne1-clause-unpacks
returns-then-version-ne1-clause-unpacks c =
    record_version _ _ _ c.in_ok-version.version c.in_ok-version.ensures.value c.if-version-ne1.true

pub returns-in_err-flags-clause-unpacks : goal.returns-in_err-flags-clause-unpacks
returns-in_err-flags-clause-unpacks c =
    rw c.from_residual-in_err-flags.ensures (record_flags _ _ _ c.in_ok-version.version c.in_ok-version.ensures.value
    c.if-version-ne1.false c.in_err-flags.ensures.value)

pub returns-in_err-p-clause-unpacks : goal.returns-in_err-p-clause-unpacks
returns-in_err-p-clause-unpacks c =
    rw c.from_residual-in_err-p.ensures (record_privileges _ _ _ c.in_ok-version.version c.in_ok-version.ensures.value
    c.if-version-ne1.false c.in_ok-flags.flags c.in_ok-flags.ensures.value c.in_err-p.ensures.value)

pub put_little-requires : goal.put_little-requires
put_little-requires c = omega (arith, room (goal.at.put_little-requires c).In_ok-p)

pub put_little-requires-2 : goal.put_little-requires-2
put_little-requires-2 c = omega (arith, room (goal.at.put_little-requires-2 c).In_ok-p)

pub unpack_people-requires : goal.unpack_people-requires
unpack_people-requires c =
    let long : length c.put_little-2.new.out ≡ length c.args.out.now = omega arith in
    room_same long (room_left c.requires (omega (arith, past (goal.at.unpack_people-requires c).In_ok-p)) (omega arith))

-- ---- the people

pub returns-in_err-w-clause-unpacks : goal.returns-in_err-w-clause-unpacks
returns-in_err-w-clause-unpacks c =
    let z = goal.at.returns-in_err-w-clause-unpacks c in
    rw c.from_residual-in_err-w.ensures (record_refused_lem (heading z.In_ok-p) _ _ _ (made z.After-put_little-2)
    (step_refused _ _ _ c.in_err-w.ensures.out_after))

pub returns-then-w-s-clause-unpacks : goal.returns-then-w-s-clause-unpacks
returns-then-w-s-clause-unpacks c =
    let z = goal.at.returns-then-w-s-clause-unpacks c in
    record_longer (heading z.In_ok-p) _ _ _ (made z.After-put_little-2) _ _ (step_done _ _ _ _ c.in_ok-w.w c.in_ok-w.ensures.out_after)
    c.if-w-s.true

pub returns-clause-unpacks : goal.returns-clause-unpacks
returns-clause-unpacks c =
    let z = goal.at.returns-clause-unpacks c in
    record_done (heading z.In_ok-p) _ _ _ (made z.After-put_little-2) _ _ (step_done _ _ _ _ c.in_ok-w.w c.in_ok-w.ensures.out_after)
    c.if-w-s.false

pub returns-clause-length_in_bounds : goal.returns-clause-length_in_bounds
returns-clause-length_in_bounds c =
    let z = goal.at.returns-clause-length_in_bounds c in
    let few = c.in_ok-w.ensures.within.few in
    let fourfold = c.in_ok-w.ensures.within.fourfold in
    let from = done_from _ _ _ _ _ _ (step_done _ _ _ _ c.in_ok-w.w c.in_ok-w.ensures.out_after) in (
      omega (arith, from),
      room_for c.requires c.in_ok-w.w.next (omega arith) (omega (arith, past z.In_ok-p, fourfold)) (omega (arith, few)),
    )

pub returns-clause-read_keeping : goal.returns-clause-read_keeping
returns-clause-read_keeping c = λ x.
    let z = goal.at.returns-clause-read_keeping c in
    let f = c.in_ok-flags.flags.value in
    let b = both (eqb f 0) c.in_ok-w.w.clean x in
    record_keeping (heading z.In_ok-p) _ _ _ (made z.After-put_little-2) _ _ (step_done _ _ _ _ c.in_ok-w.w c.in_ok-w.ensures.out_after)
    c.if-w-s.false (c.in_ok-w.ensures.such (eqb-true f 0 b.0) b.1 _)
