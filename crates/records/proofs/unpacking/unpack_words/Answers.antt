-- `unpack_words`: what the words that are left come to from here is what all came to from the start, and there is room for them.
-- Assumes nothing.
use Prim.Native.Nat.{◌+◌, ◌-◌, ◌<◌, ◌≤◌}
use mathlib.Core.Path.{◌≡◌, refl, sym, ◌∙◌}
use native.Mathlib.Omega.{arith}
use lib.ListN.{length}
use Rattle.records.proofs.UnpackLaws.{copied_none, copied_refused, copied_done, word_refused, word_done}
use Rattle.records.proofs.RoomLaws.{room_left, room_for, number_past}
use Rattle.records.proofs.unpacking.unpack_words.Goals as goal
use Rattle.records.proofs.unpacking.unpack_words.Goals.{In_ok-w}

-- there is room for the word that was read
room : (c : In_ok-w) → c.loop.to + 4 ≤ length c.args.out.now
room c =
    let past = number_past 32 _ _ c.in_ok-w.w c.in_ok-w.ensures.value in
    room_for c.loop.invariant.2 c.in_ok-w.w.next c.in_ok-w.ensures.value_bound.1 (omega (arith, past)) (omega arith)

pub loop-init : goal.loop-init
loop-init c =
    let z : c.args.n - 0 ≡ c.args.n = omega arith in
    rw z (omega arith, omega arith, c.requires, refl)

pub returns-in_err-w-clause-out_after : goal.returns-in_err-w-clause-out_after
returns-in_err-w-clause-out_after c =
    let t : 0 < c.args.n - c.loop.counter = omega arith in
    rw c.from_residual.ensures (sym (c.loop.invariant.3 ∙ copied_refused _ _ _ _ _ _ t (word_refused _ _ _ _ c.in_err-w.ensures.value)))

pub put_little-requires : goal.put_little-requires
put_little-requires c = omega (arith, room (goal.at.put_little-requires c).In_ok-w)

pub overflow_add-to : goal.overflow_add-to
overflow_add-to c = omega (arith, room (goal.at.overflow_add-to c).In_ok-w)

pub loop-preserved : goal.loop-preserved
loop-preserved c =
    let i = c.loop.invariant in
    let t : 0 < c.args.n - c.loop.counter = omega arith in
    let less : c.args.n - (c.loop.counter + 1) ≡ c.args.n - c.loop.counter - 1 = omega arith in
    let d = copied_done _ _ _ _ _ _ _ _ _ t (word_done _ _ _ _ c.in_ok-w.w c.in_ok-w.ensures.value) in
    let past = number_past 32 _ _ c.in_ok-w.w c.in_ok-w.ensures.value in (
      omega arith,
      omega (arith, past),
      room_left i.2 (omega (arith, past)) (omega arith),
      rw (less, c.put_little.ensures) (i.3 ∙ d),
    )

pub returns-clause-out_after : goal.returns-clause-out_after
returns-clause-out_after c = sym (c.loop.invariant.3 ∙ copied_none _ _ _ _ _ _ (omega arith))

pub returns-clause-within : goal.returns-clause-within
returns-clause-within c = record { few = omega arith; fourfold = omega arith }
