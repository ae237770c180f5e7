-- `unpack_identity`: each way out is a number that is not there, and the last is what the words come to after the first eight bytes.
-- Where there is one word, its bytes stand in the buffer and tell whether it is clean.
-- Assumes nothing.
use Prim.Native.Nat.{ℕ, ◌+◌, ◌≤◌}
use mathlib.Core.Path.{◌≡◌, sym, ap, ◌∙◌}
use mathlib.Core.List.{List, ◌∷◌}
use native.Mathlib.Omega.{arith}
use borrow.Author.Tests.{not-true}
use lib.ListN.{length}
use lib.Seq.{sets, length-sets}
use Rattle.std.specs.Prelude.{Some}
use Rattle.base.specs.Bytes.{big}
use Rattle.base.specs.Sevens.{number, num_of}
use Rattle.base.specs.declared.sevens.Num.{Num}
use Rattle.records.specs.TokenRecord.{packed_identity}
use Rattle.records.specs.Unpacking.{Outcome, copied, outcome, left, limited, word_at, Within}
use Rattle.records.proofs.UnpackLaws.{identity_uncounted, identity_unnamed, identity_done}
use Rattle.records.proofs.RoomLaws.{room_left, room_for, room_same, within_after, number_past, limited_past}
use Rattle.records.proofs.StepLaws.{step_done}
use Rattle.records.proofs.CleanLaws.{done_from, word_inside, count_plain, told_plain}
use Rattle.records.proofs.unpacking.unpack_identity.Goals as goal
use Rattle.records.proofs.unpacking.unpack_identity.Goals.{In_ok-v, In_ok-w, Else-n-ne1}

module _ (s : List ℕ) (at : ℕ) (n v : Num) (counted : Some n ≡ num_of (limited 15 s at)) (named : Some v ≡ num_of (number 48 s n.next)) where
  -- count and authority are two bytes at least
  past : at + 2 ≤ v.next
  past =
      let p = limited_past 15 s at n counted in
      let q = number_past 48 s n.next v named in
      omega arith

  -- what is left to read after them
  words : (out : List ℕ) (o : ℕ) (head : List ℕ) → head ≡ sets out o (1 ∷ n.value ∷ big 6 v.value) →
      outcome (packed_identity s at) out o ≡ outcome (copied word_at n.value s v.next) head (o + 8)
  words out o head e = rw e (identity_done s at out o n counted v named)

-- there is room for the first eight bytes
room : (c : In_ok-v) → c.args.o + 8 ≤ length c.args.out.now
room c =
    let p = past c.args.s.now c.args.at c.in_ok-n.n c.in_ok-v.v c.in_ok-n.ensures.value c.in_ok-v.ensures.value in
    room_for c.requires c.in_ok-v.v.next c.in_ok-v.ensures.value_bound.1 (omega (arith, p)) (omega arith)

-- what the identity comes to
whole : (c : In_ok-w) → left (Some c.in_ok-w.w) c.unpack_words.new.out ≡ outcome (packed_identity c.args.s.now c.args.at) c.args.out.now c.args.o
whole c =
    c.in_ok-w.ensures.out_after
    ∙ sym (words c.args.s.now c.args.at c.in_ok-n.n c.in_ok-v.v c.in_ok-n.ensures.value c.in_ok-v.ensures.value c.args.out.now c.args.o _
    c.put_head.ensures)

within : (c : In_ok-w) → Within (Some c.in_ok-w.w) c.args.o c.args.at 68
within c =
    let p = past c.args.s.now c.args.at c.in_ok-n.n c.in_ok-v.v c.in_ok-n.ensures.value c.in_ok-v.ensures.value in
    let few = c.in_ok-n.ensures.value_le_most.0 in
    within_after (omega (arith, p)) (omega (arith, few)) c.in_ok-w.ensures.within

-- one word: its bytes stand in the buffer
fits : (c : Else-n-ne1) → Within (Some c.in_ok-w.w) c.args.o c.args.at 68 → c.in_ok-w.w.to ≤ length c.args.out.now
fits c i =
    let all : ℕ → Outcome = λ k. outcome (copied word_at k c.args.s.now c.in_ok-v.v.next) c.put_head.new.out (c.args.o + 8) in
    let e = step_done _ _ _ _ c.in_ok-w.w (c.in_ok-w.ensures.out_after ∙ ap all c.if-n-ne1.false) in
    room_for c.requires c.in_ok-w.w.next (word_inside _ _ _ _ _ _ _ e) i.fourfold i.few

pub returns-in_err-n-clause-out_after : goal.returns-in_err-n-clause-out_after
returns-in_err-n-clause-out_after c = rw c.from_residual.ensures (sym (identity_uncounted _ _ _ _ c.in_err-n.ensures.value))

pub returns-in_err-v-clause-out_after : goal.returns-in_err-v-clause-out_after
returns-in_err-v-clause-out_after c =
    rw c.from_residual-in_err-v.ensures (sym (identity_unnamed _ _ _ _ c.in_ok-n.n c.in_ok-n.ensures.value c.in_err-v.ensures.value))

pub put_head-requires : goal.put_head-requires
put_head-requires c =
    let few = c.in_ok-n.ensures.value_le_most.0 in
    (room (goal.at.put_head-requires c).In_ok-v, omega (arith, few))

pub overflow_add-o : goal.overflow_add-o
overflow_add-o c = omega (arith, room (goal.at.overflow_add-o c).In_ok-v)

pub unpack_words-requires : goal.unpack_words-requires
unpack_words-requires c =
    let p = past c.args.s.now c.args.at c.in_ok-n.n c.in_ok-v.v c.in_ok-n.ensures.value c.in_ok-v.ensures.value in
    let few = c.in_ok-n.ensures.value_le_most.0 in
    room_same (ap length c.put_head.ensures ∙ simp length-sets) (room_left c.requires (omega (arith, p)) (omega (arith, few)))

pub returns-in_err-w-clause-out_after : goal.returns-in_err-w-clause-out_after
returns-in_err-w-clause-out_after c =
    rw c.from_residual-in_err-w.ensures (c.in_err-w.ensures.out_after
    ∙ sym (words c.args.s.now c.args.at c.in_ok-n.n c.in_ok-v.v c.in_ok-n.ensures.value c.in_ok-v.ensures.value c.args.out.now c.args.o _
    c.put_head.ensures))

pub returns-then-n-ne1-clause-out_after : goal.returns-then-n-ne1-clause-out_after
returns-then-n-ne1-clause-out_after c = whole (goal.at.returns-then-n-ne1-clause-out_after c).In_ok-w

pub returns-then-n-ne1-clause-within : goal.returns-then-n-ne1-clause-within
returns-then-n-ne1-clause-within c = within (goal.at.returns-then-n-ne1-clause-within c).In_ok-w

pub returns-then-n-ne1-clause-such : goal.returns-then-n-ne1-clause-such
returns-then-n-ne1-clause-such c = λ e. count_plain _ _ c.in_ok-n.n c.in_ok-n.ensures.value c.if-n-ne1.true

pub slice_bounds-is_virtual-count : goal.slice_bounds-is_virtual-count
slice_bounds-is_virtual-count c =
    done_from _ _ _ _ _ _ (step_done _ _ _ _ c.in_ok-w.w (whole (goal.at.slice_bounds-is_virtual-count c).In_ok-w))

pub slice_bounds-is_virtual-start : goal.slice_bounds-is_virtual-start
slice_bounds-is_virtual-start c =
    done_from _ _ _ _ _ _ (step_done _ _ _ _ c.in_ok-w.w (whole (goal.at.slice_bounds-is_virtual-start c).In_ok-w))

pub slice_bounds-is_virtual-end : goal.slice_bounds-is_virtual-end
slice_bounds-is_virtual-end c =
    let z = goal.at.slice_bounds-is_virtual-end c in
    let long : length c.put_head.new.out ≡ length c.args.out.now = ap length c.put_head.ensures ∙ simp length-sets in
    omega (arith, fits z.Else-n-ne1 (within z.In_ok-w), long)

pub returns-clause-out_after : goal.returns-clause-out_after
returns-clause-out_after c = whole (goal.at.returns-clause-out_after c).In_ok-w

pub returns-clause-within : goal.returns-clause-within
returns-clause-within c = let i = within (goal.at.returns-clause-within c).In_ok-w in record { few = i.few; fourfold = i.fourfold }

pub returns-clause-such : goal.returns-clause-such
returns-clause-such c = λ x.
    let z = goal.at.returns-clause-such c in
    told_plain _ _ _ _ _ _ (step_done _ _ _ _ c.in_ok-w.w (whole z.In_ok-w)) (fits z.Else-n-ne1 (within z.In_ok-w))
    (sym c.is_virtual.ensures ∙ not-true c.is_virtual.result x)
