-- `unpack_people`: what the confinement comes to after the user, the count and the groups, or nothing where the flags say so. Without
-- flags, clean user and clean groups make a token that keeps the rules.
-- Assumes nothing.
use Prim.Native.Nat.{ℕ, ◌+◌}
use mathlib.Core.Path.{◌≡◌, refl, sym, ◌∙◌}
use mathlib.Core.List.{List}
use mathlib.Core.Bool.{true}
use native.Mathlib.Omega.{arith}
use lib.ListN.{length}
use lib.Seq.{sets}
use Rattle.std.specs.Prelude.{Some}
use Rattle.base.specs.Bytes.{Read, little}
use Rattle.base.specs.Sevens.{num_of}
use Rattle.base.specs.declared.sevens.Num.{Num}
use Rattle.base.proofs.BoolLaws.{both}
use Rattle.records.specs.Token.{confined}
use Rattle.records.specs.TokenRecord.{packed_identity}
use Rattle.records.specs.Unpacking.{outcome, then, copied, left, limited, member_copied, rest_copied, groups_copied, people_copied, Within}
use Rattle.records.specs.declared.unpacking.Step.{Step}
use Rattle.records.proofs.UnpackLaws.{counted_refused, counted_done, rest_none, rest_some}
use Rattle.records.proofs.StepLaws.{after_refused, after_done, step_done}
use Rattle.records.proofs.RoomLaws.{Counted, room_left, room_same, counted_room, within_after, limited_past}
use Rattle.records.proofs.CleanLaws.{people_keeping}
use Rattle.records.proofs.unpacking.unpack_people.Goals as goal
use Rattle.records.proofs.unpacking.unpack_people.Goals.{In_ok-n, In_ok-g}

-- what follows the group count
abbrev people : ℕ → List ℕ → ℕ → ℕ → Read (List ℕ)
people flags s n at = then (copied (member_copied true) n s at) (rest_copied (confined flags) s)

module _ (flags : ℕ) (s : List ℕ) (at : ℕ) (out : List ℕ) (u : Step) (l : List ℕ)
    (is : left (Some u) l ≡ outcome (packed_identity s at) out 12) where
  -- what the rest comes to after the user
  user : outcome (people_copied flags s at) out 12 ≡ outcome (groups_copied flags s u.next) l u.to
  unfolding people_copied
  user = after_done (packed_identity s at) out 12 l u is (groups_copied flags s)

  module _ (n : Num) (count : Some n ≡ num_of (limited 256 s u.next)) (m : List ℕ) (e : m ≡ sets l u.to (little 4 n.value)) where
    -- after the count
    counted : outcome (people_copied flags s at) out 12 ≡ outcome (people flags s n.value n.next) m (u.to + 4)
    counted = rw e (user ∙ counted_done 256 s u.next (people flags s) l u.to n count)

    -- and after the groups
    grouped : (g : Step) (k : List ℕ) → left (Some g) k ≡ outcome (copied (member_copied true) n.value s n.next) m (u.to + 4) →
        outcome (people_copied flags s at) out 12 ≡ outcome (rest_copied (confined flags) s g.next) k g.to
    grouped g k x =
        counted ∙ after_done (copied (member_copied true) n.value s n.next) m (u.to + 4) k g x (rest_copied (confined flags) s)

-- the count after the user
count : (c : In_ok-n) → Counted (length c.args.out.now) 12 c.args.at c.in_ok-u.u c.in_ok-n.n
count c =
    let past = limited_past 256 _ _ c.in_ok-n.n c.in_ok-n.ensures.value in
    counted_room c.requires (omega arith) c.in_ok-u.ensures.within past c.in_ok-n.ensures.value_le_most.1

-- what the rest comes to after the groups
after_groups : (c : In_ok-g) →
    outcome (people_copied c.args.flags c.args.s.now c.args.at) c.args.out.now 12
    ≡ outcome (rest_copied (confined c.args.flags) c.args.s.now c.in_ok-g.g.next) c.unpack_members.new.out c.in_ok-g.g.to
after_groups c =
    grouped c.args.flags c.args.s.now c.args.at c.args.out.now c.in_ok-u.u c.unpack_identity.new.out c.in_ok-u.ensures.out_after c.in_ok-n.n
    c.in_ok-n.ensures.value c.put_little.new.out c.put_little.ensures c.in_ok-g.g c.unpack_members.new.out c.in_ok-g.ensures.out_after

within_groups : (c : In_ok-g) → Counted (length c.args.out.now) 12 c.args.at c.in_ok-u.u c.in_ok-n.n → Within (Some c.in_ok-g.g) 12 c.args.at 18504
within_groups c k =
    let few = c.in_ok-n.ensures.value_le_most.0 in
    within_after k.fourfold (omega (arith, k.few, few)) c.in_ok-g.ensures.within

pub returns-in_err-u-clause-out_after : goal.returns-in_err-u-clause-out_after
unfolding people_copied
returns-in_err-u-clause-out_after c =
    rw c.from_residual.ensures (sym (after_refused _ _ _ (groups_copied c.args.flags _) c.in_err-u.ensures.out_after))

pub returns-in_err-n-clause-out_after : goal.returns-in_err-n-clause-out_after
returns-in_err-n-clause-out_after c =
    rw c.from_residual-in_err-n.ensures (sym (user c.args.flags c.args.s.now c.args.at c.args.out.now c.in_ok-u.u _ c.in_ok-u.ensures.out_after
    ∙ counted_refused 256 _ _ (people c.args.flags _) _ _ c.in_err-n.ensures.value))

pub put_little-requires : goal.put_little-requires
put_little-requires c = omega (arith, (count (goal.at.put_little-requires c).In_ok-n).inside)

pub unpack_members-requires : goal.unpack_members-requires
unpack_members-requires c =
    let k = count (goal.at.unpack_members-requires c).In_ok-n in
    let few = c.in_ok-n.ensures.value_le_most.0 in
    let long : length c.put_little.new.out ≡ length c.args.out.now = omega arith in
    room_same long (room_left c.requires k.fourfold (omega (arith, k.few, few)))

pub returns-in_err-g-clause-out_after : goal.returns-in_err-g-clause-out_after
returns-in_err-g-clause-out_after c =
    let d = counted c.args.flags c.args.s.now c.args.at c.args.out.now c.in_ok-u.u c.unpack_identity.new.out c.in_ok-u.ensures.out_after
    c.in_ok-n.n c.in_ok-n.ensures.value c.put_little.new.out c.put_little.ensures in
    rw c.from_residual-in_err-g.ensures (sym (d
    ∙ after_refused _ _ _ (rest_copied (confined c.args.flags) c.args.s.now) c.in_err-g.ensures.out_after))

pub returns-then-flags-eq0-clause-out_after : goal.returns-then-flags-eq0-clause-out_after
returns-then-flags-eq0-clause-out_after c =
    sym (after_groups (goal.at.returns-then-flags-eq0-clause-out_after c).In_ok-g ∙ rest_none c.args.flags _ _ _ _ c.if-flags-eq0.true)

pub returns-then-flags-eq0-clause-within : goal.returns-then-flags-eq0-clause-within
returns-then-flags-eq0-clause-within c =
    let z = goal.at.returns-then-flags-eq0-clause-within c in
    let w = within_groups z.In_ok-g (count z.In_ok-n) in
    let few = w.few in
    record { few = omega (arith, few); fourfold = w.fourfold }

pub returns-then-flags-eq0-clause-such : goal.returns-then-flags-eq0-clause-such
returns-then-flags-eq0-clause-such c = λ none e p.
    let b = both c.in_ok-u.u.clean c.in_ok-g.g.clean e in
    let d = step_done _ _ _ _ c.in_ok-u.u c.in_ok-u.ensures.out_after in
    people_keeping c.args.flags p _ _ _ _ _ _ _ c.in_ok-n.n none d (c.in_ok-u.ensures.such b.0) c.in_ok-n.ensures.value
    (c.in_ok-g.ensures.such refl b.1)

pub unpack_confinement-requires : goal.unpack_confinement-requires
unpack_confinement-requires c =
    let z = goal.at.unpack_confinement-requires c in
    let w = within_groups z.In_ok-g (count z.In_ok-n) in
    let few = w.few in
    let long : length c.unpack_members.new.out ≡ length c.args.out.now = omega arith in
    room_same long (room_left c.requires w.fourfold (omega (arith, few)))

pub returns-clause-out_after : goal.returns-clause-out_after
returns-clause-out_after c =
    c.unpack_confinement.ensures.out_after
    ∙ sym (after_groups (goal.at.returns-clause-out_after c).In_ok-g ∙ rest_some c.args.flags _ _ _ _ c.if-flags-eq0.false)

pub returns-clause-within : goal.returns-clause-within
returns-clause-within c =
    let z = goal.at.returns-clause-within c in
    let g = within_groups z.In_ok-g (count z.In_ok-n) in
    let few = g.few in
    within_after g.fourfold (omega (arith, few)) c.unpack_confinement.ensures.within
