-- What a step of unpacking comes to, as the code answers it.
-- In order: a step and what follows it, a member, the room for members. Assumes nothing.
use Prim.Native.Nat.{ℕ, ◌+◌, ◌-◌, ◌<◌, ◌≤◌}
use mathlib.Core.Path.{◌≡◌, sym}
use mathlib.Core.List.{List}
use mathlib.Core.Bool.{Bool, true, false}
use native.Mathlib.Omega.{arith}
use Rattle.std.specs.Prelude.{Some}
use Rattle.base.specs.Bytes.{Read}
use Rattle.records.specs.Unpacking.{then, outcome, word_at, member_copied, members_room, left}
use Rattle.records.specs.TokenRecord.{packed_identity}
use Rattle.records.specs.Unpacking.Outcome.{refused, done}
use Rattle.records.specs.declared.unpacking.Step.{Step}
use Rattle.records.proofs.UnpackLaws.{then_refused, then_done}

-- what a reading comes to, from a step as the code answers it
module _ (q : Read (List ℕ)) (out : List ℕ) (o : ℕ) where
  pub step_refused : refused ≡ outcome q out o → outcome q out o ≡ refused
  step_refused is = sym is

  pub after_refused : (k : ℕ → Read (List ℕ)) → refused ≡ outcome q out o → outcome (then q k) out o ≡ refused
  after_refused k is = then_refused k out o q (step_refused is)

  module _ (l : List ℕ) (r : Step) (is : left (Some r) l ≡ outcome q out o) where
    pub step_done : outcome q out o ≡ done l r.to r.next
    step_done = sym is

    pub after_done : (k : ℕ → Read (List ℕ)) → outcome (then q k) out o ≡ outcome (k r.next) l r.to
    after_done k = then_done k out o q l r.to r.next step_done

-- ---- a member

module _ (attrs : Bool) (s : List ℕ) (at : ℕ) (out : List ℕ) (o : ℕ) where
  pub member_refused : refused ≡ outcome (packed_identity s at) out o → outcome (member_copied attrs s at) out o ≡ refused
  member_refused is = go attrs
    where
      go : (b : Bool) → outcome (member_copied b s at) out o ≡ refused
      go true = after_refused (packed_identity s at) out o (word_at s) is
      go false = step_refused (packed_identity s at) out o is

  -- an identity with a word after it
  pub member_worded : (l : List ℕ) (r : Step) → left (Some r) l ≡ outcome (packed_identity s at) out o → attrs ≡ true →
      outcome (member_copied attrs s at) out o ≡ outcome (word_at s r.next) l r.to
  member_worded l r is e = rw e (after_done (packed_identity s at) out o l r is (word_at s))

-- the room for members
pub room_more : (attrs : Bool) (n : ℕ) → 0 < n → members_room attrs n ≡ members_room attrs 1 + members_room attrs (n - 1)
room_more true n h = omega arith
room_more false n h = omega arith

pub room_identity : (attrs : Bool) → 68 ≤ members_room attrs 1
room_identity true = omega arith
room_identity false = omega arith

pub room_worded : (attrs : Bool) → attrs ≡ true → members_room attrs 1 ≡ 72
room_worded attrs e = rw e
