-- An accepted question has the answer of the rules for the token that it holds: accepted_is. The steps before it, outermost last:
-- after_token_lem (self identity, descriptor, policy), with_token_lem (token), accepted_is (kind and mask).
-- Assumes nothing.
use Prim.Native.Nat.{ℕ}
use mathlib.Core.Path.{◌≡◌, refl, ap}
use mathlib.Core.Bool.{Bool, true, false, cond}
use native.Mathlib.Omega.{arith}
use lib.Dec.{eqb}
use Rattle.base.specs.Bytes.{Read}
use Rattle.base.specs.Bytes.Read.{none, some}
use Rattle.records.specs.Token.{Token}
use Rattle.records.specs.TokenRecord.{read_record}
use Rattle.records.specs.TokenRules.{keeps}
use Rattle.masks.specs.KindsAndMasks.{known_kind, legal}
use Rattle.answers.specs.Granted.{refused}
use Rattle.access.specs.Status.{Question, self_fits, descriptor_number, policy_number, after_token, with_token, checked}
use Rattle.demands.specs.Accepted.{Accepted, token_of, token_in, by_rules}
use Rattle.answers.specs.declared.answer.Answer.{Answer}

-- a number that is not 0 accepts nothing
never : {A : Type 0} (n : ℕ) → eqb n 0 ≡ false → n ≡ 0 → A
never n e z = let f = ap (λ (k : ℕ). eqb k 0) z in let w : ◌≡◌ {A = ℕ} 0 1 = cc in absurd (omega arith)

after_token_lem : (q : Question) (t : Token) → (after_token q t).status ≡ 0 → after_token q t ≡ by_rules q t
unfolding after_token
after_token_lem q t h = go (self_fits q.self) (eqb d 0) (eqb p 0) refl refl h
  where
    d : ℕ
    d = descriptor_number q.descriptor

    p : ℕ
    p = policy_number q.policy

    inner : Bool → Bool → Bool → Answer
    inner x y z = cond x (cond y (cond z (by_rules q t) (refused p)) (refused d)) (refused 5)

    go : (x y z : Bool) → eqb d 0 ≡ y → eqb p 0 ≡ z → (inner x y z).status ≡ 0 → inner x y z ≡ by_rules q t
    go true true true e f h = refl
    go true true false e f h = never p f h
    go true false z e f h = never d e h
    go false y z e f h = absurd (omega arith)

with_token_lem : (q : Question) (r : Read Token) → (with_token q r).status ≡ 0 → with_token q r ≡ by_rules q (token_of r)
with_token_lem q none h = absurd (omega arith)
with_token_lem q (some t e) h = go (keeps t) h
  where
    go : (b : Bool) → (cond b (after_token q t) (refused 4)).status ≡ 0 → cond b (after_token q t) (refused 4) ≡ by_rules q t
    go true h = after_token_lem q t h
    go false h = absurd (omega arith)

pub accepted_is : (q : Question) → Accepted q → checked q ≡ by_rules q (token_in q)
unfolding checked
accepted_is q h = go (known_kind q.kind) (legal q.kind q.mask) h
  where
    inner : Bool → Bool → Answer
    inner x y = cond x (cond y (with_token q (read_record q.token)) (refused 2)) (refused 1)

    go : (x y : Bool) → (inner x y).status ≡ 0 → inner x y ≡ by_rules q (token_in q)
    go true true h = with_token_lem q (read_record q.token) h
    go true false h = absurd (omega arith)
    go false y h = absurd (omega arith)
