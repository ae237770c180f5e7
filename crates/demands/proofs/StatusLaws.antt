-- The status number is the lowest line of the table that holds. The index:
-- status_is: the number given. accepted_when: 0 exactly where no line holds. status_le: a check gives no number above 10.
-- refused_nothing, grants_nothing, refused_grants_nothing: a refusal has every mask 0, allowed no, flag clear.
-- granted_cases, granted_asked: no granted bit lies outside the bits asked.
-- Not here: the numbers of descriptor and policy, NumbersLaws; question files, FileLaws. Assumes nothing.
use Prim.Native.Nat.{ℕ, ◌≤◌}
use mathlib.Core.Path.{◌≡◌, refl, sym, ◌∙◌}
use mathlib.Core.List.{List, [], ◌∷◌}
use mathlib.Core.Bool.{Bool, true, false, cond, not}
use mathlib.Core.Logic.{◌↔◌}
use native.Mathlib.Omega.{arith}
use lib.Dec.{eqb}
use borrow.Author.Tests.{eqb-true, eqb-false}
use Rattle.base.specs.Bits.{Within}
use Rattle.base.specs.Bytes.{Read}
use Rattle.base.specs.Bytes.Read.{none, some}
use Rattle.base.proofs.BitsLaws.{and_within_l, zero_within}
use Rattle.records.specs.Token.{Token}
use Rattle.records.specs.TokenRecord.{read_record}
use Rattle.records.specs.TokenRules.{keeps}
use Rattle.masks.specs.KindsAndMasks.{known_kind, legal, asked}
use Rattle.answers.specs.Granted.{answer_of, refused}
use Rattle.access.specs.Status.{Question, self_fits, descriptor_number, policy_number, answer_to, after_token, with_token, checked}
use Rattle.demands.specs.Accepted.{Accepted, GrantsNothing, token_in, by_rules}
use Rattle.demands.specs.Conditions.{
  Line,
  ◌when◌,
  lowest,
  some_holds,
  misshapen,
  breaks,
  descriptor_misshapen,
  ownerless,
  foreign_dacl,
  policy_misshapen,
  policy_unread,
  conditions,
}
use Rattle.answers.specs.declared.answer.Answer.{Answer}
use Rattle.demands.proofs.AcceptedLaws.{accepted_is}
use Rattle.demands.proofs.NumbersLaws.{descriptor_number_is, policy_number_is}

-- ---- the number given

module _ (given : Answer) (accepted : given.status ≡ 0) where
  from_self : (s : Bool) (d p : ℕ) → Answer
  from_self s d p = cond s (cond (eqb d 0) (cond (eqb p 0) given (refused p)) (refused d)) (refused 5)

  -- the tests from 5 on, as a table
  from_self_lem : (s a b c m u : Bool) →
      (from_self s (lowest ((6 when a) ∷ (7 when b) ∷ (8 when c) ∷ [])) (lowest ((9 when m) ∷ (10 when u) ∷ []))).status
      ≡ lowest ((5 when not s) ∷ (6 when a) ∷ (7 when b) ∷ (8 when c) ∷ (9 when m) ∷ (10 when u) ∷ [])
  unfolding from_self lowest
  from_self_lem false a b c m u = refl
  from_self_lem true true b c m u = refl
  from_self_lem true false true c m u = refl
  from_self_lem true false false true m u = refl
  from_self_lem true false false false true u = refl
  from_self_lem true false false false false true = refl
  from_self_lem true false false false false false = accepted

abbrev from_five : Question → List Line
from_five q =
    (5 when not (self_fits q.self)) ∷
    (6 when descriptor_misshapen q.descriptor) ∷
    (7 when ownerless q.descriptor) ∷
    (8 when foreign_dacl q.descriptor) ∷
    (9 when policy_misshapen q.policy) ∷
    (10 when policy_unread q.policy) ∷
    []

after_status : (q : Question) (t : Token) → (after_token q t).status ≡ lowest (from_five q)
unfolding after_token from_self answer_to answer_of
after_status q t =
    rw (descriptor_number_is q.descriptor, policy_number_is q.policy)
    (from_self_lem (by_rules q t) refl (self_fits q.self) (descriptor_misshapen q.descriptor) (ownerless q.descriptor)
    (foreign_dacl q.descriptor)
    (policy_misshapen q.policy) (policy_unread q.policy))

token_status : (q : Question) (r : Read Token) → (with_token q r).status ≡ lowest ((3 when misshapen r) ∷ (4 when breaks r) ∷ from_five q)
unfolding lowest
token_status q none = refl
token_status q (some t e) = go (keeps t)
  where
    go : (b : Bool) → (cond b (after_token q t) (refused 4)).status ≡ lowest ((4 when not b) ∷ from_five q)
    go true = after_status q t
    go false = refl

pub status_is : (q : Question) → (checked q).status ≡ lowest (conditions q)
unfolding checked lowest
status_is q = go (known_kind q.kind) (legal q.kind q.mask)
  where
    r : Read Token
    r = read_record q.token

    go : (x y : Bool) → (cond x (cond y (with_token q r) (refused 2)) (refused 1)).status
        ≡ lowest ((1 when not x) ∷ (2 when not y) ∷ (3 when misshapen r) ∷ (4 when breaks r) ∷ from_five q)
    go true true = token_status q r
    go true false = refl
    go false y = refl

-- ---- accepted exactly where no line holds

numbered : List Line → Bool
numbered [] = true
numbered (l ∷ ls) = let r = numbered ls in cond (eqb l.number 0) false r

none_lowest : (ls : List Line) → some_holds ls ≡ false → lowest ls ≡ 0
unfolding some_holds lowest
none_lowest [] e = refl
none_lowest (l ∷ ls) e = go (none_lowest ls) l.holds e
  where
    go : (some_holds ls ≡ false → lowest ls ≡ 0) → (b : Bool) → cond b true (some_holds ls) ≡ false → cond b l.number (lowest ls) ≡ 0
    go rest true e = let z : ◌≡◌ {A = ℕ} 0 1 = cc in absurd (omega arith)
    go rest false e = rest e

lowest_none : (ls : List Line) → numbered ls ≡ true → lowest ls ≡ 0 → some_holds ls ≡ false
unfolding some_holds lowest numbered
lowest_none [] n e = refl
lowest_none (l ∷ ls) n e = go (lowest_none ls) l.holds (eqb l.number 0) refl n e
  where
    go : (numbered ls ≡ true → lowest ls ≡ 0 → some_holds ls ≡ false) → (b c : Bool) → eqb l.number 0 ≡ c →
        cond c false (numbered ls) ≡ true →
        cond b l.number (lowest ls) ≡ 0 → cond b true (some_holds ls) ≡ false
    go rest b true x n e = let z : ◌≡◌ {A = ℕ} 0 1 = cc in absurd (omega arith)
    go rest true false x n e = absurd (eqb-false l.number 0 x e)
    go rest false false x n e = rest n e

-- "Input that no refusal fits is accepted", and no other
pub accepted_when : (q : Question) → Accepted q ↔ some_holds (conditions q) ≡ false
unfolding numbered
accepted_when q = (λ a. lowest_none (conditions q) refl (sym (status_is q) ∙ a), λ n. status_is q ∙ none_lowest (conditions q) n)

-- ---- "a check never gives 11", nor 12

Below : ℕ → List Line → Type 0
Below n [] = Unit
Below n (l ∷ ls) = (l.number ≤ n) × Below n ls

lowest_le : (n : ℕ) (ls : List Line) → Below n ls → lowest ls ≤ n
unfolding lowest Below
lowest_le n [] b = omega arith
lowest_le n (l ∷ ls) b = go (lowest_le n ls b.1) l.holds
  where
    go : lowest ls ≤ n → (h : Bool) → cond h l.number (lowest ls) ≤ n
    go rest true = b.0
    go rest false = rest

pub status_le : (q : Question) → (checked q).status ≤ 10
unfolding Below
status_le q = rw (status_is q) (lowest_le 10 (conditions q) (omega arith))

-- ---- "On refusal mask 0, allowed no, flag clear"

refused_after : (q : Question) (t : Token) → ((after_token q t).status ≡ 0 → ⊥) → after_token q t ≡ refused (after_token q t).status
unfolding after_token answer_to answer_of
refused_after q t n = go (self_fits q.self) (eqb (descriptor_number q.descriptor) 0) (eqb (policy_number q.policy) 0) n
  where
    inner : Bool → Bool → Bool → Answer
    inner x y z =
        cond x (cond y (cond z (by_rules q t) (refused (policy_number q.policy))) (refused (descriptor_number q.descriptor))) (refused 5)

    go : (x y z : Bool) → ((inner x y z).status ≡ 0 → ⊥) → inner x y z ≡ refused (inner x y z).status
    go true true true n = absurd (n refl)
    go true true false n = refl
    go true false z n = refl
    go false y z n = refl

refused_token : (q : Question) (r : Read Token) → ((with_token q r).status ≡ 0 → ⊥) → with_token q r ≡ refused (with_token q r).status
refused_token q none n = refl
refused_token q (some t e) n = go (keeps t) n
  where
    go : (b : Bool) → ((cond b (after_token q t) (refused 4)).status ≡ 0 → ⊥) →
        cond b (after_token q t) (refused 4) ≡ refused (cond b (after_token q t) (refused 4)).status
    go true n = refused_after q t n
    go false n = refl

pub refused_nothing : (q : Question) → ((checked q).status ≡ 0 → ⊥) → checked q ≡ refused (checked q).status
unfolding checked
refused_nothing q n = go (known_kind q.kind) (legal q.kind q.mask) n
  where
    inner : Bool → Bool → Answer
    inner x y = cond x (cond y (with_token q (read_record q.token)) (refused 2)) (refused 1)

    go : (x y : Bool) → ((inner x y).status ≡ 0 → ⊥) → inner x y ≡ refused (inner x y).status
    go true true n = refused_token q (read_record q.token) n
    go true false n = refl
    go false y n = refl

pub grants_nothing : (n : ℕ) → GrantsNothing (refused n)
grants_nothing n = record { normal = refl; confined = refl; ruled = refl; granted = refl; allowed = refl; staged = refl }

pub refused_grants_nothing : (q : Question) → ((checked q).status ≡ 0 → ⊥) → GrantsNothing (checked q)
refused_grants_nothing q n = rw (refused_nothing q n) (grants_nothing (checked q).status)

-- ---- "no granted bit lies outside the bits asked"

-- what bounds the answer of the rules bounds every answer, since a refusal grants nothing
pub granted_cases : (q : Question) (m : ℕ) → Within (by_rules q (token_in q)).granted.0 m → Within (checked q).granted.0 m
granted_cases q m w = go (eqb (checked q).status 0) refl
  where
    go : (b : Bool) → eqb (checked q).status 0 ≡ b → Within (checked q).granted.0 m
    go true e = rw (accepted_is q (eqb-true _ _ e)) w
    go false e = rw (refused_nothing q (eqb-false _ _ e)) (zero_within m)

pub granted_asked : (q : Question) → Within (checked q).granted.0 (asked q.kind q.mask)
unfolding answer_to answer_of
granted_asked q = granted_cases q (asked q.kind q.mask) (and_within_l (asked q.kind q.mask) _)
