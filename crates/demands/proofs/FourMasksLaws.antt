-- Request 106. In order: the masks of every answer lie one within the other (masks_narrow); a rule more leaves the first two as they were
-- (first_two_still, by found_first_two, which is of any rules); a bit that is asked and not granted is taken by one step (taken_once);
-- confinement takes nothing from a token that it does not apply to, and no rule takes nothing (unconfined_keeps, no_rule_keeps).
-- Assumes nothing.
use Prim.Native.Nat.{ℕ, ◌<◌, ◌≤◌, ◌^◌}
use mathlib.Core.Path.{◌≡◌, refl, sym, ap, ◌∙◌}
use mathlib.Core.List.{List, []}
use mathlib.Core.Bool.{Bool, true, false, and-false}
use native.Mathlib.Omega.{arith}
use lib.Dec.{eqb}
use lib.Bits.{and_le_l, and_mask}
use borrow.Author.Tests.{eqb-true, eqb-false}
use Rattle.base.specs.Bits.{and, bit, Within}
use Rattle.base.proofs.BoolLaws.{true_false}
use Rattle.base.proofs.BitsLaws.{and_assoc, within_refl, and_within_l, zero_within, and_mono}
use Rattle.lists.specs.Descriptor.{owner_of}
use Rattle.records.specs.Token.{Token}
use Rattle.records.specs.Crowd.{crowd_of}
use Rattle.masks.specs.KindsAndMasks.{asked}
use Rattle.masks.proofs.MasksLaws.{within_false, asked_lt}
use Rattle.passes.specs.Matching.{hits_of}
use Rattle.passes.specs.NormalEvaluation.{Dacl, normal_of}
use Rattle.passes.specs.Confinement.{confines, everything, confinement_of}
use Rattle.policy.specs.Rules.{Lists, rules_of, ruled_from, ruled_by}
use Rattle.answers.specs.Granted.{answer_of}
use Rattle.access.specs.Evaluated.{found_of}
use Rattle.access.specs.Status.{Question, dacl_in, answer_to, checked}
use Rattle.answers.specs.declared.answer.Answer.{Answer}
use Rattle.demands.specs.Accepted.{Accepted, token_in, by_rules, ruled_on}
use Rattle.demands.specs.Strangers.{SameButOneRule}
use Rattle.demands.specs.FourMasks.{Narrowing, FirstTwoStill, Step, takes, TakenOnce}
use Rattle.demands.specs.FourMasks.Step.{normal_evaluation, confinement, policy}
use Rattle.demands.proofs.AcceptedLaws.{accepted_is}
use Rattle.demands.proofs.StatusLaws.{refused_nothing}

-- ---- each lies within the one before

found_confined : (kind : ℕ) (t : Token) (owner self : List ℕ) (d : Dacl) (rules : List Lists) →
    Within (found_of kind t owner self d rules).confined.0 (found_of kind t owner self d rules).normal.0
unfolding found_of
found_confined kind t owner self d rules =
    and_within_l (normal_of kind (crowd_of t) (hits_of (crowd_of t) owner self) t.privileges d) (confinement_of kind t owner self d)

found_ruled : (kind : ℕ) (t : Token) (owner self : List ℕ) (d : Dacl) (rules : List Lists) →
    Within (found_of kind t owner self d rules).ruled.0 (found_of kind t owner self d rules).confined.0
unfolding found_of
found_ruled kind t owner self d rules =
    let h = hits_of (crowd_of t) owner self in
    and_within_l (and (normal_of kind (crowd_of t) h t.privileges d) (confinement_of kind t owner self d))
    (ruled_by kind (crowd_of t) h t.privileges rules).left.0

rules_narrow : (q : Question) (t : Token) → Narrowing (asked q.kind q.mask) (by_rules q t)
unfolding answer_to answer_of
rules_narrow q t =
    let a = asked q.kind q.mask in
    let d = dacl_in q.descriptor in
    record {
      normal = and_within_l a _;
      confined =
          and_mono a a _ _ (within_refl a) (found_confined q.kind t (owner_of q.descriptor) q.self d (rules_of q.policy));
      ruled = and_mono a a _ _ (within_refl a) (found_ruled q.kind t (owner_of q.descriptor) q.self d (rules_of q.policy));
      granted = refl;
    }

pub masks_narrow : (q : Question) → Narrowing (asked q.kind q.mask) (checked q)
masks_narrow q = go (eqb (checked q).status 0) refl
  where
    go : (b : Bool) → eqb (checked q).status 0 ≡ b → Narrowing (asked q.kind q.mask) (checked q)
    go true e = rw (accepted_is q (eqb-true _ _ e)) (rules_narrow q (token_in q))
    go false e =
        rw (refused_nothing q (eqb-false _ _ e))
        (record { normal = zero_within _; confined = zero_within _; ruled = zero_within _; granted = refl })

-- ---- whatever the policy, the first two stay

found_first_two : (kind mask : ℕ) (t : Token) (owner self : List ℕ) (d : Dacl) (rules others : List Lists) →
    FirstTwoStill (ruled_on kind mask t owner self d rules) (ruled_on kind mask t owner self d others)
unfolding found_of answer_of
found_first_two kind mask t owner self d rules others = record { normal = refl; confined = refl }

rules_still : (p q : Question) → SameButOneRule p q → FirstTwoStill (by_rules p (token_in p)) (by_rules q (token_in q))
unfolding answer_to
rules_still p q s =
    rw (← s.kind, ← s.mask, ← s.token, ← s.self, ← s.descriptor)
    (found_first_two p.kind p.mask (token_in p) (owner_of p.descriptor) p.self (dacl_in p.descriptor) (rules_of p.policy)
    (rules_of q.policy))

pub first_two_still : (p q : Question) → Accepted p → Accepted q → SameButOneRule p q → FirstTwoStill (checked p) (checked q)
first_two_still p q a b s = rw (accepted_is p a, accepted_is q b) (rules_still p q s)

-- ---- one step takes a bit that is lost

module _ (bits : ℕ) (a : Answer) (i : ℕ) (lost : bit a.ruled.0 i ≡ false) where
  at_normal : bit bits i ≡ true → bit a.normal.0 i ≡ false → bit a.confined.0 i ≡ false → TakenOnce bits a i
  at_normal b n c = record { step = normal_evaluation; taken = rw (b, n); alone = alone }
    where
      alone : (s : Step) → takes s bits a i ≡ true → s ≡ normal_evaluation
      alone normal_evaluation t = refl
      alone confinement t = true_false (sym (rw n at t))
      alone policy t = true_false (sym (rw c at t))

  at_confinement : bit a.normal.0 i ≡ true → bit a.confined.0 i ≡ false → TakenOnce bits a i
  at_confinement n c = record { step = confinement; taken = rw (n, c); alone = alone }
    where
      alone : (s : Step) → takes s bits a i ≡ true → s ≡ confinement
      alone normal_evaluation t = true_false (sym (rw (n, and-false _) at t))
      alone confinement t = refl
      alone policy t = true_false (sym (rw c at t))

  at_policy : bit a.normal.0 i ≡ true → bit a.confined.0 i ≡ true → TakenOnce bits a i
  at_policy n c = record { step = policy; taken = rw (c, lost); alone = alone }
    where
      alone : (s : Step) → takes s bits a i ≡ true → s ≡ policy
      alone normal_evaluation t = true_false (sym (rw (n, and-false _) at t))
      alone confinement t = true_false (sym (rw (c, and-false _) at t))
      alone policy t = refl

narrow_taken : (bits : ℕ) (a : Answer) (i : ℕ) → Narrowing bits a → bit bits i ≡ true → bit a.granted.0 i ≡ false → TakenOnce bits a i
narrow_taken bits a i w b g = go (bit a.normal.0 i) (bit a.confined.0 i) refl refl
  where
    lost : bit a.ruled.0 i ≡ false
    lost = rw w.granted at g

    go : (n c : Bool) → bit a.normal.0 i ≡ n → bit a.confined.0 i ≡ c → TakenOnce bits a i
    go true true n c = at_policy bits a i lost n c
    go true false n c = at_confinement bits a i lost n c
    go false c n e = at_normal bits a i lost b n (within_false a.confined.0 a.normal.0 i w.confined n)

pub taken_once : (q : Question) → Accepted q → (i : ℕ) → bit (asked q.kind q.mask) i ≡ true → bit (checked q).granted.0 i ≡ false →
    TakenOnce (asked q.kind q.mask) (checked q) i
taken_once q _ i = narrow_taken (asked q.kind q.mask) (checked q) i (masks_narrow q)

-- ---- a step that takes nothing

cut_all : (a m : ℕ) → a < 2 ^ 32 → and a (and m everything) ≡ and a m
cut_all a m l =
    let h : and a m ≤ a = and_le_l a m in
    sym (and_assoc a m everything) ∙ and_mask (and a m) 32 ∙ omega arith

rules_unconfined : (q : Question) (t : Token) → confines t.flags ≡ false → (by_rules q t).confined ≡ (by_rules q t).normal
unfolding answer_to answer_of found_of confinement_of
rules_unconfined q t c = rw c (ap (λ (m : ℕ). record { 0 = m }) (cut_all (asked q.kind q.mask) _ (asked_lt q.kind q.mask)))

pub unconfined_keeps : (q : Question) → Accepted q → confines (token_in q).flags ≡ false → (checked q).confined ≡ (checked q).normal
unconfined_keeps q a c = rw (accepted_is q a) (rules_unconfined q (token_in q) c)

rules_none : (q : Question) (t : Token) → rules_of q.policy ≡ [] → (by_rules q t).ruled ≡ (by_rules q t).confined
unfolding answer_to answer_of found_of ruled_from
rules_none q t e = rw e (ap (λ (m : ℕ). record { 0 = m }) (cut_all (asked q.kind q.mask) _ (asked_lt q.kind q.mask)))

pub no_rule_keeps : (q : Question) → Accepted q → rules_of q.policy ≡ [] → (checked q).ruled ≡ (checked q).confined
no_rule_keeps q a e = rw (accepted_is q a) (rules_none q (token_in q) e)
