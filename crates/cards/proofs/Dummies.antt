-- "Try these dummies against demands 2 and 3 together": what satisfies demand 3, or most of it, and is still no access check.
-- Demand 2 says that the check is `checked`; none of these is. refuses_all, grants_nothing: by card c1. first_entry_only,
-- first_rule_only: by two questions that such a function cannot tell apart.
-- Assumes nothing.
use Prim.Native.Nat.{ℕ}
use mathlib.Core.Path.{◌≡◌, refl, sym, ap, ◌∙◌}
use mathlib.Core.List.{List, [], ◌∷◌}
use mathlib.Core.Bool.{true, false}
use native.Mathlib.Omega.{arith}
use lib.ListN.{take}
use Rattle.lists.specs.Descriptor.{owner_of}
use Rattle.policy.specs.Rules.{rules_of}
use Rattle.access.specs.Status.{Question, checked, dacl_in}
use Rattle.cards.specs.Cards.{asks, stepwise, given, TU, D, token_1, descriptor_1, descriptor_3}
use Rattle.answers.specs.declared.answer.Answer.{Answer}
use Rattle.cards.proofs.Opened.{the_page}

-- ---- five questions, and their answers

abbrev c1 : Question
c1 = asks 1 0x80000000 TU [] D []

-- c4 with both entries, and with the deny entry alone
abbrev both : Question
both = asks 1 3 token_1 [] descriptor_1 []

abbrev denied : Question
denied =
    asks 1 3 token_1 []
    (1 ∷ 0 ∷ 4 ∷ 128 ∷ 20 ∷ 0 ∷ 0 ∷ 0 ∷ 0 ∷ 0 ∷ 0 ∷ 0 ∷ 0 ∷ 0 ∷ 0 ∷ 0 ∷ 32 ∷ 0 ∷ 0 ∷ 0 ∷ 1 ∷ 1 ∷ 0 ∷ 0 ∷ 0 ∷ 0 ∷ 0 ∷ 5 ∷ 7 ∷ 0 ∷ 0 ∷ 0 ∷ 2
    ∷ 0 ∷ 28 ∷ 0 ∷ 1 ∷ 0 ∷ 0 ∷ 0 ∷ 1 ∷ 0 ∷ 20 ∷ 0 ∷ 2 ∷ 0 ∷ 0 ∷ 0 ∷ 1 ∷ 1 ∷ 0 ∷ 0 ∷ 0 ∷ 0 ∷ 0 ∷ 5 ∷ 9 ∷ 0 ∷ 0 ∷ 0 ∷ [])
    []

-- a rule that allows U the mask m, and no more
abbrev pub rule_for : ℕ → List ℕ → List ℕ
rule_for m rest =
    0 ∷ 0 ∷ 0 ∷ 0 ∷ 32 ∷ 0 ∷ 0 ∷ 0 ∷ 2 ∷ 0 ∷ 32 ∷ 0 ∷ 1 ∷ 0 ∷ 0 ∷ 0 ∷ 0 ∷ 0 ∷ 24 ∷ 0 ∷ m ∷ 0 ∷ 0 ∷ 0 ∷ 1 ∷ 2 ∷ 0 ∷ 0 ∷ 0 ∷ 0 ∷ 0 ∷ 5 ∷ 0 ∷ 0
    ∷ 0 ∷ 0 ∷ 7 ∷ 0 ∷ 0 ∷ 0 ∷ 0 ∷ 0 ∷ 0 ∷ 0 ∷ 0 ∷ 0 ∷ 0 ∷ 0 ∷ 0 ∷ 0 ∷ 0 ∷ 0 ∷ rest

abbrev pub wide : Question
wide = asks 1 3 TU [] descriptor_3 (1 ∷ 1 ∷ 0 ∷ 0 ∷ 0 ∷ rule_for 3 [])

abbrev pub narrowed : Question
narrowed = asks 1 3 TU [] descriptor_3 (1 ∷ 2 ∷ 0 ∷ 0 ∷ 0 ∷ rule_for 3 (rule_for 1 []))

-- by computation
pub record Worked : Type 0 where
  pub c1_given : checked c1 ≡ given 0x120089 true false
  pub both_given : checked both ≡ given 1 false false
  pub denied_given : checked denied ≡ given 0 false false
  pub wide_given : checked wide ≡ given 3 true false
  pub narrowed_given : checked narrowed ≡ stepwise 3 3 1 1 false false
  pub same_owner : owner_of both.descriptor ≡ owner_of denied.descriptor
  pub same_present : (dacl_in both.descriptor).present ≡ (dacl_in denied.descriptor).present
  pub same_first : take 1 (dacl_in both.descriptor).entries ≡ take 1 (dacl_in denied.descriptor).entries
  pub same_rule : take 1 (rules_of wide.policy) ≡ take 1 (rules_of narrowed.policy)

pub worked : Worked
unfolding the_page
worked =
    record {
      c1_given = refl;
      both_given = refl;
      denied_given = refl;
      wide_given = refl;
      narrowed_given = refl;
      same_owner = refl;
      same_present = refl;
      same_first = refl;
      same_rule = refl;
    }

-- ---- refusing everything, granting 0 everywhere

-- a function that is the check
abbrev pub Check : (Question → Answer) → Type 0
Check f = (q : Question) → f q ≡ checked q

pub refuses_all : (f : Question → Answer) → ((q : Question) → (f q).status ≡ 0 → ⊥) → Check f → ⊥
refuses_all f r c = r c1 (ap (λ (a : Answer). a.status) (c c1 ∙ worked.c1_given))

pub grants_nothing : (f : Question → Answer) → ((q : Question) → (f q).granted.0 ≡ 0) → Check f → ⊥
grants_nothing f g c =
    let e : ◌≡◌ {A = ℕ} 0 0x120089 = sym (g c1) ∙ ap (λ (a : Answer). a.granted.0) (c c1 ∙ worked.c1_given) in
    omega arith

-- ---- applying only the first entry, or only the first rule

-- whose answer does not change with the entries after the first
pub record FirstEntryOnly (f : Question → Answer) : Type 0 where
  pub blind :
      (p q : Question) →
      p.kind ≡ q.kind →
      p.mask ≡ q.mask →
      p.token ≡ q.token →
      p.self ≡ q.self →
      owner_of p.descriptor ≡ owner_of q.descriptor →
      (dacl_in p.descriptor).present ≡ (dacl_in q.descriptor).present →
      take 1 (dacl_in p.descriptor).entries ≡ take 1 (dacl_in q.descriptor).entries →
      p.policy ≡ q.policy →
      f p ≡ f q

pub first_entry_only : (f : Question → Answer) → FirstEntryOnly f → Check f → ⊥
first_entry_only f b c =
    let e = b.blind both denied refl refl refl refl worked.same_owner worked.same_present worked.same_first refl in
    let z : ◌≡◌ {A = ℕ} 1 0 =
    ap (λ (a : Answer). a.granted.0) (sym worked.both_given ∙ sym (c both) ∙ e ∙ c denied ∙ worked.denied_given) in
    omega arith

-- whose answer does not change with the rules after the first
pub record FirstRuleOnly (f : Question → Answer) : Type 0 where
  pub blind :
      (p q : Question) →
      p.kind ≡ q.kind →
      p.mask ≡ q.mask →
      p.token ≡ q.token →
      p.self ≡ q.self →
      p.descriptor ≡ q.descriptor →
      take 1 (rules_of p.policy) ≡ take 1 (rules_of q.policy) →
      f p ≡ f q

pub first_rule_only : (f : Question → Answer) → FirstRuleOnly f → Check f → ⊥
first_rule_only f b c =
    let e = b.blind wide narrowed refl refl refl refl refl worked.same_rule in
    let z : ◌≡◌ {A = ℕ} 3 1 =
    ap (λ (a : Answer). a.granted.0) (sym worked.wide_given ∙ sym (c wide) ∙ e ∙ c narrowed ∙ worked.narrowed_given) in
    omega arith
