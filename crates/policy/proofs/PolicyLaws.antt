-- What an accepted policy is. In order: a rule that is well shaped (shaped_rule), and found by its sections alone (step_same); plain lists
-- and a plain applies_to (acl_plain, plain_rule); the rules of an accepted policy: each is there and has plain lists (sound_rules), there
-- are as many as the heading says (sound_count), and they are found by the lengths of their sections alone (sound_by_lengths). Assumes
-- nothing.
use Prim.Native.Nat.{ℕ, zero, suc}
use mathlib.Core.Path.{◌≡◌, refl, sym, ap, ◌∙◌}
use mathlib.Core.List.{List, [], ◌∷◌}
use mathlib.Core.Bool.{Bool, true, false, cond, ◌||◌}
use native.Mathlib.Omega.{arith}
use lib.ListN.{length}
use lib.Dec.{ltb, eqb}
use borrow.Author.Tests.{ltb-true, ltb-false, ne_eqb, eqb-true, eqb-false}
use Rattle.base.specs.Bytes.{byte_at, u32_at}
use Rattle.base.proofs.BoolLaws.{neither}
use Rattle.base.proofs.WordsLaws.{u32_at_out}
use Rattle.lists.proofs.ByLengthLaws.{entries_by_length_lem, entries_by_none}
use Rattle.lists.specs.Acl.{acl_end, scan_of, entries_of}
use Rattle.lists.specs.ByLength.{entries_by_length}
use Rattle.conditions.specs.Scanning.{is_broken, is_foreign}
use Rattle.conditions.specs.Scanning.{Scan}
use Rattle.conditions.specs.Scanning.Scan.{Broken, Foreign, Plain}
use Rattle.policy.specs.Policy.{section_at, bytes_of, acl_section, maybe_acl, applies_section, no_rule, rule_of, rule_at}
use Rattle.policy.specs.Policy.{rules_shaped, rules_unread, standing, standing_of}
use Rattle.policy.specs.Rules.{Lists, lists_of, rules_at, rules_of}
use Rattle.policy.specs.ByLengths.{rule_by_lengths, lists_by_lengths, rules_by_lengths_at, rules_by_lengths}
use Rattle.lists.specs.declared.descriptor.Extent.{Extent}
use Rattle.policy.specs.declared.one_rule.Rule.{Rule}
use Rattle.policy.specs.Standing.Standing.{Sound, Misshapen}
use Rattle.policy.proofs.OneRuleSteps.{applies_in, list_in, maybe_in, made, rule_applies, rule_dacl, rule_sacl}
use Rattle.policy.proofs.OneRuleSteps.{rule_staged, rule_last, rule_whole}
use Rattle.policy.proofs.PolicySteps.{standing_long, standing_short, standing_other, standing_many, standing_rules}

-- ---- a rule that is well shaped

-- of a rule that is not misshapen: its applies_to and its access lists are not broken, and it is made of its sections
pub record Shaped (s : List ℕ) (applies dacl sacl staged last : Extent) : Type 0 where
  pub fine : is_broken (applies_in s applies) ≡ false
  pub effective : is_broken (list_in s dacl) ≡ false
  pub stages : is_broken (maybe_in true s staged) ≡ false
  pub is : rule_of s applies dacl sacl staged last
      ≡ made s applies dacl sacl staged last (applies_in s applies) (list_in s dacl) (maybe_in true s staged)

module _ (s : List ℕ) (applies dacl sacl staged last : Extent) where
  pub shaped_rule : ((rule_of s applies dacl sacl staged last).next ≡ 0 → ⊥) → Shaped s applies dacl sacl staged last
  shaped_rule h =
      go
      (is_broken (applies_in s applies)) refl
      (is_broken (list_in s dacl)) refl
      (is_broken (maybe_in false s sacl)) refl
      (is_broken (maybe_in true s staged)) refl
      (is_broken (maybe_in false s last)) refl
    where
      no : rule_of s applies dacl sacl staged last ≡ no_rule → ⊥
      no e = h (ap (λ (r : Rule). r.next) e)

      go : (a : Bool) → is_broken (applies_in s applies) ≡ a →
          (d : Bool) → is_broken (list_in s dacl) ≡ d → (x : Bool) → is_broken (maybe_in false s sacl) ≡ x →
          (t : Bool) → is_broken (maybe_in true s staged) ≡ t → (y : Bool) → is_broken (maybe_in false s last) ≡ y →
          Shaped s applies dacl sacl staged last
      go true ea d ed x ex t et y ey = absurd (no (rule_applies s applies dacl sacl staged last ea))
      go false ea true ed x ex t et y ey = absurd (no (rule_dacl s applies dacl sacl staged last ea ed))
      go false ea false ed true ex t et y ey = absurd (no (rule_sacl s applies dacl sacl staged last ea ed ex))
      go false ea false ed false ex true et y ey = absurd (no (rule_staged s applies dacl sacl staged last ea ed ex et))
      go false ea false ed false ex false et true ey = absurd (no (rule_last s applies dacl sacl staged last ea ed ex et ey))
      go false ea false ed false ex false et false ey =
          record {
            fine = ea;
            effective = ed;
            stages = et;
            is = rule_whole s applies dacl sacl staged last ea ed ex et ey;
          }

-- the sections alone find the same rule
pub step_same : (s : List ℕ) (at : ℕ) → ((rule_at s at).next ≡ 0 → ⊥) →
    ((rule_by_lengths s at).next ≡ (rule_at s at).next) × (lists_by_lengths s (rule_by_lengths s at) ≡ lists_by_lengths s (rule_at s at))
unfolding rule_at rule_by_lengths
step_same s at h =
    let applies = section_at s at in
    let dacl = section_at s applies.to in
    let sacl = section_at s dacl.to in
    let staged = section_at s sacl.to in
    let e = (shaped_rule s applies dacl sacl staged (section_at s staged.to) h).is in
    (ap (λ (r : Rule). r.next) (sym e), ap (lists_by_lengths s) (sym e))

-- ---- plain lists

-- a list that is neither broken nor foreign
plain_is : (x : Scan) → is_broken x ≡ false → is_foreign x ≡ false → x ≡ Plain
plain_is Broken e f = let z : ◌≡◌ {A = ℕ} 0 1 = cc in absurd (omega arith)
plain_is Foreign e f = let z : ◌≡◌ {A = ℕ} 0 1 = cc in absurd (omega arith)
plain_is Plain e f = refl

plain_there : (b : Bool) (x : Scan) → cond b Broken x ≡ Plain → x ≡ Plain
plain_there true x e = let z : ◌≡◌ {A = ℕ} 0 1 = cc in absurd (omega arith)
plain_there false x e = e

-- an ACL section with plain entries is its list, whole
pub acl_plain : (deep : Bool) (l : List ℕ) → acl_section deep l ≡ Plain → (acl_end l 0 ≡ length l) × (scan_of deep l ≡ Plain)
unfolding acl_section
acl_plain deep l h = go (eqb (acl_end l 0) 0) (eqb (acl_end l 0) (length l)) refl h
  where
    go : (a b : Bool) → eqb (acl_end l 0) (length l) ≡ b → cond a Broken (cond b (scan_of deep l) Broken) ≡ Plain →
        (acl_end l 0 ≡ length l) × (scan_of deep l ≡ Plain)
    go true b e f = let z : ◌≡◌ {A = ℕ} 0 1 = cc in absurd (omega arith)
    go false true e f = (eqb-true _ _ e, f)
    go false false e f = let z : ◌≡◌ {A = ℕ} 0 1 = cc in absurd (omega arith)

-- a rule that is there, with a plain applies_to and plain lists only
pub record PlainRule (s : List ℕ) (r : Rule) : Type 0 where
  pub there : r.next ≡ 0 → ⊥
  pub applies : applies_section (bytes_of s r.applies) ≡ Plain
  pub effective : acl_section true (bytes_of s r.effective) ≡ Plain
  pub staged : maybe_acl true (bytes_of s r.staged) ≡ Plain

pub plain_rule : (s : List ℕ) (at : ℕ) → ((rule_at s at).next ≡ 0 → ⊥) → (rule_at s at).unread ≡ false → PlainRule s (rule_at s at)
unfolding rule_at
plain_rule s at h u =
    let applies = section_at s at in
    let dacl = section_at s applies.to in
    let sacl = section_at s dacl.to in
    let staged = section_at s sacl.to in
    let f = shaped_rule s applies dacl sacl staged (section_at s staged.to) h in
    let o =
    neither
    (is_foreign (applies_in s applies) || is_foreign (list_in s dacl))
    (is_foreign (maybe_in true s staged))
    (ap (λ (r : Rule). r.unread) (sym f.is) ∙ u) in
    let a = neither (is_foreign (applies_in s applies)) (is_foreign (list_in s dacl)) o.0 in
    record {
      there = h;
      applies =
          ap (λ (r : Rule). applies_section (bytes_of s r.applies)) f.is
          ∙ plain_there (eqb applies.to 0) _ (plain_is (applies_in s applies) f.fine a.0);
      effective =
          ap (λ (r : Rule). acl_section true (bytes_of s r.effective)) f.is
          ∙ plain_there (eqb dacl.to 0) _ (plain_is (list_in s dacl) f.effective a.1);
      staged =
          ap (λ (r : Rule). maybe_acl true (bytes_of s r.staged)) f.is
          ∙ plain_there (eqb staged.to 0) _ (plain_is (maybe_in true s staged) f.stages o.1);
    }

-- ---- the whole

-- n plain rules stand back to back from a place
unfoldable pub PlainRules : List ℕ → ℕ → ℕ → Type 0
PlainRules s zero at = Unit
PlainRules s (suc n) at = PlainRule s (rule_at s at) × PlainRules s n (rule_at s at).next

walked_plain : (s : List ℕ) (n at : ℕ) → rules_shaped s n at ≡ true → rules_unread s n at ≡ false → PlainRules s n at
unfolding rules_shaped rules_unread PlainRules
walked_plain s zero at a b = tt
walked_plain s (suc n) at a b = go (eqb (rule_at s at).next 0) refl (rule_at s at).unread refl a b (walked_plain s n (rule_at s at).next)
  where
    go : (t : Bool) → eqb (rule_at s at).next 0 ≡ t → (u : Bool) → (rule_at s at).unread ≡ u →
        cond t false (rules_shaped s n (rule_at s at).next) ≡ true → cond u true (rules_unread s n (rule_at s at).next) ≡ false →
        (rules_shaped s n (rule_at s at).next ≡ true → rules_unread s n (rule_at s at).next ≡ false → PlainRules s n (rule_at s at).next) →
        PlainRule s (rule_at s at) × PlainRules s n (rule_at s at).next
    go true e u f x y rest = let z : ◌≡◌ {A = ℕ} 0 1 = cc in absurd (omega arith)
    go false e true f x y rest = let z : ◌≡◌ {A = ℕ} 0 1 = cc in absurd (omega arith)
    go false e false f x y rest = (plain_rule s at (eqb-false _ _ e) f, rest x y)

sound_standing : (a b : Bool) → standing a b ≡ Sound → (a ≡ true) × (b ≡ false)
sound_standing true true e = let z : ◌≡◌ {A = ℕ} 0 1 = cc in absurd (omega arith)
sound_standing true false e = (refl, refl)
sound_standing false b e = let z : ◌≡◌ {A = ℕ} 0 1 = cc in absurd (omega arith)

module _ (s : List ℕ) (sound : standing_of s ≡ Sound) where
  -- each rule is there, and every list of it scans plain. An empty policy counts no rules
  pub sound_rules : PlainRules s (u32_at s 1) 5
  unfolding PlainRules
  sound_rules =
      go
      (eqb (length s) 0) refl
      (ltb 262144 (length s)) refl
      (ltb (length s) 5) refl
      (eqb (byte_at s 0) 1) refl
      (ltb 256 (u32_at s 1)) refl
    where
      no : standing_of s ≡ Misshapen → ⊥
      no e = let z : ◌≡◌ {A = ℕ} 0 1 = cc in omega arith

      go : (a : Bool) → eqb (length s) 0 ≡ a → (b : Bool) → ltb 262144 (length s) ≡ b → (d : Bool) → ltb (length s) 5 ≡ d →
          (v : Bool) → eqb (byte_at s 0) 1 ≡ v → (n : Bool) → ltb 256 (u32_at s 1) ≡ n → PlainRules s (u32_at s 1) 5
      go true ea b eb d ed v ev n en =
          let z : length s ≡ 0 = eqb-true _ _ ea in
          rw (u32_at_out s 1 (omega arith)) tt
      go false ea true eb d ed v ev n en = absurd (no (standing_long s (ltb-true _ _ eb)))
      go false ea false eb true ed v ev n en = absurd (no (standing_short s (ltb-false _ _ eb) (eqb-false _ _ ea) (ltb-true _ _ ed)))
      go false ea false eb false ed false ev n en =
          absurd (no (standing_other s (ltb-false _ _ eb) (ltb-false _ _ ed) (eqb-false _ _ ev)))
      go false ea false eb false ed true ev true en =
          absurd (no (standing_many s (ltb-false _ _ eb) (ltb-false _ _ ed) (eqb-true _ _ ev) (ltb-true _ _ en)))
      go false ea false eb false ed true ev false en =
          let f = standing_rules s (ltb-false _ _ eb) (ltb-false _ _ ed) (eqb-true _ _ ev) (ltb-false _ _ en) in
          let g = sound_standing (rules_shaped s (u32_at s 1) 5) (rules_unread s (u32_at s 1) 5) (sym f ∙ sound) in
          walked_plain s (u32_at s 1) 5 g.0 g.1

-- ---- the rules that are read

plain_count : (s : List ℕ) (n at : ℕ) → PlainRules s n at → length (rules_at s n at) ≡ n
unfolding rules_at PlainRules
plain_count s zero at h = refl
plain_count s (suc n) at h = rw (ne_eqb (rule_at s at).next 0 h.0.there) (ap suc (plain_count s n (rule_at s at).next h.1))

-- a section that may be empty, found by lengths
maybe_found : (l : List ℕ) → maybe_acl true l ≡ Plain → entries_by_length l ≡ entries_of l
unfolding maybe_acl
maybe_found l h = go (eqb (length l) 0) refl h
  where
    go : (b : Bool) → eqb (length l) 0 ≡ b → cond b Plain (acl_section true l) ≡ Plain → entries_by_length l ≡ entries_of l
    go true e f = entries_by_none l (eqb-true _ _ e)
    go false e f = entries_by_length_lem l (acl_plain true l f).1

plain_lists : (s : List ℕ) (r : Rule) → PlainRule s r → lists_by_lengths s r ≡ lists_of s r
plain_lists s r p =
    rw (
      entries_by_length_lem (bytes_of s r.effective) (acl_plain true (bytes_of s r.effective) p.effective).1,
      maybe_found (bytes_of s r.staged) p.staged,
    )

plain_found : (s : List ℕ) (n at : ℕ) → PlainRules s n at → rules_by_lengths_at s n at ≡ rules_at s n at
unfolding rules_by_lengths_at rules_at PlainRules
plain_found s zero at h = refl
plain_found s (suc n) at h =
    let e = step_same s at h.0.there in
    rw (e.0, e.1, plain_lists s (rule_at s at) h.0, ne_eqb (rule_at s at).next 0 h.0.there)
    (ap (λ (rs : List Lists). lists_of s (rule_at s at) ∷ rs) (plain_found s n (rule_at s at).next h.1))

-- an empty policy's heading counts no rules either
rules_are : (s : List ℕ) → rules_of s ≡ rules_at s (u32_at s 1) 5
unfolding rules_of rules_at
rules_are s = go (eqb (length s) 0) refl
  where
    go : (b : Bool) → eqb (length s) 0 ≡ b → cond b [] (rules_at s (u32_at s 1) 5) ≡ rules_at s (u32_at s 1) 5
    go true e = let z : length s ≡ 0 = eqb-true _ _ e in rw (u32_at_out s 1 (omega arith))
    go false e = refl

module _ (s : List ℕ) (sound : standing_of s ≡ Sound) where
  pub sound_count : length (rules_of s) ≡ u32_at s 1
  sound_count = ap length (rules_are s) ∙ plain_count s (u32_at s 1) 5 (sound_rules s sound)

  pub sound_by_lengths : rules_by_lengths s ≡ rules_of s
  sound_by_lengths = plain_found s (u32_at s 1) 5 (sound_rules s sound) ∙ sym (rules_are s)
