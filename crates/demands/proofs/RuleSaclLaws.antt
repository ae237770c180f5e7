-- A rule's effective SACL: where it stands (SectionAt; SaclAt, rule_sacl_at), and that it is short (sacl_short).
-- Assumes nothing.
use Prim.Native.Nat.{ℕ, ◌+◌, ◌<◌, ◌≤◌}
use mathlib.Core.Path.{◌≡◌, refl, ap}
use mathlib.Core.List.{List}
use mathlib.Core.Bool.{Bool, true, false, cond}
use native.Mathlib.Omega.{arith}
use lib.Dec.{T, ltb, eqb}
use lib.Pow.{are_bytes}
use lib.ListN.{length}
use borrow.Author.Tests.{eqb-true, eqb-false, ltb-false}
use Rattle.base.specs.Bytes.{u16_at, u32_at}
use Rattle.base.proofs.WordsLaws.{u16_at_lt}
use Rattle.lists.specs.Acl.{acl_end, scan_of}
use Rattle.lists.proofs.AclSteps.{AclAt, acl_at}
use Rattle.conditions.specs.Scanning.{is_broken}
use Rattle.conditions.specs.Scanning.{Scan}
use Rattle.conditions.specs.Scanning.Scan.{Broken, Plain}
use Rattle.policy.specs.Policy.{section_at, section, bytes_of, acl_section, maybe_acl, no_rule, rule_of, rule_at}
use Rattle.lists.specs.declared.descriptor.Extent.{Extent as Section}
use Rattle.policy.specs.declared.one_rule.Rule.{Rule}
use Rattle.policy.proofs.OneRuleSteps.{applies_in, list_in, maybe_in, rule_applies, rule_dacl, rule_sacl, rule_staged}
use Rattle.policy.proofs.OneRuleSteps.{rule_last, rule_whole}

-- ---- where it stands

-- a section that fits stands behind its place
pub record SectionAt (p : List ℕ) (at : ℕ) (x : Section) : Type 0 where
  pub after : at ≤ x.from
  pub lies : x.from ≤ x.to
  pub inside : x.to ≤ length p

section_at_lem : (p : List ℕ) (at : ℕ) → ((section_at p at).to ≡ 0 → ⊥) → SectionAt p at (section_at p at)
unfolding section_at
section_at_lem p at h = go (ltb (length p) (at + 4)) (ltb (length p) (at + 4 + u32_at p at)) refl h
  where
    pick : Bool → Bool → Section
    pick a b = cond a (section 0 0) (cond b (section 0 0) (section (at + 4) (at + 4 + u32_at p at)))

    go : (a b : Bool) → ltb (length p) (at + 4 + u32_at p at) ≡ b → ((pick a b).to ≡ 0 → ⊥) → SectionAt p at (pick a b)
    go true b e f = absurd (f refl)
    go false true e f = absurd (f refl)
    go false false e f =
        let k : at + 4 + u32_at p at ≤ length p = ltb-false _ _ e in
        record { after = omega arith; lies = omega arith; inside = k }

-- what stands where a rule does: its effective SACL behind its place and before its end
pub record SaclAt (p : List ℕ) (at : ℕ) (r : Rule) : Type 0 where
  pub after : at ≤ r.sacl.from
  pub lies : r.sacl.from ≤ r.sacl.to
  pub before : r.sacl.to ≤ r.next
  pub inside : r.next ≤ length p
  pub shaped : is_broken (maybe_acl false (bytes_of p r.sacl)) ≡ false

-- a section that fits, and is not broken
unbroken : (n : ℕ) (x : Scan) → is_broken (cond (eqb n 0) Broken x) ≡ false → (n ≡ 0 → ⊥) × (is_broken x ≡ false)
unbroken n x h = go (eqb n 0) refl h
  where
    go : (b : Bool) → eqb n 0 ≡ b → is_broken (cond b Broken x) ≡ false → (n ≡ 0 → ⊥) × (is_broken x ≡ false)
    go true e f = let z : ◌≡◌ {A = ℕ} 0 1 = cc in absurd (omega arith)
    go false e f = (eqb-false _ _ e, f)

module _ (p : List ℕ) (applies dacl sacl staged last : Section) where
  -- no section of a rule that is there is broken
  record Whole : Type 0 where
    first : is_broken (applies_in p applies) ≡ false
    second : is_broken (list_in p dacl) ≡ false
    third : is_broken (maybe_in false p sacl) ≡ false
    fourth : is_broken (maybe_in true p staged) ≡ false
    fifth : is_broken (maybe_in false p last) ≡ false

  whole_rule : ((rule_of p applies dacl sacl staged last).next ≡ 0 → ⊥) → Whole
  whole_rule h =
      go
      (is_broken (applies_in p applies)) refl
      (is_broken (list_in p dacl)) refl
      (is_broken (maybe_in false p sacl)) refl
      (is_broken (maybe_in true p staged)) refl
      (is_broken (maybe_in false p last)) refl
    where
      no : rule_of p applies dacl sacl staged last ≡ no_rule → ⊥
      no e = h (ap (λ (r : Rule). r.next) e)

      go : (a : Bool) → is_broken (applies_in p applies) ≡ a →
          (d : Bool) → is_broken (list_in p dacl) ≡ d → (x : Bool) → is_broken (maybe_in false p sacl) ≡ x →
          (t : Bool) → is_broken (maybe_in true p staged) ≡ t → (y : Bool) → is_broken (maybe_in false p last) ≡ y → Whole
      go true ea d ed x ex t et y ey = absurd (no (rule_applies p applies dacl sacl staged last ea))
      go false ea true ed x ex t et y ey = absurd (no (rule_dacl p applies dacl sacl staged last ea ed))
      go false ea false ed true ex t et y ey = absurd (no (rule_sacl p applies dacl sacl staged last ea ed ex))
      go false ea false ed false ex true et y ey = absurd (no (rule_staged p applies dacl sacl staged last ea ed ex et))
      go false ea false ed false ex false et true ey = absurd (no (rule_last p applies dacl sacl staged last ea ed ex et ey))
      go false ea false ed false ex false et false ey = record { first = ea; second = ed; third = ex; fourth = et; fifth = ey }

  sacl_of_lem : (at : ℕ) → applies ≡ section_at p at → dacl ≡ section_at p applies.to → sacl ≡ section_at p dacl.to →
      staged ≡ section_at p sacl.to → last ≡ section_at p staged.to →
      ((rule_of p applies dacl sacl staged last).next ≡ 0 → ⊥) → SaclAt p at (rule_of p applies dacl sacl staged last)
  sacl_of_lem at a d x t y h =
      let w = whole_rule h in
      let in-a : SectionAt p at applies = rw a (section_at_lem p at (rw (← a) (unbroken applies.to _ w.first).0)) in
      let in-d : SectionAt p applies.to dacl =
      rw d (section_at_lem p applies.to (rw (← d) (unbroken dacl.to _ w.second).0)) in
      let in-x : SectionAt p dacl.to sacl = rw x (section_at_lem p dacl.to (rw (← x) (unbroken sacl.to _ w.third).0)) in
      let in-t : SectionAt p sacl.to staged =
      rw t (section_at_lem p sacl.to (rw (← t) (unbroken staged.to _ w.fourth).0)) in
      let in-y : SectionAt p staged.to last = rw y (section_at_lem p staged.to (rw (← y) (unbroken last.to _ w.fifth).0)) in
      rw (rule_whole p applies dacl sacl staged last w.first w.second w.third w.fourth w.fifth)
      (record {
        after = omega (arith, in-a.after, in-a.lies, in-d.after, in-d.lies, in-x.after);
        lies = in-x.lies;
        before = omega (arith, in-t.after, in-t.lies, in-y.after, in-y.lies);
        inside = in-y.inside;
        shaped = (unbroken sacl.to _ w.third).1;
      })

pub rule_sacl_at : (p : List ℕ) (at : ℕ) → ((rule_at p at).next ≡ 0 → ⊥) → SaclAt p at (rule_at p at)
unfolding rule_at
rule_sacl_at p at h =
    let applies = section_at p at in
    let dacl = section_at p applies.to in
    let sacl = section_at p dacl.to in
    let staged = section_at p sacl.to in
    sacl_of_lem p applies dacl sacl staged (section_at p staged.to) at refl refl refl refl refl h

-- ---- how long it is

-- "An ACL section's length equals its ACL's size", a number of two bytes
pub sacl_short : (l : List ℕ) → T (are_bytes l) → is_broken (maybe_acl false l) ≡ false → length l < 65536
unfolding maybe_acl acl_section
sacl_short l bytes h =
    go (eqb (length l) 0) refl (eqb (acl_end l 0) 0) refl (eqb (acl_end l 0) (length l)) refl h
  where
    go : (a : Bool) → eqb (length l) 0 ≡ a → (b : Bool) → eqb (acl_end l 0) 0 ≡ b → (c : Bool) → eqb (acl_end l 0) (length l) ≡ c →
        is_broken (cond a Plain (cond b Broken (cond c (scan_of false l) Broken))) ≡ false → length l < 65536
    go true ea b eb c ec f = let z : length l ≡ 0 = eqb-true _ _ ea in omega arith
    go false ea true eb c ec f = let z : ◌≡◌ {A = ℕ} 0 1 = cc in absurd (omega arith)
    go false ea false eb false ec f = let z : ◌≡◌ {A = ℕ} 0 1 = cc in absurd (omega arith)
    go false ea false eb true ec f =
        let a : AclAt l 0 = acl_at l 0 (eqb-false _ _ eb) in
        let e : acl_end l 0 ≡ length l = eqb-true _ _ ec in
        let u : u16_at l (0 + 2) < 65536 = u16_at_lt l (0 + 2) bytes in
        omega (arith, a.ends, e, u)
