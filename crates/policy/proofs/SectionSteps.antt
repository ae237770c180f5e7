-- What a section is, as the code answers it: fit_none, fit_some; where it does not fit, nowhere and again; the list in it: acl-... For the
-- functions that read sections.
-- Assumes nothing.
use Prim.Native.Nat.{ℕ, ◌+◌}
use mathlib.Core.Path.{◌≡◌, refl, ap, ◌∙◌}
use mathlib.Core.List.{List}
use mathlib.Core.Bool.{Bool, true, false, cond}
use native.Mathlib.Omega.{arith}
use lib.ListN.{length}
use lib.Dec.{ltb, eqb}
use borrow.Author.Tests.{eqb-true, eq-eqb, ne_eqb}
use Rattle.std.specs.Prelude.{Option, None, Some}
use Rattle.std.specs.Option.{unwrap_or}
use Rattle.base.specs.Bytes.{u32_at, found}
use Rattle.base.proofs.FoundLaws.{none_found, place_found}
use Rattle.conditions.specs.Scanning.Scan.{Broken}
use Rattle.lists.specs.Acl.{acl_end, scan_of}
use Rattle.lists.specs.declared.descriptor.Extent.{Extent}
use Rattle.policy.specs.Policy.{section, section_at, fitting, acl_section}

pub fit_none : (x : Extent) → None ≡ fitting x → eqb x.to 0 ≡ true
fit_none x h = go (eqb x.to 0) refl h
  where
    go : (b : Bool) → eqb x.to 0 ≡ b → None ≡ cond b None (Some x) → eqb x.to 0 ≡ true
    go true e f = e
    go false e f = absurd (cc)

pub fit_some : (y x : Extent) → Some y ≡ fitting x → (y ≡ x) × (eqb y.to 0 ≡ false)
fit_some y x h = go (eqb x.to 0) refl h
  where
    go : (b : Bool) → eqb x.to 0 ≡ b → Some y ≡ cond b None (Some x) → (y ≡ x) × (eqb y.to 0 ≡ false)
    go true e f = absurd (cc)
    go false e f = let k : y ≡ x = cc in (k, ap (λ (z : Extent). eqb z.to 0) k ∙ e)

module _ (s : List ℕ) (at : ℕ) where
  nowhere : eqb (section_at s at).to 0 ≡ true → section 0 0 ≡ section_at s at
  unfolding section_at
  nowhere h = go (ltb (length s) (at + 4)) (ltb (length s) (at + 4 + u32_at s at)) h
    where
      pick : Bool → Bool → Extent
      pick a b = cond a (section 0 0) (cond b (section 0 0) (section (at + 4) (at + 4 + u32_at s at)))

      go : (a b : Bool) → eqb (pick a b).to 0 ≡ true → section 0 0 ≡ pick a b
      go true b e = refl
      go false true e = refl
      go false false e = let k : at + 4 + u32_at s at ≡ 0 = eqb-true _ _ e in absurd (omega arith)

  -- what is read in its place is the section again
  pub again : (o : Option Extent) (y : Extent) → o ≡ fitting (section_at s at) → y ≡ unwrap_or o (section 0 0) → y ≡ section_at s at
  again o y e f = f ∙ ap (λ (z : Option Extent). unwrap_or z (section 0 0)) e ∙ go (eqb (section_at s at).to 0) refl
    where
      go : (b : Bool) → eqb (section_at s at).to 0 ≡ b →
          unwrap_or (cond b None (Some (section_at s at))) (section 0 0) ≡ section_at s at
      go true e = nowhere e
      go false e = refl

-- ---- the list in a section

module _ (deep : Bool) (l : List ℕ) where
  pub acl_none : None ≡ found (acl_end l 0) → acl_section deep l ≡ Broken
  unfolding acl_section
  acl_none h = rw (eq-eqb (acl_end l 0) 0 (none_found (acl_end l 0) h))

  module _ (e : ℕ) (is : Some e ≡ found (acl_end l 0)) where
    pub acl_other : (e ≡ length l → ⊥) → acl_section deep l ≡ Broken
    unfolding acl_section
    acl_other h = let p = place_found (acl_end l 0) e is in rw (p.is, ne_eqb e 0 p.there, ne_eqb e (length l) h)

    pub acl_whole : e ≡ length l → acl_section deep l ≡ scan_of deep l
    unfolding acl_section
    acl_whole h = let p = place_found (acl_end l 0) e is in rw (p.is, ne_eqb e 0 p.there, eq-eqb e (length l) h)
