-- Laws of operands: what a length encloses (enclosed_short -cut -whole -bounds), a SID literal (literal_none -is -bounds), the
-- literals of a composite (literals-.., Listing, listing-..). Assumes nothing.
use Prim.Native.Nat.{ℕ, zero, suc, ◌+◌, ◌<◌, ◌≤◌}
use mathlib.Core.Path.{◌≡◌, refl, sym, ap, ◌∙◌}
use mathlib.Core.List.{List}
use mathlib.Core.Bool.{Bool, true, false, cond}
use native.Mathlib.Omega.{arith}
use lib.ListN.{length}
use lib.Dec.{ltb, eqb}
use borrow.Author.Tests.{lt-ltb, le-ltb, ltb-true, ltb-false, eq-eqb, ne_eqb, eqb-true, eqb-false}
use Rattle.base.specs.Bytes.{byte_at, u32_at, part, found}
use Rattle.base.proofs.FoundLaws.{found_none, found_at, place_found}
use Rattle.sids.specs.Sid.{is_sid}
use Rattle.std.specs.Prelude.{None, Some}
use Rattle.conditions.specs.Condition.{enclosed_end, literal_end, literals_at, literals, stray}
use Rattle.conditions.specs.Scanning.Scan.{Broken, Plain}

-- ---- what a length encloses

module _ (s : List ℕ) (at : ℕ) where
  pub enclosed_short : length s < at + 5 → enclosed_end s at ≡ 0
  unfolding enclosed_end
  enclosed_short h = rw (lt-ltb (length s) (at + 5) h)

  pub enclosed_cut : at + 5 ≤ length s → length s < at + 5 + u32_at s (at + 1) → enclosed_end s at ≡ 0
  unfolding enclosed_end
  enclosed_cut f h = rw (le-ltb (length s) (at + 5) f, lt-ltb (length s) (at + 5 + u32_at s (at + 1)) h)

  pub enclosed_whole : at + 5 + u32_at s (at + 1) ≤ length s → enclosed_end s at ≡ at + 5 + u32_at s (at + 1)
  unfolding enclosed_end
  enclosed_whole h = rw (le-ltb (length s) (at + 5) (omega arith), le-ltb (length s) (at + 5 + u32_at s (at + 1)) h)

  pub enclosed_bounds : (enclosed_end s at ≡ 0 → ⊥) → (at + 5 ≤ enclosed_end s at) × (enclosed_end s at ≤ length s)
  enclosed_bounds h = go (ltb (length s) (at + 5)) refl (ltb (length s) (at + 5 + u32_at s (at + 1))) refl
    where
      go : (t : Bool) → ltb (length s) (at + 5) ≡ t → (u : Bool) → ltb (length s) (at + 5 + u32_at s (at + 1)) ≡ u →
          (at + 5 ≤ enclosed_end s at) × (enclosed_end s at ≤ length s)
      go true e u f = absurd (h (enclosed_short (ltb-true _ _ e)))
      go false e true f = absurd (h (enclosed_cut (ltb-false _ _ e) (ltb-true _ _ f)))
      go false e false f =
          let k : at + 5 + u32_at s (at + 1) ≤ length s = ltb-false _ _ f in
          let w : enclosed_end s at ≡ at + 5 + u32_at s (at + 1) = enclosed_whole k in
          (omega arith, omega arith)

-- ---- a SID literal

module _ (s : List ℕ) (at : ℕ) where
  pub literal_none : enclosed_end s at ≡ 0 → literal_end s at ≡ 0
  unfolding literal_end
  literal_none h = rw (eq-eqb (enclosed_end s at) 0 h)

  pub literal_is : (enclosed_end s at ≡ 0 → ⊥) → literal_end s at ≡ cond (is_sid (part s (at + 5) (enclosed_end s at))) (enclosed_end s at) 0
  unfolding literal_end
  literal_is h = rw (ne_eqb (enclosed_end s at) 0 h)

  pub literal_bounds : (literal_end s at ≡ 0 → ⊥) → (at + 5 ≤ literal_end s at) × (literal_end s at ≤ length s)
  literal_bounds h = go (eqb (enclosed_end s at) 0) refl (is_sid (part s (at + 5) (enclosed_end s at))) refl
    where
      go : (t : Bool) → eqb (enclosed_end s at) 0 ≡ t → (u : Bool) → is_sid (part s (at + 5) (enclosed_end s at)) ≡ u →
          (at + 5 ≤ literal_end s at) × (literal_end s at ≤ length s)
      go true e u f = absurd (h (literal_none (eqb-true _ _ e)))
      go false e false f = absurd (h (literal_is (eqb-false _ _ e) ∙ rw f))
      go false e true f =
          let w : literal_end s at ≡ enclosed_end s at = literal_is (eqb-false _ _ e) ∙ rw f in
          let b : (at + 5 ≤ enclosed_end s at) × (enclosed_end s at ≤ length s) = enclosed_bounds s at (eqb-false _ _ e) in
          (omega arith, omega arith)

  module _ (e : ℕ) (q : Some e ≡ found (enclosed_end s at)) where
    literal_by : literal_end s at ≡ cond (is_sid (part s (at + 5) e)) (enclosed_end s at) 0
    literal_by =
        let k = place_found (enclosed_end s at) e q in
        literal_is (λ z. k.there (sym k.is ∙ z)) ∙ ap (λ (x : ℕ). cond (is_sid (part s (at + 5) x)) (enclosed_end s at) 0) k.is

    pub literal_yes : is_sid (part s (at + 5) e) ≡ true → Some e ≡ found (literal_end s at)
    literal_yes h =
        let k = place_found (enclosed_end s at) e q in
        found_at (literal_end s at) e (literal_by ∙ rw h k.is) k.there

    pub literal_no : is_sid (part s (at + 5) e) ≡ false → None ≡ found (literal_end s at)
    literal_no h = found_none (literal_end s at) (literal_by ∙ rw h)

-- ---- a composite's literals

module _ (l : List ℕ) (at : ℕ) where
  pub literals_end : (n : ℕ) → length l ≤ at → literals_at l n at ≡ Plain
  unfolding literals_at
  literals_end zero h = refl
  literals_end (suc n) h = rw (le-ltb at (length l) h)

  module _ (n : ℕ) (h : at < length l) where
    pub literals_stray : (byte_at l at ≡ 0x51 → ⊥) → literals_at l (suc n) at ≡ stray (byte_at l at)
    unfolding literals_at
    literals_stray k = rw (lt-ltb at (length l) h, ne_eqb (byte_at l at) 0x51 k)

    pub literals_broken : byte_at l at ≡ 0x51 → literal_end l at ≡ 0 → literals_at l (suc n) at ≡ Broken
    unfolding literals_at
    literals_broken k e = rw (lt-ltb at (length l) h, eq-eqb (byte_at l at) 0x51 k, eq-eqb (literal_end l at) 0 e)

    pub literals_more : byte_at l at ≡ 0x51 → (literal_end l at ≡ 0 → ⊥) → literals_at l (suc n) at ≡ literals_at l n (literal_end l at)
    unfolding literals_at
    literals_more k e = rw (lt-ltb at (length l) h, eq-eqb (byte_at l at) 0x51 k, ne_eqb (literal_end l at) 0 e)

-- the composite comes to what its bytes from a place on come to, in some number of steps that is enough for them
abbrev pub Listing : List ℕ → ℕ → Type 0
Listing l at = (n : ℕ) × ((length l ≤ at + n) × (literals l ≡ literals_at l n at))

pub listing_start : (l : List ℕ) → Listing l 0
unfolding literals
listing_start l = (length l, (omega arith, refl))

pub listing_end : (l : List ℕ) (at : ℕ) → Listing l at → length l ≤ at → literals l ≡ Plain
listing_end l at (n, (k, e)) h = e ∙ literals_end l at n h

pub listing_stray : (l : List ℕ) (at : ℕ) → Listing l at → at < length l → (byte_at l at ≡ 0x51 → ⊥) → literals l ≡ stray (byte_at l at)
listing_stray l at (zero, (k, e)) h x = absurd (omega arith)
listing_stray l at (suc n, (k, e)) h x = e ∙ literals_stray l at n h x

pub listing_broken : (l : List ℕ) (at : ℕ) → Listing l at → at < length l → byte_at l at ≡ 0x51 → literal_end l at ≡ 0 → literals l ≡ Broken
listing_broken l at (zero, (k, e)) h x y = absurd (omega arith)
listing_broken l at (suc n, (k, e)) h x y = e ∙ literals_broken l at n h x y

pub listing_more : (l : List ℕ) (at to : ℕ) → Listing l at → at < length l → byte_at l at ≡ 0x51 → to ≡ literal_end l at → (to ≡ 0 → ⊥) →
    Listing l to
listing_more l at to (zero, (k, e)) h x y z = absurd (omega arith)
listing_more l at to (suc n, (k, e)) h x y z =
    let b : (at + 5 ≤ literal_end l at) × (literal_end l at ≤ length l) = literal_bounds l at (λ q. z (y ∙ q)) in
    (n, (omega arith, e ∙ literals_more l at n h x (λ q. z (y ∙ q)) ∙ ap (literals_at l n) (sym y)))
