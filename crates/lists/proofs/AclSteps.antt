-- Where a list and an entry's heading end, by each test in its order. For `acl_end` and `head_end`.
-- In order: where an ACL ends (acl-end-..) and what stands where one does (AclAt, acl_at, acl_end_bounds); the same of an entry's heading
-- (head-end-.., HeadAt, head_at, head_end_bounds).
-- Not here: entries, EntrySteps; what an accepted list is, AclLaws. Assumes nothing.
use Prim.Native.Nat.{ℕ, ◌+◌, ◌%◌, ◌<◌, ◌≤◌}
use mathlib.Core.Path.{◌≡◌, refl}
use mathlib.Core.List.{List}
use mathlib.Core.Bool.{Bool, true, false, ◌||◌}
use native.Mathlib.Omega.{arith}
use lib.ListN.{length}
use lib.Dec.{ltb, eqb}
use borrow.Author.Tests.{lt-ltb, le-ltb, ltb-true, ltb-false, eq-eqb, ne_eqb, eqb-true, eqb-false}
use Rattle.base.specs.Bytes.{byte_at, u16_at}
use Rattle.lists.specs.Acl.{acl_end, head_end}

-- ---- the list

-- "revision 2 or 4"
abbrev pub revised : ℕ → Bool
revised b = eqb b 2 || eqb b 4

module _ (s : List ℕ) (at : ℕ) where
  pub acl_end_short : length s < at + 8 → acl_end s at ≡ 0
  unfolding acl_end
  acl_end_short h = rw (lt-ltb (length s) (at + 8) h)

  pub acl_end_other : at + 8 ≤ length s → revised (byte_at s at) ≡ false → acl_end s at ≡ 0
  unfolding acl_end
  acl_end_other f h = rw (le-ltb (length s) (at + 8) f, h)

  pub acl_end_small : at + 8 ≤ length s → revised (byte_at s at) ≡ true → u16_at s (at + 2) < 8 → acl_end s at ≡ 0
  unfolding acl_end
  acl_end_small f r h = rw (le-ltb (length s) (at + 8) f, r, lt-ltb (u16_at s (at + 2)) 8 h)

  pub acl_end_cut : at + 8 ≤ length s → revised (byte_at s at) ≡ true → 8 ≤ u16_at s (at + 2) → length s < at + u16_at s (at + 2) →
      acl_end s at ≡ 0
  unfolding acl_end
  acl_end_cut f r m h =
      rw (le-ltb (length s) (at + 8) f, r, le-ltb (u16_at s (at + 2)) 8 m, lt-ltb (length s) (at + u16_at s (at + 2)) h)

  pub acl_end_whole : revised (byte_at s at) ≡ true → 8 ≤ u16_at s (at + 2) → at + u16_at s (at + 2) ≤ length s →
      acl_end s at ≡ at + u16_at s (at + 2)
  unfolding acl_end
  acl_end_whole r m h =
      rw (le-ltb (length s) (at + 8) (omega arith), r, le-ltb (u16_at s (at + 2)) 8 m, le-ltb (length s) (at + u16_at s (at + 2)) h)

-- what stands where an ACL does
pub record AclAt (s : List ℕ) (at : ℕ) : Type 0 where
  pub known : revised (byte_at s at) ≡ true
  pub small : 8 ≤ u16_at s (at + 2)
  pub whole : at + u16_at s (at + 2) ≤ length s
  pub ends : acl_end s at ≡ at + u16_at s (at + 2)

pub acl_at : (s : List ℕ) (at : ℕ) → (acl_end s at ≡ 0 → ⊥) → AclAt s at
acl_at s at h =
    go
    (ltb (length s) (at + 8)) refl
    (revised (byte_at s at)) refl
    (ltb (u16_at s (at + 2)) 8) refl
    (ltb (length s) (at + u16_at s (at + 2))) refl
  where
    go : (t : Bool) → ltb (length s) (at + 8) ≡ t → (u : Bool) → revised (byte_at s at) ≡ u →
        (v : Bool) → ltb (u16_at s (at + 2)) 8 ≡ v → (w : Bool) → ltb (length s) (at + u16_at s (at + 2)) ≡ w → AclAt s at
    go true e u f v g w i = absurd (h (acl_end_short s at (ltb-true _ _ e)))
    go false e false f v g w i = absurd (h (acl_end_other s at (ltb-false _ _ e) f))
    go false e true f true g w i = absurd (h (acl_end_small s at (ltb-false _ _ e) f (ltb-true _ _ g)))
    go false e true f false g true i = absurd (h (acl_end_cut s at (ltb-false _ _ e) f (ltb-false _ _ g) (ltb-true _ _ i)))
    go false e true f false g false i =
        let m : 8 ≤ u16_at s (at + 2) = ltb-false _ _ g in
        let k : at + u16_at s (at + 2) ≤ length s = ltb-false _ _ i in
        record { known = f; small = m; whole = k; ends = acl_end_whole s at f m k }

pub acl_end_bounds : (s : List ℕ) (at : ℕ) → (acl_end s at ≡ 0 → ⊥) → (at + 8 ≤ acl_end s at) × (acl_end s at ≤ length s)
acl_end_bounds s at h = let a : AclAt s at = acl_at s at h in (omega arith, omega arith)

-- ---- an entry's heading

module _ (l : List ℕ) (at : ℕ) where
  pub head_end_short : length l < at + 4 → head_end l at ≡ 0
  unfolding head_end
  head_end_short h = rw (lt-ltb (length l) (at + 4) h)

  pub head_end_odd : at + 4 ≤ length l → (u16_at l (at + 2) % 4 ≡ 0 → ⊥) → head_end l at ≡ 0
  unfolding head_end
  head_end_odd f h = rw (le-ltb (length l) (at + 4) f, ne_eqb (u16_at l (at + 2) % 4) 0 h)

  pub head_end_small : at + 4 ≤ length l → u16_at l (at + 2) % 4 ≡ 0 → u16_at l (at + 2) < 4 → head_end l at ≡ 0
  unfolding head_end
  head_end_small f d h = rw (le-ltb (length l) (at + 4) f, eq-eqb (u16_at l (at + 2) % 4) 0 d, lt-ltb (u16_at l (at + 2)) 4 h)

  pub head_end_cut : at + 4 ≤ length l → u16_at l (at + 2) % 4 ≡ 0 → 4 ≤ u16_at l (at + 2) → length l < at + u16_at l (at + 2) →
      head_end l at ≡ 0
  unfolding head_end
  head_end_cut f d m h =
      rw (
        le-ltb (length l) (at + 4) f,
        eq-eqb (u16_at l (at + 2) % 4) 0 d,
        le-ltb (u16_at l (at + 2)) 4 m,
        lt-ltb (length l) (at + u16_at l (at + 2)) h,
      )

  pub head_end_whole : u16_at l (at + 2) % 4 ≡ 0 → 4 ≤ u16_at l (at + 2) → at + u16_at l (at + 2) ≤ length l →
      head_end l at ≡ at + u16_at l (at + 2)
  unfolding head_end
  head_end_whole d m h =
      rw (
        le-ltb (length l) (at + 4) (omega arith),
        eq-eqb (u16_at l (at + 2) % 4) 0 d,
        le-ltb (u16_at l (at + 2)) 4 m,
        le-ltb (length l) (at + u16_at l (at + 2)) h,
      )

-- what stands where an entry's heading does
pub record HeadAt (l : List ℕ) (at : ℕ) : Type 0 where
  pub four : u16_at l (at + 2) % 4 ≡ 0
  pub small : 4 ≤ u16_at l (at + 2)
  pub whole : at + u16_at l (at + 2) ≤ length l
  pub ends : head_end l at ≡ at + u16_at l (at + 2)

pub head_at : (l : List ℕ) (at : ℕ) → (head_end l at ≡ 0 → ⊥) → HeadAt l at
head_at l at h =
    go
    (ltb (length l) (at + 4)) refl
    (eqb (u16_at l (at + 2) % 4) 0) refl
    (ltb (u16_at l (at + 2)) 4) refl
    (ltb (length l) (at + u16_at l (at + 2))) refl
  where
    go : (t : Bool) → ltb (length l) (at + 4) ≡ t → (u : Bool) → eqb (u16_at l (at + 2) % 4) 0 ≡ u →
        (v : Bool) → ltb (u16_at l (at + 2)) 4 ≡ v → (w : Bool) → ltb (length l) (at + u16_at l (at + 2)) ≡ w → HeadAt l at
    go true e u f v g w i = absurd (h (head_end_short l at (ltb-true _ _ e)))
    go false e false f v g w i = absurd (h (head_end_odd l at (ltb-false _ _ e) (eqb-false _ _ f)))
    go false e true f true g w i = absurd (h (head_end_small l at (ltb-false _ _ e) (eqb-true _ _ f) (ltb-true _ _ g)))
    go false e true f false g true i =
        absurd (h (head_end_cut l at (ltb-false _ _ e) (eqb-true _ _ f) (ltb-false _ _ g) (ltb-true _ _ i)))
    go false e true f false g false i =
        let d : u16_at l (at + 2) % 4 ≡ 0 = eqb-true _ _ f in
        let m : 4 ≤ u16_at l (at + 2) = ltb-false _ _ g in
        let k : at + u16_at l (at + 2) ≤ length l = ltb-false _ _ i in
        record { four = d; small = m; whole = k; ends = head_end_whole l at d m k }

pub head_end_bounds : (l : List ℕ) (at : ℕ) → (head_end l at ≡ 0 → ⊥) → (at + 4 ≤ head_end l at) × (head_end l at ≤ length l)
head_end_bounds l at h = let a : HeadAt l at = head_at l at h in (omega arith, omega arith)
