-- Laws of simple lists (specs: Simple). In order: the entries one by one (simple_start, simple_end, simple_none, simple_other,
-- simple_unfit, simple_more); a simple list is plain (simple_plain). Assumes nothing.
use Prim.Native.Nat.{ℕ, zero, suc, ◌+◌, ◌-◌, ◌<◌, ◌≤◌}
use mathlib.Core.Path.{◌≡◌, refl, sym, ◌∙◌}
use mathlib.Core.List.{List}
use mathlib.Core.Bool.{Bool, true, false, cond}
use native.Mathlib.Omega.{arith}
use lib.Dec.{ltb, eqb}
use borrow.Author.Tests.{lt-ltb, le-ltb, ltb-false, eq-eqb, ne_eqb, eqb-false}
use Rattle.base.specs.Bytes.{byte_at, u16_at}
use Rattle.base.proofs.BoolLaws.{true_false}
use Rattle.lists.specs.Acl.{head_end, entry_end, content_of, shaped, foreign, scan_of}
use Rattle.lists.specs.Simple.{fits_as, simple_at, simple}
use Rattle.conditions.specs.Scanning.Scan.{Plain}
use Rattle.lists.proofs.TypeLaws.{callback_low, named_low, audits_low}
use Rattle.lists.proofs.EntrySteps.{entry_end_shallow, entry_end_named, content_plain}

-- ---- the entries, one by one

pub simple_start : (deep : Bool) (l : List ℕ) → simple deep l ≡ simple_at deep l (u16_at l 4) 8
unfolding simple
simple_start deep l = refl

module _ (deep : Bool) (l : List ℕ) (m k at : ℕ) where
  pub simple_end : m ≤ k → simple_at deep l (m - k) at ≡ true
  unfolding simple_at
  simple_end h = let z : m - k ≡ 0 = omega arith in rw z

  pub simple_none : k < m → head_end l at ≡ 0 → simple_at deep l (m - k) at ≡ false
  unfolding simple_at
  simple_none h e = let n : m - k ≡ suc (m - (k + 1)) = omega arith in rw (n, eq-eqb (head_end l at) 0 e)

  module _ (to : ℕ) (ends : to ≡ head_end l at) (some : to ≡ 0 → ⊥) where
    pub simple_other : k < m → 1 < byte_at l at → simple_at deep l (m - k) at ≡ false
    unfolding simple_at
    simple_other h o =
        let n : m - k ≡ suc (m - (k + 1)) = omega arith in
        rw (n, ← ends, ne_eqb to 0 some, lt-ltb 1 (byte_at l at) o)

    pub simple_unfit : k < m → byte_at l at ≤ 1 → fits_as deep l at to ≡ false → simple_at deep l (m - k) at ≡ false
    unfolding simple_at
    simple_unfit h o f =
        let n : m - k ≡ suc (m - (k + 1)) = omega arith in
        rw (n, ← ends, ne_eqb to 0 some, le-ltb 1 (byte_at l at) o, f)

    pub simple_more : k < m → byte_at l at ≤ 1 → fits_as deep l at to ≡ true → simple_at deep l (m - k) at ≡ simple_at deep l (m - (k + 1)) to
    unfolding simple_at
    simple_more h o f =
        let n : m - k ≡ suc (m - (k + 1)) = omega arith in
        rw (n, ← ends, ne_eqb to 0 some, le-ltb 1 (byte_at l at) o, f)

-- ---- a simple list is plain

entry_simple : (deep : Bool) (l : List ℕ) (at : ℕ) → byte_at l at < 2 → fits_as deep l at (head_end l at) ≡ true →
    entry_end deep l at ≡ head_end l at
entry_simple true l at n f = entry_end_named l at (named_low (byte_at l at) n) ∙ rw f refl
entry_simple false l at n f = entry_end_shallow l at (audits_low (byte_at l at) n)

walked : (deep : Bool) (l : List ℕ) (n at : ℕ) → simple_at deep l n at ≡ true → (shaped deep l n at ≡ true) × (foreign deep l n at ≡ false)
unfolding simple_at shaped foreign
walked deep l zero at p = (refl, refl)
walked deep l (suc n) at p =
    go (eqb e 0) refl (ltb 1 (byte_at l at)) refl (fits_as deep l at e) refl p (walked deep l n e)
  where
    e : ℕ
    e = head_end l at

    go : (a : Bool) → eqb e 0 ≡ a → (b : Bool) → ltb 1 (byte_at l at) ≡ b → (c : Bool) → fits_as deep l at e ≡ c →
        cond a false (cond b false (cond c (simple_at deep l n e) false)) ≡ true →
        (simple_at deep l n e ≡ true → (shaped deep l n e ≡ true) × (foreign deep l n e ≡ false)) →
        (shaped deep l (suc n) at ≡ true) × (foreign deep l (suc n) at ≡ false)
    go true x b y c z q r = let o : ◌≡◌ {A = ℕ} 0 1 = true_false (sym q) in absurd (omega arith)
    go false x true y c z q r = let o : ◌≡◌ {A = ℕ} 0 1 = true_false (sym q) in absurd (omega arith)
    go false x false y false z q r = let o : ◌≡◌ {A = ℕ} 0 1 = true_false (sym q) in absurd (omega arith)
    go false x false y true z q r =
        let w : byte_at l at ≤ 1 = ltb-false _ _ y in
        let t : byte_at l at < 2 = omega arith in
        let i : entry_end deep l at ≡ e = entry_simple deep l at t z in
        let c : content_of deep l at e ≡ Plain =
        content_plain deep l at e (named_low (byte_at l at) t) (callback_low (byte_at l at) t) in
        let s = r q in
        (rw (i, ne_eqb e 0 (eqb-false _ _ x), c) s.0, rw (i, c) s.1)

pub simple_plain : (deep : Bool) (l : List ℕ) → simple deep l ≡ true → scan_of deep l ≡ Plain
unfolding simple scan_of
simple_plain deep l p = let w = walked deep l (u16_at l 4) 8 p in rw (w.0, w.1)
