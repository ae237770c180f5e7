-- What the number at a place is, by the byte that stands there. Over every width; for `number_at`, for the loop of `longer` (LongerLaws),
-- and for what is written and read back (SevensLaws).
-- In order: within the width (within_fits within_wide), a group below what follows (long_more carry_more), the number at a place by its
-- first byte (above above_zero above_some number_out number_last number_alone number_long number_carry), what a number that was found says
-- (number_found), and a reading as the code answers it, with its bounds (num_none num_some num_bounds num_answer).
-- Assumes nothing.
use Prim.Native.Nat.{ℕ, suc, ◌+◌, ◌-◌, ◌*◌, ◌^◌, ◌<◌, ◌≤◌}
use mathlib.Core.Path.{◌≡◌, refl, sym, ap, ap₂, ◌∙◌}
use mathlib.Core.List.{List, [], ◌∷◌}
use mathlib.Core.Bool.{Bool, true, false, cond}
use native.Mathlib.Numerals.{add-one}
use native.Mathlib.Omega.{arith}
use lib.Pow.{pow_mono, pow-add}
use lib.Dec.{ltb, eqb}
use lib.ListN.{length, get_or, drop, length-drop, drop_of_length-le}
use lib.Seq.{drop-cons}
use borrow.Author.Tests.{lt-ltb, le-ltb, eq-eqb, ne_eqb, ltb-true, ltb-false, eqb-false}
use Rattle.std.specs.Prelude.{Option, None, Some, IfSome}
use Rattle.base.specs.Bytes.{Read}
use Rattle.base.specs.Bytes.Read.{none, some}
use Rattle.base.specs.Sevens.{more, groups, within, placed, number, num_of}
use Rattle.base.specs.declared.sevens.Num.{Num}

-- ---- within the width

pub within_fits : (bits v n : ℕ) → v < 2 ^ bits → within bits (some v n) ≡ some v n
unfolding within
within_fits bits v n h = rw (lt-ltb v (2 ^ bits) h)

pub within_wide : (bits v n : ℕ) → 2 ^ bits ≤ v → within bits (some v n) ≡ none
unfolding within
within_wide bits v n h = rw (le-ltb v (2 ^ bits) h)

-- ---- a group g below what follows

-- 2 ^ bits is 128 times 2 ^ (bits - 7)
pow_split : (bits : ℕ) → 7 ≤ bits → 2 ^ bits ≡ 128 * 2 ^ (bits - 7)
pow_split bits h = let e : bits ≡ 7 + (bits - 7) = omega arith in ap (λ (n : ℕ). 2 ^ n) e ∙ pow-add 2 7 (bits - 7)

pub long_more : (bits g : ℕ) (r : Read ℕ) → bits ≤ 7 → within bits (more g r) ≡ none
unfolding within more
long_more bits g none k = refl
long_more bits g (some v n) k = go (eqb v 0) refl
  where
    go : (t : Bool) → eqb v 0 ≡ t → within bits (cond t none (some (g + 128 * v) (n + 1))) ≡ none
    go true e = refl
    go false e =
        let p : 2 ^ bits ≤ 2 ^ 7 = pow_mono k in
        let q : (v ≡ 0 → ⊥) = eqb-false v 0 e in
        let o : 2 ^ bits ≤ g + 128 * v = omega (arith, q) in
        simp (le-ltb (g + 128 * v) (2 ^ bits) o)

pub carry_more : (bits g : ℕ) (r : Read ℕ) → g < 128 → 7 < bits → within bits (more g r) ≡ more g (within (bits - 7) r)
unfolding within more
carry_more bits g none h k = refl
carry_more bits g (some v n) h k = go (eqb v 0) refl (ltb v (2 ^ (bits - 7))) refl
  where
    go : (t : Bool) → eqb v 0 ≡ t → (u : Bool) → ltb v (2 ^ (bits - 7)) ≡ u →
        within bits (cond t none (some (g + 128 * v) (n + 1))) ≡ more g (cond u (some v n) none)
    go true e true e' = simp e
    go true e false e' = refl
    go false e true e' =
        let p : 2 ^ bits ≡ 128 * 2 ^ (bits - 7) = pow_split bits (omega arith) in
        let q : v < 2 ^ (bits - 7) = ltb-true _ _ e' in
        simp (e, lt-ltb (g + 128 * v) (2 ^ bits) (omega arith))
    go false e false e' =
        let p : 2 ^ bits ≡ 128 * 2 ^ (bits - 7) = pow_split bits (omega arith) in
        let q : 2 ^ (bits - 7) ≤ v = ltb-false _ _ e' in
        simp (le-ltb (g + 128 * v) (2 ^ bits) (omega arith))

-- ---- the number at a place, by its first byte

-- groups of k bits with the value v, below what follows, which may not be 0
abbrev pub above : ℕ → ℕ → Read ℕ → Read ℕ
above v k none = none
above v k (some w n) = cond (eqb w 0) none (some (v + w * 2 ^ k) n)

pub above_zero : (v k w n : ℕ) → w ≡ 0 → above v k (some w n) ≡ none
above_zero v k w n h = rw (eq-eqb w 0 h)

pub above_some : (v k w n : ℕ) → (w ≡ 0 → ⊥) → above v k (some w n) ≡ some (v + w * 2 ^ k) n
above_some v k w n h = rw (ne_eqb w 0 h)

placed_more : (at g : ℕ) (r : Read ℕ) → placed at (more g r) ≡ above g 7 (placed (at + 1) r)
unfolding placed more
placed_more at g none = refl
placed_more at g (some v n) = go (eqb v 0)
  where
    go : (t : Bool) → placed at (cond t none (some (g + 128 * v) (n + 1))) ≡ cond t none (some (g + v * 2 ^ 7) (at + 1 + n))
    go true = refl
    go false = ap₂ some (omega arith) (omega arith)

placed_within : (bits at v n : ℕ) → placed at (within bits (some v n)) ≡ within bits (some v (at + n))
unfolding placed within
placed_within bits at v n = go (ltb v (2 ^ bits))
  where
    go : (t : Bool) → placed at (cond t (some v n) none) ≡ cond t (some v (at + n)) none
    go true = refl
    go false = refl

pub number_out : (bits : ℕ) (s : List ℕ) (at : ℕ) → length s ≤ at → number bits s at ≡ none
unfolding number placed within groups
number_out bits s at h = rw (drop_of_length-le s h)

module _ (bits : ℕ) (s : List ℕ) (at : ℕ) (inside : at < length s) where
  pub number_last : get_or s at 0 < 128 → number bits s at ≡ within bits (some (get_or s at 0) (at + 1))
  unfolding number groups
  number_last h = rw (drop-cons s at 0, lt-ltb (get_or s at 0) 128 h) (placed_within bits at (get_or s at 0) 1)

  -- a number of one byte
  pub number_alone : get_or s at 0 < 128 → 7 ≤ bits → number bits s at ≡ some (get_or s at 0) (at + 1)
  unfolding within
  number_alone h k =
      let p : 2 ^ 7 ≤ 2 ^ bits = pow_mono k in
      number_last h ∙ rw (lt-ltb (get_or s at 0) (2 ^ bits) (omega arith))

  pub number_long : 128 ≤ get_or s at 0 → bits ≤ 7 → number bits s at ≡ none
  unfolding number groups placed
  number_long h k =
      rw (drop-cons s at 0, le-ltb (get_or s at 0) 128 h, long_more bits (get_or s at 0 - 128) (groups (drop (suc at) s)) k)

  pub number_carry : 128 ≤ get_or s at 0 → get_or s at 0 < 256 → 7 < bits →
      number bits s at ≡ above (get_or s at 0 - 128) 7 (number (bits - 7) s (at + 1))
  unfolding number groups
  number_carry h h' k =
      let e : drop at s ≡ get_or s at 0 ∷ drop (at + 1) s = rw (add-one, drop-cons s at 0) in
      rw (e, le-ltb (get_or s at 0) 128 h, carry_more bits (get_or s at 0 - 128) (groups (drop (at + 1) s)) (omega arith) k)
      (placed_more at (get_or s at 0 - 128) (within (bits - 7) (groups (drop (at + 1) s))))

-- ---- bounds

-- a reading of groups takes at least one byte, and no more than there are
pub groups_bounds : (s : List ℕ) (v n : ℕ) → groups s ≡ some v n → (0 < n) × (n ≤ length s)
unfolding groups more
groups_bounds [] v n e = let z : ◌≡◌ {A = ℕ} 0 1 = cc in absurd (omega arith)
groups_bounds (b ∷ s) v n e = go (ltb b 128) (groups s) (λ w m q. groups_bounds s w m q) e
  where
    go : (t : Bool) (r : Read ℕ) → ((w m : ℕ) → r ≡ some w m → (0 < m) × (m ≤ length s)) →
        cond t (some b 1) (more (b - 128) r) ≡ some v n → (0 < n) × (n ≤ suc (length s))
    go true r ih e' = let a : n ≡ 1 = cc in (omega arith, omega arith)
    go false none ih e' = let z : ◌≡◌ {A = ℕ} 0 1 = cc in absurd (omega arith)
    go false (some w m) ih e' = by (eqb w 0) e'
      where
        by : (u : Bool) → cond u none (some (b - 128 + 128 * w) (m + 1)) ≡ some v n → (0 < n) × (n ≤ suc (length s))
        by true q = let z : ◌≡◌ {A = ℕ} 0 1 = cc in absurd (omega arith)
        by false q = let a : n ≡ m + 1 = cc in let i = ih w m refl in (omega arith, omega (arith, i.1))

-- a number at a place: within the width, of at least a byte, in the bytes, and what its groups say
pub record Found (bits : ℕ) (s : List ℕ) (at v n : ℕ) : Type 0 where
  pub fits : v < 2 ^ bits
  pub past : at < n
  pub inside : n ≤ length s
  pub told : groups (drop at s) ≡ some v (n - at)

pub number_found : (bits : ℕ) (s : List ℕ) (at v n : ℕ) → number bits s at ≡ some v n → Found bits s at v n
unfolding number placed within
number_found bits s at v n e = go (groups (drop at s)) refl e
  where
    go : (r : Read ℕ) → groups (drop at s) ≡ r → placed at (within bits r) ≡ some v n → Found bits s at v n
    go none q e' = let z : ◌≡◌ {A = ℕ} 0 1 = cc in absurd (omega arith)
    go (some w m) q e' = by (ltb w (2 ^ bits)) refl e'
      where
        by : (t : Bool) → ltb w (2 ^ bits) ≡ t → placed at (cond t (some w m) none) ≡ some v n → Found bits s at v n
        by true u e'' =
            let a : v ≡ w = cc in
            let b : n ≡ at + m = cc in
            let c : m ≡ n - at = omega arith in
            let d = groups_bounds (drop at s) w m q in
            let l : length (drop at s) ≡ length s - at = length-drop at s in
            let o = ltb-true w (2 ^ bits) u in
            let p : 0 < m = d.0 in
            let i : m ≤ length (drop at s) = d.1 in
            let f = q ∙ ap (λ (x : ℕ). some x m) (sym a) ∙ ap (some v) c in
            record { fits = omega (arith, o); past = omega arith; inside = omega arith; told = f }
        by false u e'' = let z : ◌≡◌ {A = ℕ} 0 1 = cc in absurd (omega arith)

-- ---- a number as the code answers it

pub num_none : (q : Read ℕ) → None ≡ num_of q → q ≡ none
unfolding num_of
num_none none e = refl
num_none (some v n) e = cc

pub num_some : (q : Read ℕ) (r : Num) → Some r ≡ num_of q → q ≡ some r.value r.next
unfolding num_of
num_some none r e = cc
num_some (some v n) r e = cc

-- the bounds of a number as the code answers it
pub num_bounds : (bits : ℕ) (s : List ℕ) (at : ℕ) (r : Num) → Some r ≡ num_of (number bits s at) → (r.value < 2 ^ bits) × (r.next ≤ length s)
num_bounds bits s at r e = let f = number_found bits s at r.value r.next (num_some (number bits s at) r e) in (f.fits, f.inside)

-- the whole of what `number_at` promises, from its first clause
pub num_answer : (bits : ℕ) (s : List ℕ) (at : ℕ) (r : Option Num) → r ≡ num_of (number bits s at) →
    (r ≡ num_of (number bits s at)) × IfSome r (λ n. (n.value < 2 ^ bits) × (n.next ≤ length s))
num_answer bits s at r e = (e, go r e)
  where
    go : (x : Option Num) → x ≡ num_of (number bits s at) → IfSome x (λ n. (n.value < 2 ^ bits) × (n.next ≤ length s))
    go None q = tt
    go (Some n) q = num_bounds bits s at n q
