-- A number of more than one byte, group by group: for the loop of `longer`. Over every width up to 64 bits.
-- In order: groups side by side (beside_lt shifted beside_fits within_lt group_lt), groups above groups (above_above); what the groups
-- read so far have to do with the number (Among), from the first on (among_first among_next) to each end (among_cut among_wide
-- among_last last_wide last_zero last_some); a number of five groups at once (five_groups); and what a number of more than one byte is at least (longer_found).
-- Assumes nothing.
use Prim.Native.Nat.{ℕ, suc, ◌+◌, ◌-◌, ◌*◌, ◌%◌, ◌^◌, ◌<◌, ◌≤◌}
use mathlib.Core.Path.{◌≡◌, refl, sym, ap, ap₂, ◌∙◌}
use mathlib.Core.List.{List, ◌∷◌}
use mathlib.Core.Bool.{Bool, true, false, cond}
use native.Mathlib.Nat.{add-mul, mul_assoc, mul_comm}
use native.Mathlib.Omega.{arith}
use lib.Arith.{digits_lt}
use lib.Pow.{pow-add, pow_mono, shl_exact}
use lib.Dec.{ltb, eqb}
use lib.ListN.{length, get_or, drop}
use lib.Seq.{drop-cons}
use borrow.Author.Tests.{le-ltb, ltb-true, eqb-false}
use Rattle.std.specs.Prelude.{None, Some}
use Rattle.base.specs.Bytes.{Read}
use Rattle.base.specs.Bytes.Read.{none, some}
use Rattle.base.specs.Sevens.{more, groups, within, number, num_of}
use Rattle.base.specs.declared.sevens.Num.{Num}
use Rattle.base.proofs.SevensSteps.{within_fits, above, above_zero, above_some, number_out, number_last, number_long, number_carry}
use Rattle.base.proofs.SevensSteps.{groups_bounds, number_found, num_none, num_some}

-- ---- groups side by side

-- n bits above k bits
beside_lt : (v w k n : ℕ) → v < 2 ^ k → w < 2 ^ n → v + w * 2 ^ k < 2 ^ (k + n)
beside_lt v w k n a b =
    let d : w * 2 ^ k + v < 2 ^ n * 2 ^ k = digits_lt b a in
    let p : 2 ^ (k + n) ≡ 2 ^ k * 2 ^ n = pow-add 2 k n in
    let m : 2 ^ n * 2 ^ k ≡ 2 ^ k * 2 ^ n = mul_comm (2 ^ n) (2 ^ k) in
    omega arith

module _ (bits k w : ℕ) (narrow : bits ≤ 64) (room : k < bits) (high : w < 2 ^ (bits - k)) where
  -- nothing is shifted out
  pub shifted : (w * 2 ^ k) % 2 ^ 64 ≡ w * 2 ^ k
  shifted = shl_exact (bits - k) k 64 high (omega arith)

  pub beside_fits : (v : ℕ) → v < 2 ^ k → v + (w * 2 ^ k) % 2 ^ 64 < 2 ^ 64
  beside_fits v low =
      let e : k + (bits - k) ≡ bits = omega arith in
      let b : v + w * 2 ^ k < 2 ^ (k + (bits - k)) = beside_lt v w k (bits - k) low high in
      let c : v + w * 2 ^ k < 2 ^ bits = rw e at b in
      let m : 2 ^ bits ≤ 2 ^ 64 = pow_mono {i = bits} {j = 64} narrow in
      rw shifted (omega arith)

-- a last group as the code answers it, and one that is not the last
pub within_lt : (bits v n : ℕ) (r : Num) → Some r ≡ num_of (within bits (some v n)) → r.value < 2 ^ bits
unfolding num_of within
within_lt bits v n r is = go (ltb v (2 ^ bits)) refl is
  where
    go : (t : Bool) → ltb v (2 ^ bits) ≡ t → Some r ≡ num_of (cond t (some v n) none) → r.value < 2 ^ bits
    go true e q = let i : r.value ≡ v = cc in omega (arith, ltb-true v (2 ^ bits) e)
    go false e q = cc

pub group_lt : (bits b : ℕ) → b < 256 → 7 < bits → b - 128 < 2 ^ bits
group_lt bits b h k = let m : 2 ^ 7 ≤ 2 ^ bits = pow_mono {i = 7} {j = bits} (omega arith) in omega arith

-- ---- groups above groups

above_above : (v k g : ℕ) (r : Read ℕ) → above v k (above g 7 r) ≡ above (v + g * 2 ^ k) (k + 7) r
above_above v k g none = refl
above_above v k g (some w n) = go (eqb w 0) refl
  where
    go : (t : Bool) → eqb w 0 ≡ t →
        above v k (cond t none (some (g + w * 2 ^ 7) n)) ≡ cond t none (some (v + g * 2 ^ k + w * 2 ^ (k + 7)) n)
    go true e = refl
    go false e =
        let q : (w ≡ 0 → ⊥) = eqb-false w 0 e in
        let m : w * 2 ^ 7 * 2 ^ k ≡ w * 2 ^ (k + 7) =
        mul_assoc w (2 ^ 7) (2 ^ k) ∙ ap (λ (x : ℕ). w * x) (mul_comm (2 ^ 7) (2 ^ k) ∙ sym (pow-add 2 k 7)) in
        let d : (g + w * 2 ^ 7) * 2 ^ k ≡ g * 2 ^ k + w * 2 ^ 7 * 2 ^ k = add-mul g (w * 2 ^ 7) (2 ^ k) in
        let e : v + (g + w * 2 ^ 7) * 2 ^ k ≡ v + g * 2 ^ k + w * 2 ^ (k + 7) = omega arith in
        above_some v k (g + w * 2 ^ 7) n (λ z. q (omega arith)) ∙ ap (λ (x : ℕ). some x n) e

-- ---- from group to group

-- the groups of the number at a place that were read, k bits of them with the value v; the rest of it stands at p
pub record Among (bits : ℕ) (s : List ℕ) (at v k p : ℕ) : Type 0 where
  pub low : v < 2 ^ k
  pub told : number bits s at ≡ above v k (number (bits - k) s p)

pub among_first : (bits : ℕ) (s : List ℕ) (at b : ℕ) → b ≡ get_or s at 0 → at < length s → 128 ≤ b → b < 256 → 7 < bits →
    Among bits s at (b - 128) 7 (at + 1)
among_first bits s at b is inside h h' k =
    rw is (record { low = omega arith; told = number_carry bits s at inside (omega arith) (omega arith) k })

module _ (bits : ℕ) (s : List ℕ) (at v k p : ℕ) (among : Among bits s at v k p) where
  pub among_cut : length s ≤ p → number bits s at ≡ none
  among_cut h = among.told ∙ ap (above v k) (number_out (bits - k) s p h)

  module _ (b : ℕ) (is : b ≡ get_or s p 0) (inside : p < length s) where
    pub among_wide : 128 ≤ b → bits - k ≤ 7 → number bits s at ≡ none
    among_wide h l = among.told ∙ ap (above v k) (number_long (bits - k) s p inside (omega arith) l)

    pub among_last : b < 128 → number bits s at ≡ above v k (within (bits - k) (some b (p + 1)))
    among_last h =
        let n : number (bits - k) s p ≡ within (bits - k) (some (get_or s p 0) (p + 1)) = number_last (bits - k) s p inside (omega arith) in
        among.told ∙ ap (above v k) (n ∙ ap (λ (x : ℕ). within (bits - k) (some x (p + 1))) (sym is))

    -- the same as the code answers it: where the last group is too wide, where it is 0, and else
    pub last_wide : b < 128 → None ≡ num_of (within (bits - k) (some b (p + 1))) → None ≡ num_of (number bits s at)
    unfolding num_of
    last_wide h e = sym (ap num_of (among_last h ∙ ap (above v k) (num_none (within (bits - k) (some b (p + 1))) e)))

    pub last_zero : b < 128 → (r : Num) → Some r ≡ num_of (within (bits - k) (some b (p + 1))) → r.value ≡ 0 → None ≡ num_of (number bits s at)
    unfolding num_of
    last_zero h r e z =
        sym (ap num_of (among_last h ∙ ap (above v k) (num_some (within (bits - k) (some b (p + 1))) r e) ∙ above_zero v k r.value r.next z))

    pub last_some : b < 128 → (r : Num) → Some r ≡ num_of (within (bits - k) (some b (p + 1))) → (r.value ≡ 0 → ⊥) →
        Some (record { value = v + r.value * 2 ^ k; next = r.next }) ≡ num_of (number bits s at)
    unfolding num_of
    last_some h r e z =
        sym (ap num_of (among_last h ∙ ap (above v k) (num_some (within (bits - k) (some b (p + 1))) r e) ∙ above_some v k r.value r.next z))

    pub among_next : 128 ≤ b → b < 256 → 7 < bits - k → Among bits s at (v + (b - 128) * 2 ^ k) (k + 7) (p + 1)
    among_next h h' l =
        let e : bits - k - 7 ≡ bits - (k + 7) = omega arith in
        let c : number (bits - k) s p ≡ above (b - 128) 7 (number (bits - k - 7) s (p + 1)) =
        rw is (number_carry (bits - k) s p inside (omega arith) (omega arith) l) in
        let a = above_above v k (b - 128) (number (bits - k - 7) s (p + 1)) in
        let f = ap (λ (n : ℕ). above (v + (b - 128) * 2 ^ k) (k + 7) (number n s (p + 1))) e in
        record { low = beside_lt v (b - 128) k 7 among.low (omega arith); told = among.told ∙ ap (above v k) c ∙ a ∙ f }

-- ---- five groups at once

module _ (s : List ℕ) (at : ℕ) (inside : at + 5 ≤ length s) (a b c d e : ℕ) (isa : a ≡ get_or s at 0) (isb : b ≡ get_or s (at + 1) 0)
    (isc : c ≡ get_or s (at + 2) 0) (isd : d ≡ get_or s (at + 3) 0) (ise : e ≡ get_or s (at + 4) 0) where
  -- the places, one after the other
  second : at + 1 + 1 ≡ at + 2
  second = omega arith

  third : at + 1 + 1 + 1 ≡ at + 3
  third = omega arith

  fourth : at + 1 + 1 + 1 + 1 ≡ at + 4
  fourth = omega arith

  -- the value of the first four
  abbrev lower : ℕ
  lower = a - 128 + (b - 128) * 2 ^ 7 + (c - 128) * 2 ^ (7 + 7) + (d - 128) * 2 ^ (7 + 7 + 7)

  module _ (la : 128 ≤ a) (ha : a < 256) (lb : 128 ≤ b) (hb : b < 256) (lc : 128 ≤ c) (hc : c < 256) (ld : 128 ≤ d) (hd : d < 256) where
    four : Among 32 s at lower (7 + 7 + 7 + 7) (at + 1 + 1 + 1 + 1)
    four =
        let one = among_first 32 s at a isa (omega arith) la ha (omega arith) in
        let two = among_next 32 s at _ _ _ one b isb (omega arith) lb hb (omega arith) in
        let three = among_next 32 s at _ _ _ two c (isc ∙ ap (λ (p : ℕ). get_or s p 0) (sym second)) (omega arith) lc hc (omega arith) in
        among_next 32 s at _ _ _ three d (isd ∙ ap (λ (p : ℕ). get_or s p 0) (sym third)) (omega arith) ld hd (omega arith)

    pub five_groups : (e ≡ 0 → ⊥) → e ≤ 15 → (v : ℕ) →
        v ≡ a - 128 + 128 * (b - 128) + 16384 * (c - 128) + 2097152 * (d - 128) + 268435456 * e →
        number 32 s at ≡ some v (at + 5)
    five_groups nonzero few v is =
        let last = among_last 32 s at lower (7 + 7 + 7 + 7) (at + 1 + 1 + 1 + 1) four e (ise ∙ ap (λ (p : ℕ). get_or s p 0) (sym fourth))
        (omega arith) (omega arith) in
        last ∙ ap (above lower (7 + 7 + 7 + 7)) (within_fits 4 e (at + 1 + 1 + 1 + 1 + 1) (omega arith)) ∙
        above_some lower (7 + 7 + 7 + 7) e (at + 1 + 1 + 1 + 1 + 1) nonzero ∙ ap₂ some (omega arith) (omega arith)

-- ---- what was found

more_found : (g : ℕ) (r : Read ℕ) (v n : ℕ) → ((w m : ℕ) → r ≡ some w m → 0 < m) → more g r ≡ some v n → (128 ≤ v) × (1 < n)
unfolding more
more_found g none v n f e = let z : ◌≡◌ {A = ℕ} 0 1 = cc in absurd (omega arith)
more_found g (some w m) v n f e = go (eqb w 0) refl e
  where
    go : (t : Bool) → eqb w 0 ≡ t → cond t none (some (g + 128 * w) (m + 1)) ≡ some v n → (128 ≤ v) × (1 < n)
    go true q d = let z : ◌≡◌ {A = ℕ} 0 1 = cc in absurd (omega arith)
    go false q d =
        let a : v ≡ g + 128 * w = cc in
        let b : n ≡ m + 1 = cc in
        (omega (arith, eqb-false w 0 q), omega (arith, f w m refl))

groups_longer : (b : ℕ) (s : List ℕ) (v n : ℕ) → 128 ≤ b → groups (b ∷ s) ≡ some v n → (128 ≤ v) × (1 < n)
unfolding groups
groups_longer b s v n h e = more_found (b - 128) (groups s) v n (λ w m q. (groups_bounds s w m q).0) (rw (le-ltb b 128 h) at e)

-- a number that does not begin with its last group takes more than one byte, and is 128 or more
pub longer_found : (bits : ℕ) (s : List ℕ) (at v n : ℕ) → 128 ≤ get_or s at 0 → number bits s at ≡ some v n → (128 ≤ v) × (at + 1 < n)
longer_found bits s at v n h e =
    let f = number_found bits s at v n e in
    let past : at < n = f.past in
    let inside : n ≤ length s = f.inside in
    let d : drop at s ≡ get_or s at 0 ∷ drop (suc at) s = drop-cons s at 0 (omega arith) in
    let g = groups_longer (get_or s at 0) (drop (suc at) s) v (n - at) h (sym (ap groups d) ∙ f.told) in
    (g.0, omega (arith, g.1))
