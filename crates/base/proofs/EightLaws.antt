-- Laws of numbers of eight bytes at a place, and of lists that are compared eight bytes at a time. The index:
-- by whether the bytes are there: u64_at_in -out; the bound: u64_at_lt; what is read was written so: little_of_u64_at.
-- Equality: eight_miss (a number differs, so the lists do), eight_hit (where it does not, the lists begin alike for eight more),
-- eight_end (they begin alike, and so do they end).
-- Not here: numbers of two, four and six bytes, WordsLaws. Assumes nothing.
use Prim.Native.Nat.{ℕ, ◌+◌, ◌-◌, ◌*◌, ◌^◌, ◌<◌, ◌≤◌}
use mathlib.Core.Path.{◌≡◌, refl, sym, ap, ap₂, ◌∙◌}
use mathlib.Core.List.{List, ◌++◌}
use mathlib.Core.Bool.{Bool, true, false}
use native.Mathlib.Omega.{arith}
use lib.Dec.{T, leb}
use lib.Pow.{are_bytes}
use lib.ListN.{length, take, drop}
use lib.Seq.{take-add, take-take, take_all}
use borrow.Author.Tests.{le-leb, lt-leb, leb-true, leb-false}
use Rattle.base.specs.Bytes.{part, u32_at, u64_at, same, little}
use Rattle.base.proofs.BytesLaws.{part_append, same_false_of_ne, eq_same}
use Rattle.base.proofs.ValueLaws.{little_eight}
use Rattle.base.proofs.WordsLaws.{u32_at_lt, little_of_u32_at}

-- ---- a number of eight bytes, by whether they are there

module _ (s : List ℕ) (at : ℕ) where
  pub u64_at_in : at + 8 ≤ length s → u64_at s at ≡ u32_at s at + 4294967296 * u32_at s (at + 4)
  unfolding u64_at
  u64_at_in h = rw (le-leb (at + 8) (length s) h)

  pub u64_at_out : length s < at + 8 → u64_at s at ≡ 0
  unfolding u64_at
  u64_at_out h = rw (lt-leb (at + 8) (length s) h)

-- ---- its bound, and its bytes

module _ (s : List ℕ) (at : ℕ) where
  pub u64_at_lt : T (are_bytes s) → u64_at s at < 2 ^ 64
  u64_at_lt b = go (leb (at + 8) (length s)) refl
    where
      go : (t : Bool) → leb (at + 8) (length s) ≡ t → u64_at s at < 2 ^ 64
      go true e = rw (u64_at_in s at (leb-true _ _ e)) (omega (arith, u32_at_lt s at b, u32_at_lt s (at + 4) b))
      go false e = rw (u64_at_out s at (leb-false _ _ e)) (omega arith)

  pub little_of_u64_at : T (are_bytes s) → at + 8 ≤ length s → part s at (at + 8) ≡ little 8 (u64_at s at)
  little_of_u64_at b h =
      let e : at + 4 + 4 ≡ at + 8 = omega arith in
      let high = ap (part s (at + 4)) (sym e) ∙ little_of_u32_at s (at + 4) b (omega arith) in
      sym (part_append s at (at + 4) (at + 8) (omega arith) (omega arith))
      ∙ ap₂ ◌++◌ (little_of_u32_at s at b (omega arith)) high
      ∙ sym (ap (little 8) (u64_at_in s at h) ∙ little_eight (u32_at s at) (u32_at s (at + 4)) (u32_at_lt s at b))

-- ---- equal, eight bytes at a time

pub eight_miss : (a b : List ℕ) (at : ℕ) → (u64_at a at ≡ u64_at b at → ⊥) → same a b ≡ false
eight_miss a b at h = same_false_of_ne a b (λ e. h (ap (λ (l : List ℕ). u64_at l at) e))

module _ (a b : List ℕ) (ba : T (are_bytes a)) (bb : T (are_bytes b)) (long : length a ≡ length b) where
  eight_alike : (at : ℕ) → at + 8 ≤ length a → u64_at a at ≡ u64_at b at → take 8 (drop at a) ≡ take 8 (drop at b)
  eight_alike at h e =
      let n : at + 8 - at ≡ 8 = omega arith in
      rw n at (little_of_u64_at a at ba h ∙ ap (little 8) e ∙ sym (little_of_u64_at b at bb (omega arith)))

  pub eight_hit : (i : ℕ) → i + 8 ≤ length a → take i a ≡ take i b → u64_at a i ≡ u64_at b i → take (i + 8) a ≡ take (i + 8) b
  eight_hit i h p e = take-add i 8 a ∙ ap₂ ◌++◌ p (eight_alike i h e) ∙ sym (take-add i 8 b)

  -- the last eight begin at k, no further than what is known to be the same
  pub eight_end : (i k : ℕ) → k ≤ i → k + 8 ≡ length a → take i a ≡ take i b → u64_at a k ≡ u64_at b k → same a b ≡ true
  eight_end i k h l p e =
      let front = sym (take-take k i a h) ∙ ap (take k) p ∙ take-take k i b h in
      let whole = eight_hit k (omega arith) front e in
      eq_same a b (sym (take_all (k + 8) a (omega arith)) ∙ whole ∙ take_all (k + 8) b (omega arith))
