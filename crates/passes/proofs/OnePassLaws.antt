-- What a pass allows, bit by bit. In order: a pass allows nothing outside the kind's all bits, so no entry gives 0x01000000; and the tally
-- that the code carries has exactly the bits that the first deciding entry grants.
-- Assumes nothing.
use Prim.Native.Nat.{ℕ, ◌^◌, ◌<◌}
use mathlib.Core.Bool.{Bool, true, false, cond, not, ◌&&◌, ◌||◌}
use mathlib.Core.List.{List, [], ◌∷◌}
use mathlib.Core.Path.{◌≡◌, refl, sym, ◌∙◌}
use native.Mathlib.Omega.{arith}
use lib.Bits as B
use Rattle.base.proofs.BitLaws.{and_bit, or_bit, flip_bit, zero_bit}
use Rattle.base.proofs.BitsLaws.{within_trans, and_within_l, or_within}
use Rattle.base.specs.Bits.{and, or, flip, bit, Within}
use Rattle.lists.specs.Acl.{Entry}
use Rattle.records.specs.Crowd.{Member}
use Rattle.masks.specs.KindsAndMasks.{all_bits, entry_mask}
use Rattle.masks.specs.TheTally.{emptied, allowing, denying}
use Rattle.passes.specs.OnePass.{skipped, allows, speaks, taken, run, passed, granted}
use Rattle.passes.specs.declared.matching.Hits.{Hits}
use Rattle.masks.specs.declared.tally.Tally.{Tally}
use Rattle.base.proofs.BoolLaws.{true_false}
use Rattle.masks.proofs.MasksLaws.{all_bits_lt, all_bits_high, within_lt, within_false, entry_mask_within, entry_mask_lt}

-- ---- nothing outside the kind's all bits

module _ (kind : ℕ) (ms : List Member) (h : Hits) where
  taken_within : (t : Tally) (x : Entry) → Within t.allowed.0 (all_bits kind) → Within (taken kind ms h t x).allowed.0 (all_bits kind)
  unfolding taken
  taken_within t x w = go (skipped x) (speaks ms h x) (allows x)
    where
      m : ℕ
      m = entry_mask kind x.mask

      go : (skip hit allow : Bool) → Within (cond skip t (cond hit (cond allow (allowing t m) (denying t m)) t)).allowed.0 (all_bits kind)
      go true hit allow = w
      go false true true =
          or_within t.allowed.0 (and m (flip t.decided.0)) (all_bits kind) w
          (within_trans (and m (flip t.decided.0)) m (all_bits kind) (and_within_l m (flip t.decided.0))
          (entry_mask_within kind x.mask))
      go false true false = w
      go false false allow = w

  run_within : (es : List Entry) (t : Tally) → Within t.allowed.0 (all_bits kind) →
      Within (run kind ms h t es).allowed.0 (all_bits kind)
  unfolding run
  run_within [] t w = w
  run_within (x ∷ es) t w = run_within es (taken kind ms h t x) (taken_within t x w)

  pub passed_within : (es : List Entry) → Within (passed kind ms h es) (all_bits kind)
  unfolding Within
  passed_within es = run_within es emptied (λ i e. true_false (sym e ∙ zero_bit i))

  pub passed_lt : (es : List Entry) → passed kind ms h es < 2 ^ 32
  passed_lt es = let k = within_lt 21 (passed kind ms h es) (all_bits kind) (passed_within es) (all_bits_lt kind) in omega (arith, k)

  -- 0x01000000 comes from no entry
  pub no_security_from_entry : (es : List Entry) → bit (passed kind ms h es) 24 ≡ false
  no_security_from_entry es = within_false (passed kind ms h es) (all_bits kind) 24 (passed_within es) (all_bits_high kind 24 (omega arith))

-- ---- "Each bit is decided by the first matching entry that has it"

-- the bit that a tally comes to, where the entries left decide it as f
abbrev comes : Tally → ℕ → Bool → Bool
comes t i f = bit t.allowed.0 i || (not (bit t.decided.0 i) && f)

by_allow : (g d m f : Bool) → ((g || (m && not d)) || (not (d || m) && f)) ≡ (g || (not d && cond m true f))
by_allow true d m f = refl
by_allow false true true f = refl
by_allow false true false f = refl
by_allow false false true f = refl
by_allow false false false f = refl

by_deny : (g d m f : Bool) → (g || (not (d || m) && f)) ≡ (g || (not d && cond m false f))
by_deny true d m f = refl
by_deny false true m f = refl
by_deny false false true f = refl
by_deny false false false f = refl

none : (g d : Bool) → g ≡ (g || (not d && false))
none true d = refl
none false true = refl
none false false = refl

module _ (i : ℕ) (small : i < 32) where
  allow_bit : (t : Tally) (m : ℕ) (f : Bool) → t.decided.0 < 2 ^ 32 → comes (allowing t m) i f ≡ comes t i (cond (bit m i) true f)
  allow_bit t m f h =
      simp (or_bit, and_bit, flip_bit t.decided.0 i h small) (by_allow (bit t.allowed.0 i) (bit t.decided.0 i) (bit m i) f)

  deny_bit : (t : Tally) (m : ℕ) (f : Bool) → comes (denying t m) i f ≡ comes t i (cond (bit m i) false f)
  deny_bit t m f = simp or_bit (by_deny (bit t.allowed.0 i) (bit t.decided.0 i) (bit m i) f)

  module _ (kind : ℕ) (ms : List Member) (h : Hits) where
    step_fits : (t : Tally) (x : Entry) → t.decided.0 < 2 ^ 32 → (taken kind ms h t x).decided.0 < 2 ^ 32
    unfolding taken
    step_fits t x k = go (skipped x) (speaks ms h x) (allows x)
      where
        m : ℕ
        m = entry_mask kind x.mask

        both : or t.decided.0 m < 2 ^ 32
        both = B.or_lt 32 t.decided.0 m k (entry_mask_lt kind x.mask)

        go : (skip hit allow : Bool) → (cond skip t (cond hit (cond allow (allowing t m) (denying t m)) t)).decided.0 < 2 ^ 32
        go true hit allow = k
        go false true true = both
        go false true false = both
        go false false allow = k

    step_bit : (t : Tally) (x : Entry) (f : Bool) → t.decided.0 < 2 ^ 32 →
        comes (taken kind ms h t x) i f
        ≡ comes t i (cond (skipped x) f (cond (speaks ms h x) (cond (bit (entry_mask kind x.mask) i) (allows x) f) f))
    unfolding taken
    step_bit t x f k = go (skipped x) (speaks ms h x) (allows x)
      where
        m : ℕ
        m = entry_mask kind x.mask

        go : (skip hit allow : Bool) →
            comes (cond skip t (cond hit (cond allow (allowing t m) (denying t m)) t)) i f
            ≡ comes t i (cond skip f (cond hit (cond (bit m i) allow f) f))
        go true hit allow = refl
        go false true true = allow_bit t m f k
        go false true false = deny_bit t m f
        go false false allow = refl

    run_bit : (es : List Entry) (t : Tally) → t.decided.0 < 2 ^ 32 →
        bit (run kind ms h t es).allowed.0 i ≡ comes t i (granted kind ms h es i)
    unfolding run granted
    run_bit [] t k = none (bit t.allowed.0 i) (bit t.decided.0 i)
    run_bit (x ∷ es) t k = run_bit es (taken kind ms h t x) (step_fits t x k) ∙ step_bit t x (granted kind ms h es i) k

-- the pass begins with the empty tally
pub first_decides : (kind : ℕ) (ms : List Member) (h : Hits) (es : List Entry) (i : ℕ) → i < 32 →
    bit (passed kind ms h es) i ≡ granted kind ms h es i
first_decides kind ms h es i small = run_bit i small kind ms h es emptied (omega arith) ∙ rw (zero_bit i)
