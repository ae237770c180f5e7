-- An entry whose bits are all decided leaves the tally as it was.
-- Assumes nothing.
use Prim.Native.Nat.{ℕ, ◌^◌}
use mathlib.Core.Bool.{Bool, true, false, not, ◌&&◌, ◌||◌}
use mathlib.Core.Path.{◌≡◌, refl, sym, ap, ap₂, ◌∙◌}
use native.Mathlib.Omega.{arith}
use borrow.Author.Tests.{ltb-true, ltb-false}
use lib.Bits.{or_zero_r}
use lib.Dec.{ltb}
use Rattle.base.proofs.BitLaws.{and_bit, or_bit, flip_bit, flip_lt, bits_ext, zero_bit, high_bit}
use Rattle.base.proofs.BitsLaws.{covers_within}
use Rattle.base.specs.Bits.{and, or, flip, covers, bit, Within}
use Rattle.masks.specs.TheTally.{tally, allowing, denying}
use Rattle.masks.specs.declared.tally.Tally.{Tally}

pub or_covered : (d m : ℕ) → covers d m ≡ true → or d m ≡ d
unfolding Within
or_covered d m e = bits_ext (or d m) d (λ i. or_bit d m i ∙ go (bit d i) (bit m i) (covers_within d m e i))
  where
    go : (x y : Bool) → (y ≡ true → x ≡ true) → (x || y) ≡ x
    go true y f = refl
    go false true f = sym (f refl)
    go false false f = refl

-- the bits of the flip: those below 32 that the mask has not, and none above
flip_none : (d i : ℕ) → bit d i ≡ true → bit (flip d) i ≡ false
flip_none d i e = go (ltb d (2 ^ 32)) refl (ltb i 32) refl
  where
    go : (x : Bool) → ltb d (2 ^ 32) ≡ x → (y : Bool) → ltb i 32 ≡ y → bit (flip d) i ≡ false
    go true p true q = flip_bit d i (ltb-true d (2 ^ 32) p) (ltb-true i 32 q) ∙ ap not e
    go true p false q = high_bit 32 (flip d) i (flip_lt d) (ltb-false i 32 q)
    go false p y q = let z : flip d ≡ 0 = omega (arith, ltb-false d (2 ^ 32) p) in ap (λ (n : ℕ). bit n i) z ∙ zero_bit i

pub flip_covered : (d m : ℕ) → covers d m ≡ true → and m (flip d) ≡ 0
unfolding Within
flip_covered d m e = bits_ext (and m (flip d)) 0 (λ i. and_bit m (flip d) i ∙ go i (bit m i) refl ∙ sym (zero_bit i))
  where
    go : (i : ℕ) (y : Bool) → bit m i ≡ y → (y && bit (flip d) i) ≡ false
    go i true p = flip_none d i (covers_within d m e i p)
    go i false p = refl

pub denying_decided : (t : Tally) (m : ℕ) → covers t.decided.0 m ≡ true → denying t m ≡ t
denying_decided t m e = ap (λ (d : ℕ). tally d t.allowed.0) (or_covered t.decided.0 m e)

pub allowing_decided : (t : Tally) (m : ℕ) → covers t.decided.0 m ≡ true → allowing t m ≡ t
allowing_decided t m e =
    ap₂ tally (or_covered t.decided.0 m e)
    (ap (λ (n : ℕ). or t.allowed.0 n) (flip_covered t.decided.0 m e) ∙ or_zero_r t.allowed.0)
