-- Laws of masks, by their bits. The index:
-- operations: and_assoc or_assoc and_or_distrib flip_flip split and_flip_apart.
-- Within: within_refl within_trans and_within_l and_within_r zero_within and_mono or_within_l or_within_r or_within; as a test: within_and and_within
-- covers_within within_covers.
-- has: has_false has_true not_has no_common has_of_bit.
-- Not here: the bit of an operation, mask_ext: BitLaws. and_comm or-comm xor-comm and-self or-self and-zero-l and_le_l and-lt or_lt
-- xor-lt: lib.Bits, of the same operations. Assumes nothing.
use Prim.Native.Nat.{ℕ, ◌^◌, ◌<◌}
use mathlib.Core.Path.{◌≡◌, refl, sym, ap, ◌∙◌}
use mathlib.Core.Bool.{Bool, true, false, not, ◌&&◌, ◌||◌}
use mathlib.Core.Bool as bool
use native.Mathlib.Omega.{arith}
use lib.Dec.{eqb}
use lib.Bits as B
use borrow.Author.Tests.{eq-eqb, eqb-true}
use Rattle.base.specs.Bits.{bit, and, or, flip, has, covers, Within}
use Rattle.base.proofs.BitLaws.{and_bit, or_bit, flip_bit, zero_bit, mask_ext, bits_ext}

-- ---- operations

pub and_assoc : (a b c : ℕ) → and (and a b) c ≡ and a (and b c)
and_assoc a b c =
    bits_ext _ _ (λ i. rw (and_bit (and a b) c i, and_bit a b i, and_bit a (and b c) i, and_bit b c i)
    (bool.and_assoc (bit a i) (bit b i) (bit c i)))

pub or_assoc : (a b c : ℕ) → or (or a b) c ≡ or a (or b c)
or_assoc a b c =
    bits_ext _ _ (λ i. rw (or_bit (or a b) c i, or_bit a b i, or_bit a (or b c) i, or_bit b c i)
    (bool.or_assoc (bit a i) (bit b i) (bit c i)))

pub and_or_distrib : (a b c : ℕ) → and a (or b c) ≡ or (and a b) (and a c)
and_or_distrib a b c =
    bits_ext _ _ (λ i. rw (and_bit a (or b c) i, or_bit b c i, or_bit (and a b) (and a c) i, and_bit a b i, and_bit a c i)
    (bool.and-or_distrib_left (bit a i) (bit b i) (bit c i)))

pub flip_flip : (a : ℕ) → a < 2 ^ 32 → flip (flip a) ≡ a
flip_flip a h = omega arith

merge : (x y : Bool) → (x && y || x && not y) ≡ x
merge true true = refl
merge true false = refl
merge false true = refl
merge false false = refl

-- a mask is what of it lies in b, with what of it does not
pub split : (a b : ℕ) → a < 2 ^ 32 → b < 2 ^ 32 → or (and a b) (and a (flip b)) ≡ a
split a b ha hb =
    mask_ext (or (and a b) (and a (flip b))) a
    (B.or_lt 32 (and a b) (and a (flip b)) (omega (arith, B.and_le_l a b)) (omega (arith, B.and_le_l a (flip b)))) ha
    (λ i l. rw (or_bit, and_bit a b i, and_bit a (flip b) i, flip_bit b i hb l) (merge (bit a i) (bit b i)))

apart : (x y : Bool) → (x && not y && y) ≡ false
apart true true = refl
apart true false = refl
apart false y = refl

-- what does not lie in b has nothing of b
pub and_flip_apart : (a b : ℕ) → b < 2 ^ 32 → and (and a (flip b)) b ≡ 0
and_flip_apart a b h =
    mask_ext (and (and a (flip b)) b) 0 (omega (arith, B.and_le_r (and a (flip b)) b)) (omega arith)
    (λ i l. rw (and_bit (and a (flip b)) b i, and_bit a (flip b) i, flip_bit b i h l, zero_bit i) (apart (bit a i) (bit b i)))

-- ---- Within

and-true : (x y : Bool) → (x && y) ≡ true → (x ≡ true) × (y ≡ true)
and-true true y e = (refl, e)
and-true false y e = let z : ◌≡◌ {A = ℕ} 0 1 = cc in absurd (omega arith)

pub within_refl : (a : ℕ) → Within a a
unfolding Within
within_refl a i e = e

pub within_trans : (a b c : ℕ) → Within a b → Within b c → Within a c
unfolding Within
within_trans a b c f g i e = g i (f i e)

pub and_within_l : (a b : ℕ) → Within (and a b) a
unfolding Within
and_within_l a b i e = (and-true (bit a i) (bit b i) (sym (and_bit a b i) ∙ e)).0

pub and_within_r : (a b : ℕ) → Within (and a b) b
unfolding Within
and_within_r a b i e = (and-true (bit a i) (bit b i) (sym (and_bit a b i) ∙ e)).1

pub zero_within : (a : ℕ) → Within 0 a
unfolding Within
zero_within a i e = let f = zero_bit i in let z : ◌≡◌ {A = ℕ} 0 1 = cc in absurd (omega arith)

pub and_mono : (a b c d : ℕ) → Within a b → Within c d → Within (and a c) (and b d)
unfolding Within
and_mono a b c d f g i e =
    let x = f i (and_within_l a c i e) in
    let y = g i (and_within_r a c i e) in
    and_bit b d i ∙ rw (x, y)

pub or_within_l : (a b : ℕ) → Within a (or a b)
unfolding Within
or_within_l a b i e = or_bit a b i ∙ rw e

pub or_within_r : (a b : ℕ) → Within b (or a b)
unfolding Within
or_within_r a b i e = or_bit a b i ∙ rw e (bool.or-true (bit a i))

pub or_within : (a b c : ℕ) → Within a c → Within b c → Within (or a b) c
unfolding Within
or_within a b c f g i e = go (bit a i) (bit b i) (f i) (g i) (sym (or_bit a b i) ∙ e)
  where
    go : (x y : Bool) → (x ≡ true → bit c i ≡ true) → (y ≡ true → bit c i ≡ true) → (x || y) ≡ true → bit c i ≡ true
    go true y f g e = f refl
    go false y f g e = g e

-- the test that the code makes: a & b == a exactly where a lies within b
pub within_and : (a b : ℕ) → Within a b → and a b ≡ a
unfolding Within
within_and a b w = bits_ext (and a b) a (λ i. and_bit a b i ∙ go (bit a i) (bit b i) (w i))
  where
    go : (x y : Bool) → (x ≡ true → y ≡ true) → (x && y) ≡ x
    go true y f = f refl
    go false y f = refl

pub and_within : (a b : ℕ) → and a b ≡ a → Within a b
unfolding Within
and_within a b e i p = and_within_r a b i (ap (λ (m : ℕ). bit m i) e ∙ p)

pub covers_within : (m b : ℕ) → covers m b ≡ true → Within b m
covers_within m b e = and_within b m (B.and_comm b m ∙ eqb-true _ _ e)

pub within_covers : (m b : ℕ) → Within b m → covers m b ≡ true
within_covers m b w = eq-eqb _ _ (B.and_comm m b ∙ within_and b m w)

-- ---- has

pub has_false : (m b : ℕ) → has m b ≡ false → and m b ≡ 0
has_false m b e = go (eqb (and m b) 0) refl e
  where
    go : (t : Bool) → eqb (and m b) 0 ≡ t → not t ≡ false → and m b ≡ 0
    go true q f = eqb-true _ _ q
    go false q f = let z : ◌≡◌ {A = ℕ} 0 1 = cc in absurd (omega arith)

pub has_true : (m b : ℕ) → has m b ≡ true → and m b ≡ 0 → ⊥
has_true m b e z = let q = eq-eqb (and m b) 0 z in let f = ap not q in let w : ◌≡◌ {A = ℕ} 0 1 = cc in omega arith

pub not_has : (m b : ℕ) → and m b ≡ 0 → has m b ≡ false
not_has m b z = rw (eq-eqb (and m b) 0 z)

-- masks with nothing in common, bit by bit
pub no_common : (m b i : ℕ) → and m b ≡ 0 → bit m i ≡ true → bit b i ≡ false
no_common m b i z e = go (bit b i) (sym (and_bit m b i) ∙ ap (λ (n : ℕ). bit n i) z ∙ zero_bit i)
  where
    go : (y : Bool) → (bit m i && y) ≡ false → y ≡ false
    go y f = sym (ap (λ (x : Bool). x && y) e) ∙ f

pub has_of_bit : (m b i : ℕ) → bit m i ≡ true → bit b i ≡ true → has m b ≡ true
has_of_bit m b i e f = go (has m b) refl
  where
    go : (t : Bool) → has m b ≡ t → t ≡ true
    go true q = refl
    go false q = let n = no_common m b i (has_false m b q) e in sym (sym f ∙ n)
