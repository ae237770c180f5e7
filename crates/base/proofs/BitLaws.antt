-- The bits of a mask. The index:
-- the bit of an operation: and_bit or_bit differ_bit flip_bit ones_bit zero_bit; of a half: bit_half bit_zero; past the width: high_bit.
-- A mask is its bits: ext (k bits), mask_ext (32 bits), bits_ext (any). flip_lt.
-- Not here: laws of masks, BitsLaws. Assumes nothing.
use Prim.Native.Nat.{ℕ, zero, suc, ◌+◌, ◌-◌, ◌*◌, ◌/◌, ◌%◌, ◌^◌, ◌<◌, ◌≤◌, min, max}
use mathlib.Core.Path.{◌≡◌, refl, sym, ap, ◌∙◌}
use mathlib.Core.Bool.{false, not, ◌&&◌, ◌||◌, xor}
use native.Mathlib.Omega.{arith}
use native.Mathlib.Nat.{mod-lt, mul-add-mod_self_right, div-div-eq-div-mul, pow-suc, pow-succ', div-one}
use lib.Dec.{eqb}
use lib.Bits as B
use lib.Pow.{pow_mono, ones_sub-lt}
use Rattle.base.specs.Bits.{bit, and, or, differ, flip}

-- a number below 2 is 0 or 1
data Digit : ℕ → Type 0 where
  is0 : Digit 0
  is1 : Digit 1

digit : (n : ℕ) → n < 2 → Digit n
digit zero h = is0
digit (suc zero) h = is1
digit (suc (suc n)) h = absurd (omega arith)

min_digit : {x y : ℕ} → Digit x → Digit y → eqb (min x y) 1 ≡ (eqb x 1 && eqb y 1)
min_digit is0 is0 = refl
min_digit is0 is1 = refl
min_digit is1 is0 = refl
min_digit is1 is1 = refl

max_digit : {x y : ℕ} → Digit x → Digit y → eqb (max x y) 1 ≡ (eqb x 1 || eqb y 1)
max_digit is0 is0 = refl
max_digit is0 is1 = refl
max_digit is1 is0 = refl
max_digit is1 is1 = refl

dig : (n : ℕ) → Digit (n % 2)
dig n = digit (n % 2) (mod-lt n (omega arith))

digit_mod : {x : ℕ} → Digit x → x % 2 ≡ x
digit_mod is0 = refl
digit_mod is1 = refl

min_dig : {x y : ℕ} → Digit x → Digit y → Digit (min x y)
min_dig is0 is0 = is0
min_dig is0 is1 = is0
min_dig is1 is0 = is0
min_dig is1 is1 = is1

max_dig : {x y : ℕ} → Digit x → Digit y → Digit (max x y)
max_dig is0 is0 = is0
max_dig is0 is1 = is1
max_dig is1 is0 = is1
max_dig is1 is1 = is1

differ_digit : {x y : ℕ} → Digit x → Digit y → eqb (B.differ x y) 1 ≡ xor (eqb x 1) (eqb y 1)
unfolding xor
differ_digit is0 is0 = refl
differ_digit is0 is1 = refl
differ_digit is1 is0 = refl
differ_digit is1 is1 = refl

differ_dig : {x y : ℕ} → Digit x → Digit y → Digit (B.differ x y)
differ_dig is0 is0 = is0
differ_dig is0 is1 = is1
differ_dig is1 is0 = is1
differ_dig is1 is1 = is0

pub and_bit : (a b i : ℕ) → bit (and a b) i ≡ (bit a i && bit b i)
unfolding bit
and_bit a b i =
    let x = a / 2 ^ i in
    let y = b / 2 ^ i in
    ap (λ (n : ℕ). eqb (n % 2) 1) (B.and_shr a b i ∙ B.and_step x y)
    ∙ ap (λ (n : ℕ). eqb n 1) (mul-add-mod_self_right (B.bit_and (x / 2) (y / 2)) 2 (min (x % 2) (y % 2))
    ∙ digit_mod (min_dig (dig x) (dig y)))
    ∙ min_digit (dig x) (dig y)

pub or_bit : (a b i : ℕ) → bit (or a b) i ≡ (bit a i || bit b i)
unfolding bit
or_bit a b i =
    let x = a / 2 ^ i in
    let y = b / 2 ^ i in
    ap (λ (n : ℕ). eqb (n % 2) 1) (B.or_shr a b i ∙ B.or_step x y)
    ∙ ap (λ (n : ℕ). eqb n 1) (mul-add-mod_self_right (B.bit_or (x / 2) (y / 2)) 2 (max (x % 2) (y % 2))
    ∙ digit_mod (max_dig (dig x) (dig y)))
    ∙ max_digit (dig x) (dig y)

pub differ_bit : (a b i : ℕ) → bit (differ a b) i ≡ xor (bit a i) (bit b i)
unfolding bit
differ_bit a b i =
    let x = a / 2 ^ i in
    let y = b / 2 ^ i in
    ap (λ (n : ℕ). eqb (n % 2) 1) (B.xor_shr a b i ∙ B.xor_step x y)
    ∙ ap (λ (n : ℕ). eqb n 1) (mul-add-mod_self_right (B.bit_xor (x / 2) (y / 2)) 2 (B.differ (x % 2) (y % 2))
    ∙ digit_mod (differ_dig (dig x) (dig y)))
    ∙ differ_digit (dig x) (dig y)

-- ---- a mask is its bits

digit_eq : {x y : ℕ} → Digit x → Digit y → eqb x 1 ≡ eqb y 1 → x ≡ y
digit_eq is0 is0 e = refl
digit_eq is0 is1 e = let z : ◌≡◌ {A = ℕ} 0 1 = cc in z
digit_eq is1 is0 e = let z : ◌≡◌ {A = ℕ} 0 1 = cc in sym z
digit_eq is1 is1 e = refl

-- the bits of the half are the next bits
pub bit_half : (m i : ℕ) → bit (m / 2) i ≡ bit m (suc i)
unfolding bit
bit_half m i = ap (λ (n : ℕ). eqb (n % 2) 1) (div-div-eq-div-mul m 2 (2 ^ i) ∙ ap (λ (n : ℕ). m / n) (sym (pow-succ' 2 i)))

pub bit_zero : (m : ℕ) → bit m 0 ≡ eqb (m % 2) 1
unfolding bit
bit_zero m = ap (λ (n : ℕ). eqb (n % 2) 1) (div-one m)

-- two numbers of k bits with the same bits are one
pub ext : (k a b : ℕ) → a < 2 ^ k → b < 2 ^ k → ((i : ℕ) → i < k → bit a i ≡ bit b i) → a ≡ b
ext zero a b ha hb h = omega arith
ext (suc k) a b ha hb h =
    let p : 2 ^ suc k ≡ 2 ^ k * 2 = pow-suc 2 k in
    let q : a / 2 ≡ b / 2 =
    ext k (a / 2) (b / 2) (omega arith) (omega arith) (λ i l. bit_half a i ∙ h (suc i) (omega arith) ∙ sym (bit_half b i)) in
    let r : a % 2 ≡ b % 2 = digit_eq (dig a) (dig b) (sym (bit_zero a) ∙ h 0 (omega arith) ∙ bit_zero b) in
    omega arith

-- ---- flip
flip_half : (k a : ℕ) → a < 2 ^ suc k → ((2 ^ suc k - 1) - a) / 2 ≡ (2 ^ k - 1) - a / 2
flip_half k a h = let p : 2 ^ suc k ≡ 2 ^ k * 2 = pow-suc 2 k in omega arith

flip_odd : (k a : ℕ) → a < 2 ^ suc k → ((2 ^ suc k - 1) - a) % 2 ≡ 1 - a % 2
flip_odd k a h = let p : 2 ^ suc k ≡ 2 ^ k * 2 = pow-suc 2 k in omega arith

not_digit : {x : ℕ} → Digit x → eqb (1 - x) 1 ≡ not (eqb x 1)
not_digit is0 = refl
not_digit is1 = refl

pub ones_bit : (k a i : ℕ) → a < 2 ^ k → i < k → bit ((2 ^ k - 1) - a) i ≡ not (bit a i)
ones_bit zero a i h l = absurd (omega arith)
ones_bit (suc k) a zero h l =
    bit_zero ((2 ^ suc k - 1) - a) ∙ ap (λ (n : ℕ). eqb n 1) (flip_odd k a h) ∙ not_digit (dig a) ∙ ap not (sym (bit_zero a))
ones_bit (suc k) a (suc i) h l =
    let p : 2 ^ suc k ≡ 2 ^ k * 2 = pow-suc 2 k in
    sym (bit_half ((2 ^ suc k - 1) - a) i) ∙ ap (λ (n : ℕ). bit n i) (flip_half k a h)
    ∙ ones_bit k (a / 2) i (omega arith) (omega arith) ∙ ap not (bit_half a i)

pub flip_bit : (a i : ℕ) → a < 2 ^ 32 → i < 32 → bit (flip a) i ≡ not (bit a i)
flip_bit = ones_bit 32

pub flip_lt : (a : ℕ) → flip a < 2 ^ 32
flip_lt a = ones_sub-lt 32 a

-- ---- a number is all its bits, of any count

pub mask_ext : (a b : ℕ) → a < 2 ^ 32 → b < 2 ^ 32 → ((i : ℕ) → i < 32 → bit a i ≡ bit b i) → a ≡ b
mask_ext = ext 32

lt_pow : (n : ℕ) → n < 2 ^ n
lt_pow zero = omega arith
lt_pow (suc n) = let p : 2 ^ suc n ≡ 2 ^ n * 2 = pow-suc 2 n in let q = lt_pow n in omega (arith, q)

pub bits_ext : (a b : ℕ) → ((i : ℕ) → bit a i ≡ bit b i) → a ≡ b
bits_ext a b h =
    let p = lt_pow (a + b) in
    let x = lt_pow a in
    let l : 2 ^ a ≤ 2 ^ (a + b) = pow_mono (omega arith) in
    let r : 2 ^ b ≤ 2 ^ (a + b) = pow_mono (omega arith) in
    ext (a + b) a b (omega (arith, p)) (omega (arith, p)) (λ i k. h i)

pub zero_bit : (i : ℕ) → bit 0 i ≡ false
zero_bit zero = bit_zero 0
zero_bit (suc i) = sym (bit_half 0 i) ∙ zero_bit i

pub high_bit : (k a i : ℕ) → a < 2 ^ k → k ≤ i → bit a i ≡ false
high_bit zero a i h l = let z : a ≡ 0 = omega arith in rw z (zero_bit i)
high_bit (suc k) a zero h l = absurd (omega arith)
high_bit (suc k) a (suc i) h l =
    let p : 2 ^ suc k ≡ 2 ^ k * 2 = pow-suc 2 k in
    sym (bit_half a i) ∙ high_bit k (a / 2) i (omega arith) (omega arith)
