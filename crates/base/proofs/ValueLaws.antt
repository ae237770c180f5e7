-- Laws of numbers written in n bytes, lowest first and highest first. The index:
-- length_little little_bytes length_big big_bytes; a low and a high part: little_add little_eight; the value of bytes: value_little
-- little_value big_reverse; the bytes at a place one by one: part_bytes.
-- Not here: numbers of two, four and six bytes at a place, WordsLaws. Assumes nothing.
use Prim.Native.Nat.{ℕ, zero, suc, ◌+◌, ◌*◌, ◌/◌, ◌%◌, ◌^◌, ◌<◌, ◌≤◌}
use mathlib.Core.Path.{◌≡◌, refl, sym, ap, ap₂, ◌∙◌}
use mathlib.Core.List.{List, [], ◌∷◌, ◌++◌, reverse, reverse-cons}
use native.Mathlib.Nat.{pow-suc, add-zero, mul_assoc, mul_comm}
use native.Mathlib.Numerals.{add-one}
use native.Mathlib.Omega.{arith}
use lib.Dec.{T}
use lib.Pow.{are_bytes}
use lib.ListN.{length, length-append}
use borrow.Author.Tests.{lt-ltb}
use Rattle.base.specs.Bytes.{part, byte_at, little, big}
use Rattle.base.proofs.BytesLaws.{part_cons, part_empty, bytes_append, bytes_drop, byte_lt}

-- ---- what is written

pub length_little : (n v : ℕ) → length (little n v) ≡ n
unfolding little
length_little zero v = refl
length_little (suc n) v = ap suc (length_little n (v / 256))

pub little_bytes : (n v : ℕ) → T (are_bytes (little n v))
unfolding little
little_bytes zero v = tt
little_bytes (suc n) v = rw (lt-ltb (v % 256) 256 (omega arith)) (little_bytes n (v / 256))

pub length_big : (n v : ℕ) → length (big n v) ≡ n
unfolding big
length_big zero v = refl
length_big (suc n) v = length-append (big n (v / 256)) ((v % 256) ∷ []) ∙ rw (length_big n (v / 256)) (add-one n)

pub big_bytes : (n v : ℕ) → T (are_bytes (big n v))
unfolding big
big_bytes zero v = tt
big_bytes (suc n) v = bytes_append (big n (v / 256)) ((v % 256) ∷ []) (big_bytes n (v / 256)) (rw (lt-ltb (v % 256) 256 (omega arith)) tt)

-- the bytes of a number are those of its low part and those of its high part
pub little_add : (m n a b : ℕ) → a < 256 ^ m → little (m + n) (a + 256 ^ m * b) ≡ little m a ++ little n b
unfolding little
little_add zero n a b h =
    let k : 0 + n ≡ n = omega arith in
    let e : a + 256 ^ 0 * b ≡ b = omega arith in
    ap₂ little k e
little_add (suc m) n a b h =
    let p : 256 ^ suc m ≡ 256 ^ m * 256 = pow-suc 256 m in
    let q : 256 ^ suc m * b ≡ 256 * (256 ^ m * b) = rw p (ap (λ (x : ℕ). x * b) (mul_comm (256 ^ m) 256) ∙ mul_assoc 256 (256 ^ m) b) in
    let k : suc m + n ≡ suc (m + n) = omega arith in
    let low : (a + 256 ^ suc m * b) % 256 ≡ a % 256 = omega arith in
    let high : (a + 256 ^ suc m * b) / 256 ≡ a / 256 + 256 ^ m * b = omega arith in
    rw k (ap₂ ◌∷◌ low (ap (little (m + n)) high ∙ little_add m n (a / 256) b (omega arith)))

pub little_eight : (a b : ℕ) → a < 2 ^ 32 → little 8 (a + 4294967296 * b) ≡ little 4 a ++ little 4 b
little_eight a b h = little_add 4 4 a b h

-- ---- the value of bytes, lowest first

unfoldable pub value : List ℕ → ℕ
value [] = 0
value (b ∷ s) = b + 256 * value s

-- what is written has the value that was written, and bytes are what is written of their value
pub value_little : (n v : ℕ) → v < 256 ^ n → value (little n v) ≡ v
unfolding value little
value_little zero v h = omega arith
value_little (suc n) v h =
    let p : 256 ^ suc n ≡ 256 ^ n * 256 = pow-suc 256 n in
    let q : value (little n (v / 256)) ≡ v / 256 = value_little n (v / 256) (omega arith) in
    omega arith

pub little_value : (s : List ℕ) → T (are_bytes s) → little (length s) (value s) ≡ s
unfolding value little
little_value [] h = refl
little_value (b ∷ s) h =
    let k : b < 256 = byte_lt (b ∷ s) 0 h in
    let m : (b + 256 * value s) % 256 ≡ b = omega arith in
    let d : (b + 256 * value s) / 256 ≡ value s = omega arith in
    ap₂ ◌∷◌ m (ap (little (length s)) d ∙ little_value s (bytes_drop 1 (b ∷ s) h))

-- highest first is lowest first backwards
pub big_reverse : (n v : ℕ) → big n v ≡ reverse (little n v)
unfolding big little
big_reverse zero v = refl
big_reverse (suc n) v =
    ap (λ (l : List ℕ). l ++ (v % 256) ∷ []) (big_reverse n (v / 256)) ∙ sym (reverse-cons (v % 256) (little n (v / 256)))

-- ---- the bytes at a place, one by one

unfoldable pub from : ℕ → ℕ → List ℕ → ℕ → List ℕ
from zero k s at = []
from (suc n) k s at = byte_at s (at + k) ∷ from n (suc k) s at

part_from : (n k : ℕ) (s : List ℕ) (at : ℕ) → at + k + n ≤ length s → part s (at + k) (at + k + n) ≡ from n k s at
unfolding from
part_from zero k s at h = ap (part s (at + k)) (add-zero (at + k)) ∙ part_empty s (at + k)
part_from (suc n) k s at h =
    let x : at + k + 1 ≡ at + suc k = omega arith in
    let y : at + k + suc n ≡ at + suc k + n = omega arith in
    part_cons s (at + k) (at + k + suc n) (omega arith) (omega arith)
    ∙ ap (λ (l : List ℕ). byte_at s (at + k) ∷ l) (ap₂ (part s) x y ∙ part_from n (suc k) s at (omega arith))

pub part_bytes : (n : ℕ) (s : List ℕ) (at : ℕ) → at + n ≤ length s → part s at (at + n) ≡ from n 0 s at
part_bytes n s at h = rw add-zero at (part_from n 0 s at (omega arith))
