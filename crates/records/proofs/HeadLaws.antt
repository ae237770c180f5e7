-- The head of a SID: the byte 1, its count and its authority, highest byte first. Where the authority is one byte, the eight bytes are
-- those of one number, lowest first. A part of a buffer that is written at once (put_part), the last six bytes of eight (big_last),
-- the first of eight (little_first).
-- Assumes nothing.
use Prim.Native.Nat.{ℕ, zero, suc, ◌+◌, ◌*◌, ◌/◌, ◌%◌, ◌^◌, ◌<◌, ◌≤◌}
use mathlib.Core.Path.{◌≡◌, refl, sym, ap, ◌∙◌}
use mathlib.Core.List.{List, [], ◌∷◌, append_assoc}
use native.Mathlib.Nat.{div-div-eq-div-mul, div-one, pow-suc}
use native.Mathlib.Omega.{arith}
use borrow.Rule.Slice.PartMut.{put_mid}
use lib.ListN.{length, take, drop}
use lib.Seq.{sets, sets-eq, drop-drop}
use Rattle.std.specs.Int.{w64, byte_at, bytes_low_first, to_be_bytes, to_le_bytes}
use Rattle.base.specs.Bytes.{little, big}

-- eight bytes in a row, byte by byte
row : (a b c d e f g h : ℕ) (a' b' c' d' e' f' g' h' : ℕ) → a ≡ a' → b ≡ b' → c ≡ c' → d ≡ d' → e ≡ e' → f ≡ f' → g ≡ g' → h ≡ h' →
    ◌≡◌ {A = List ℕ} (a ∷ b ∷ c ∷ d ∷ e ∷ f ∷ g ∷ h ∷ []) (a' ∷ b' ∷ c' ∷ d' ∷ e' ∷ f' ∷ g' ∷ h' ∷ [])
row a b c d e f g h a' b' c' d' e' f' g' h' i j k l m n o p = cc

pub head_little : (n v : ℕ) → n < 256 → v < 256 → little 8 (1 + 256 * n + 72057594037927936 * v) ≡ 1 ∷ n ∷ big 6 v
unfolding little big
head_little n v h k =
    let e1 : (1 + 256 * n + 72057594037927936 * v) / 256 ≡ n + 281474976710656 * v = omega arith in
    let e2 : (n + 281474976710656 * v) / 256 ≡ 1099511627776 * v = omega arith in
    let e3 : 1099511627776 * v / 256 ≡ 4294967296 * v = omega arith in
    let e4 : 4294967296 * v / 256 ≡ 16777216 * v = omega arith in
    let e5 : 16777216 * v / 256 ≡ 65536 * v = omega arith in
    let e6 : 65536 * v / 256 ≡ 256 * v = omega arith in
    let e7 : 256 * v / 256 ≡ v = omega arith in
    let z : v / 256 ≡ 0 = omega arith in
    rw (e1, e2, e3, e4, e5, e6, e7, z)
    (row _ _ _ _ _ _ _ _ _ _ _ _ _ _ _ _ (omega arith) (omega arith) (omega arith) (omega arith) (omega arith) (omega arith) (omega arith)
    (omega arith))

-- what stands in a part of a buffer was written from its place
pub put_part : (l : List ℕ) (o k : ℕ) (ys w : List ℕ) → ys ≡ w → length w ≡ k → o + k ≤ length l → put_mid o k l ys ≡ sets l o w
put_part l o k ys w e n h =
    let x = sets-eq w l o (omega arith) in
    rw (e, x, append_assoc, n, drop-drop k o l)

-- the last six of a number's eight bytes, highest first
pub big_last : (v : ℕ) → drop 2 (to_be_bytes w64 v) ≡ big 6 v
unfolding big
big_last v =
    let e2 : v / 256 / 256 ≡ v / 65536 = div-div-eq-div-mul v 256 256 in
    let e3 : v / 65536 / 256 ≡ v / 16777216 = div-div-eq-div-mul v 65536 256 in
    let e4 : v / 16777216 / 256 ≡ v / 4294967296 = div-div-eq-div-mul v 16777216 256 in
    let e5 : v / 4294967296 / 256 ≡ v / 1099511627776 = div-div-eq-div-mul v 4294967296 256 in
    rw (e2, e3, e4, e5)

byte : (i v : ℕ) → byte_at i v ≡ v / 256 ^ i % 256
byte zero v = ap (λ (y : ℕ). y % 256) (sym (div-one v))
byte (suc i) v = refl

low_first : (i k n v : ℕ) → n ≤ k → take n (bytes_low_first i k v) ≡ little n (v / 256 ^ i)
unfolding little
low_first i k zero v h = refl
low_first i zero (suc n) v h = absurd (omega arith)
low_first i (suc k) (suc n) v h =
    let e : v / 256 ^ suc i ≡ v / 256 ^ i / 256 = ap (λ (p : ℕ). v / p) (pow-suc 256 i) ∙ sym (div-div-eq-div-mul v (256 ^ i) 256) in
    rw (byte i v, low_first (suc i) k n v (omega arith), e)

-- the first of a number's eight bytes, lowest first
pub little_first : (n v : ℕ) → n ≤ 8 → take n (to_le_bytes w64 v) ≡ little n v
little_first n v h = low_first 0 8 n v h ∙ ap (little n) (div-one v)
