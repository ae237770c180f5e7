-- Bytes by place. A list of bytes is read from any place; what is not wholly there reads as 0, and every definition that cares asks first.
use Rattle.std.specs.Prelude.{ℕ, zero, suc, ◌+◌, ◌-◌, ◌*◌, ◌/◌, ◌%◌, List, [], ◌∷◌, ◌++◌, Bool, true, false, cond, length, get_or, take, drop, leb, eqb, Option, None, Some}

abbrev pub byte_at : List ℕ → ℕ → ℕ
byte_at s at = get_or s at 0

-- numbers of two and four bytes, lowest first
unfoldable pub u16_at : List ℕ → ℕ → ℕ
u16_at s at = cond (leb (at + 2) (length s)) (byte_at s at + 256 * byte_at s (at + 1)) 0

unfoldable pub u32_at : List ℕ → ℕ → ℕ
u32_at s at =
    cond (leb (at + 4) (length s))
    (byte_at s at + 256 * byte_at s (at + 1) + 65536 * byte_at s (at + 2) + 16777216 * byte_at s (at + 3))
    0

-- a number of eight bytes, lowest first: its low half, then its high half
unfoldable pub u64_at : List ℕ → ℕ → ℕ
u64_at s at = cond (leb (at + 8) (length s)) (u32_at s at + 4294967296 * u32_at s (at + 4)) 0

-- a number of six bytes, highest first
unfoldable pub u48_be_at : List ℕ → ℕ → ℕ
u48_be_at s at =
    cond (leb (at + 6) (length s))
    (byte_at s (at + 5) + 256 * byte_at s (at + 4) + 65536 * byte_at s (at + 3) + 16777216 * byte_at s (at + 2)
    + 4294967296 * byte_at s (at + 1) + 1099511627776 * byte_at s at)
    0

-- the bytes from place a up to place e
abbrev pub part : List ℕ → ℕ → ℕ → List ℕ
part s a e = take (e - a) (drop a s)

-- two lists of bytes are equal: as long, and equal byte for byte
unfoldable pub same : List ℕ → List ℕ → Bool
same [] [] = true
same [] (y ∷ ys) = false
same (x ∷ xs) [] = false
same (x ∷ xs) (y ∷ ys) = let r = same xs ys in cond (eqb x y) r false

-- the n lowest bytes of a number, lowest first, and highest first
unfoldable pub little : ℕ → ℕ → List ℕ
little zero v = []
little (suc n) v = (v % 256) ∷ little n (v / 256)

unfoldable pub big : ℕ → ℕ → List ℕ
big zero v = []
big (suc n) v = big n (v / 256) ++ (v % 256) ∷ []

-- what is read at a place, with the place after it; or nothing
pub data Read (A : Type 0) : Type 0 where
  none : Read A
  some : A → ℕ → Read A

-- read on where something was read
abbrev pub bind : {A B : Type 0} → Read A → (A → ℕ → Read B) → Read B
bind none k = none
bind (some a at) k = k a at

-- only where the test holds
abbrev pub only : {A : Type 0} → Bool → Read A → Read A
only true r = r
only false r = none

-- a place as the code answers it, where 0 says that there is none
unfoldable pub found : ℕ → Option ℕ
found n = cond (eqb n 0) None (Some n)
