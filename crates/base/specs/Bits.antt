-- Masks of 32 bits. Definitions compute with `and`, `or` and `flip`; laws speak of each bit.
use Rattle.std.specs.Prelude.{ℕ, ◌-◌, ◌/◌, ◌%◌, ◌^◌, ◌≡◌, Bool, true, not, eqb}
use Rattle.std.specs.Int.Bits as bits

abbrev pub and : ℕ → ℕ → ℕ
and a b = bits.bit_and a b

abbrev pub or : ℕ → ℕ → ℕ
or a b = bits.bit_or a b

-- the bits in which two masks differ
abbrev pub differ : ℕ → ℕ → ℕ
differ a b = bits.bit_xor a b

-- the 32 bits turned over
abbrev pub flip : ℕ → ℕ
flip a = (2 ^ 32 - 1) - a

-- some bit of b is one of m
abbrev pub has : ℕ → ℕ → Bool
has m b = not (eqb (and m b) 0)

-- every bit of b is one of m
abbrev pub covers : ℕ → ℕ → Bool
covers m b = eqb (and m b) b

-- the bit of m at place i
unfoldable pub bit : ℕ → ℕ → Bool
bit m i = eqb (m / 2 ^ i % 2) 1

-- every bit of a is one of b
unfoldable pub Within : ℕ → ℕ → Type 0
Within a b = (i : ℕ) → bit a i ≡ true → bit b i ≡ true
