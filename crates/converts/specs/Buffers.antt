-- Buffers that are filled from parts, and buffers that are as they were.
use Rattle.std.specs.Prelude.{ℕ, zero, suc, ◌+◌, List, [], ◌∷◌, Bool, true, false, cond, length, set, leb, eqb}

-- every byte is the one that a buffer is filled with before it is lent
unfoldable pub untouched : List ℕ → Bool
untouched [] = true
untouched (b ∷ s) = let rest = untouched s in cond (eqb b 170) rest false

-- what a buffer has, and the place after what was put there last
pub record Build : Type 0 where
  pub bytes : List ℕ
  pub next : ℕ

abbrev pub build : List ℕ → ℕ → Build
build s at = record { bytes = s; next = at }

-- a part, as far as the buffer goes
unfoldable pub puts : List ℕ → Build → Build
puts [] p = p
puts (b ∷ s) p =
    let on : Build = puts s (build (set p.bytes p.next b) (p.next + 1)) in cond (leb (length p.bytes) p.next) p on

-- a part, some times in a row
unfoldable pub fills : List ℕ → ℕ → Build → Build
fills part zero p = p
fills part (suc n) p = puts part (fills part n p)

-- identities of a head and 15 words, each with a tail after it
unfoldable pub crowds : List ℕ → List ℕ → List ℕ → ℕ → Build → Build
crowds head word tail zero p = p
crowds head word tail (suc n) p = puts tail (fills word 15 (puts head (crowds head word tail n p)))

-- the largest identities with no tail, in a record and in a listing
abbrev pub packed_crowd : ℕ → Build → Build
packed_crowd n p =
    crowds (15 ∷ 255 ∷ 255 ∷ 255 ∷ 255 ∷ 255 ∷ 255 ∷ 63 ∷ []) (255 ∷ 255 ∷ 255 ∷ 255 ∷ 15 ∷ []) [] n p

abbrev pub flat_crowd : ℕ → Build → Build
flat_crowd n p = crowds (1 ∷ 15 ∷ 255 ∷ 255 ∷ 255 ∷ 255 ∷ 255 ∷ 255 ∷ []) (255 ∷ 255 ∷ 255 ∷ 255 ∷ []) [] n p

-- the largest token up to the last of its 64 capabilities, as a record and as a listing
unfoldable pub record_but_last : Build → Build
record_but_last p =
    packed_crowd 63
    (puts (64 ∷ [])
    (packed_crowd 1
    (crowds (15 ∷ 255 ∷ 255 ∷ 255 ∷ 255 ∷ 255 ∷ 255 ∷ 63 ∷ []) (255 ∷ 255 ∷ 255 ∷ 255 ∷ 15 ∷ []) (255 ∷ 255 ∷ 255 ∷ 255 ∷ 15 ∷ []) 256
    (puts (128 ∷ 2 ∷ []) (packed_crowd 1 (puts (1 ∷ 1 ∷ 255 ∷ 255 ∷ 255 ∷ 255 ∷ 255 ∷ 255 ∷ 255 ∷ 255 ∷ 255 ∷ 1 ∷ []) p))))))

unfoldable pub listing_but_last : Build → Build
listing_but_last p =
    flat_crowd 63
    (puts (64 ∷ 0 ∷ 0 ∷ 0 ∷ [])
    (flat_crowd 1
    (crowds (1 ∷ 15 ∷ 255 ∷ 255 ∷ 255 ∷ 255 ∷ 255 ∷ 255 ∷ []) (255 ∷ 255 ∷ 255 ∷ 255 ∷ []) (255 ∷ 255 ∷ 255 ∷ 255 ∷ []) 256
    (puts (0 ∷ 1 ∷ 0 ∷ 0 ∷ []) (flat_crowd 1 (puts (1 ∷ 0 ∷ 0 ∷ 0 ∷ 255 ∷ 255 ∷ 255 ∷ 255 ∷ 255 ∷ 255 ∷ 255 ∷ 255 ∷ []) p))))))
