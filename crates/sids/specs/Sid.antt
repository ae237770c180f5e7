-- "SID: byte 1, count n of 0 to 15, six authority bytes (big-endian), n words of 4 bytes (little-endian); 8+4n bytes."
-- "Two identities are equal when these bytes are equal": equality of identities is `same` of base's Bytes.
use Rattle.std.specs.Prelude.{ℕ, ◌+◌, ◌*◌, List, [], ◌∷◌, ◌++◌, Bool, false, cond, ◌||◌, length, ltb, eqb}
use Rattle.base.specs.Bytes.{byte_at, same, little}

-- the place after the SID that stands whole at a place; 0 where none does
unfoldable pub sid_end : List ℕ → ℕ → ℕ
sid_end s at =
    let n = byte_at s (at + 1) in
    cond (ltb (length s) (at + 8)) 0
    (cond (eqb (byte_at s at) 1)
    (cond (ltb 15 n) 0
    (cond (ltb (length s) (at + 8 + 4 * n)) 0 (at + 8 + 4 * n)))
    0)

-- the bytes are exactly one SID
unfoldable pub is_sid : List ℕ → Bool
is_sid s = let e = sid_end s 0 in cond (eqb e 0) false (eqb e (length s))

-- S-1-3-4, owner rights, and S-1-5-10, the object itself: the two virtual identities
abbrev pub owner_rights : List ℕ
owner_rights = 1 ∷ 1 ∷ 0 ∷ 0 ∷ 0 ∷ 0 ∷ 0 ∷ 3 ∷ 4 ∷ 0 ∷ 0 ∷ 0 ∷ []

abbrev pub principal_self : List ℕ
principal_self = 1 ∷ 1 ∷ 0 ∷ 0 ∷ 0 ∷ 0 ∷ 0 ∷ 5 ∷ 10 ∷ 0 ∷ 0 ∷ 0 ∷ []

-- S-1-3-4 or S-1-5-10
abbrev pub virtual : List ℕ → Bool
virtual w = same w owner_rights || same w principal_self

-- a SID of one word, as three numbers of four bytes: 257 is the byte 1, the count 1 and the authority's two high bytes, which are 0;
-- then its four low bytes as they stand, and the word
unfoldable pub single : ℕ → ℕ → List ℕ
single authority word = little 4 257 ++ (little 4 authority ++ little 4 word)
