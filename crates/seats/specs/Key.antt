-- The key of a SID, by which a search finds those that may be equal to it: all words of the SID in one number, and nine bits of that. And
-- its last word, which tells most SIDs apart.
use Rattle.std.specs.Prelude.{ℕ, zero, suc, ◌+◌, ◌-◌, ◌*◌, ◌/◌, ◌%◌, List, cond, length, ltb}
use Rattle.base.specs.Bits.{differ}
use Rattle.base.specs.Bytes.{u32_at, u64_at}

-- n pairs of words from a place
unfoldable pub mixed_from : List ℕ → ℕ → ℕ → ℕ → ℕ
mixed_from w zero at x = x
mixed_from w (suc n) at x = mixed_from w n (at + 8) (differ x (u64_at w at))

-- all words, and the last pair once more
unfoldable pub mixed : List ℕ → ℕ
mixed w = cond (ltb (length w) 8) 0 (mixed_from w ((length w - 8 - 8 + 7) / 8) 8 (u64_at w (length w - 8)))

-- nine bits of a number that depend on all of its bits
abbrev pub spread : ℕ → ℕ
spread x = (x % 4294967296 * 1640531527 + x / 4294967296 * 1013904223) / 8388608 % 512

unfoldable pub key_of : List ℕ → ℕ
key_of w = spread (mixed w)

-- the last word; 0 of fewer bytes than a word has
unfoldable pub last_of : List ℕ → ℕ
last_of w = cond (ltb (length w) 4) 0 (u32_at w (length w - 4))
