-- Files of cases: words at a place, lines, and bytes in pairs of hexadecimal digits.
use Rattle.std.specs.Prelude.{ℕ, zero, suc, ◌+◌, ◌-◌, ◌*◌, ◌^◌, List, [], ◌∷◌, Bool, true, false, Option, Some, None, cond, length, drop, set, ltb, leb, eqb}
use Rattle.base.specs.Bytes.{byte_at, part, same}

-- what stands for no place
abbrev pub no_place : ℕ
no_place = 2 ^ 64 - 1

-- the place after the words that stand at a place, or no_place
unfoldable pub after : List ℕ → ℕ → List ℕ → ℕ
after text at words =
    cond (leb (at + length words) (length text))
    (cond (same (part text at (at + length words)) words) (at + length words) no_place)
    no_place

-- the place that is told, if it is one
abbrev pub found : ℕ → Option ℕ
found n = cond (eqb n no_place) None (Some n)

-- how many bytes the line at the front of a text has, its line end among them
unfoldable pub line_length : List ℕ → ℕ
line_length [] = 0
line_length (b ∷ s) = let n = suc (line_length s) in cond (eqb b 10) 1 n

-- where the line after the one at a place begins; at the end of the text where none does
unfoldable pub next_line : List ℕ → ℕ → ℕ
next_line text at = cond (ltb at (length text)) (at + line_length (drop at text)) (length text)

-- the value of a digit, `0` to `9` and `a` to `f`; 16 where it is none
unfoldable pub digit : ℕ → ℕ
digit b = cond (ltb b 48) 16 (cond (leb b 57) (b - 48) (cond (ltb b 97) 16 (cond (leb b 102) (b - 87) 16)))

-- a value, if it is less than the one that stands for none
abbrev pub under : ℕ → ℕ → Option ℕ
under none n = cond (ltb n none) (Some n) None

-- the byte that two digits are; 256 where one is none
unfoldable pub byte_of : ℕ → ℕ → ℕ
byte_of h l = cond (ltb 15 (digit h)) 256 (cond (ltb 15 (digit l)) 256 (16 * digit h + digit l))

-- whether a text began with bytes, and how many
pub record Hex : Type 0 where
  pub ok : Bool
  pub length : ℕ

-- how many, if it did
abbrev pub counted : Hex → Option ℕ
counted h = cond h.ok (Some h.length) None

-- an answer, and what the buffer then has
pub record Filling : Type 0 where
  pub answer : Hex
  pub bytes : List ℕ

abbrev pub unfilled : List ℕ → Filling
unfilled out = record { answer = record { ok = false; length = 0 }; bytes = out }

abbrev pub good : ℕ → List ℕ → Filling
good n out = record { answer = record { ok = true; length = n }; bytes = out }

-- bytes in pairs of digits, from place i of a text up to the byte `stop`, put into a buffer from place n on, where there is so much room
unfoldable pub filled : List ℕ → ℕ → ℕ → List ℕ → ℕ → ℕ → Filling
filled text stop zero out n i = unfilled out
filled text stop (suc room) out n i =
    let b = byte_of (byte_at text i) (byte_at text (i + 1)) in
    let on : Filling = filled text stop room (set out n b) (n + 1) (i + 2) in
    cond (leb (length text) i) (unfilled out)
    (cond (eqb (byte_at text i) stop) (good n out)
    (cond (ltb (length text - i) 2) (unfilled out)
    (cond (ltb 255 b) (unfilled out) on)))

-- a text's bytes up to the byte `stop`, at the start of a buffer
abbrev pub hex_bytes : List ℕ → ℕ → List ℕ → Filling
hex_bytes text stop out = filled text stop (length out) out 0 0
