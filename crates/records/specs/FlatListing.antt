-- "The flat listing holds the same fields without version, little-endian: flags u32, privileges u64, counts and attributes u32, SIDs in MS-DTYP
-- bytes; at most 22,940 bytes."
use Rattle.std.specs.Prelude.{ℕ, ◌+◌, ◌*◌, List, cond, length, ltb, eqb}
use Rattle.base.specs.Bytes.{Read, u32_at, part, little}
use Rattle.base.specs.Bytes.Read.{none, some}
use Rattle.sids.specs.Sid.{sid_end}
use Rattle.records.specs.Token.{Token}
use Rattle.records.specs.Fields.{Reader, Writer, fields_at, fields_bytes, ended}

unfoldable pub word : List ℕ → ℕ → Read ℕ
word s at = cond (ltb (length s) (at + 4)) none (some (u32_at s at) (at + 4))

unfoldable pub double_word : List ℕ → ℕ → Read ℕ
double_word s at = cond (ltb (length s) (at + 8)) none (some (u32_at s at + 4294967296 * u32_at s (at + 4)) (at + 8))

unfoldable pub flat_identity : List ℕ → ℕ → Read (List ℕ)
flat_identity s at = cond (eqb (sid_end s at) 0) none (some (part s at (sid_end s at)) (sid_end s at))

abbrev pub flat_reader : Reader
flat_reader = record { flags = word; privileges = double_word; count = word; attributes = word; identity = flat_identity }

unfoldable pub read_listing : List ℕ → Read Token
read_listing s = ended s (fields_at flat_reader s 0)

abbrev pub flat_writer : Writer
flat_writer =
    record { flags = little 4; privileges = little 8; count = little 4; attributes = little 4; identity = λ w. w }

unfoldable pub listing_of : Token → List ℕ
listing_of t = fields_bytes flat_writer t
