-- The packed record: every number in sevens, "shortest form only, within the field's width". By shape the longest is 28,021 bytes.
use Rattle.std.specs.Prelude.{ℕ, zero, suc, ◌+◌, List, [], ◌∷◌, ◌++◌, leb, eqb}
use Rattle.base.specs.Bytes.{Read, bind, only, byte_at, u32_at, u48_be_at, little, big}
use Rattle.base.specs.Bytes.Read.{some}
use Rattle.base.specs.Sevens.{number, packed}
use Rattle.records.specs.Token.{Token}
use Rattle.records.specs.Fields.{Reader, Writer, many, each, fields_at, fields_bytes, ended}

-- "An identity is its count, 48-bit authority and 32-bit words": read as the SID's bytes
unfoldable pub packed_identity : List ℕ → ℕ → Read (List ℕ)
packed_identity s at =
    bind (number 32 s at) (λ n a. only (leb n 15)
    (bind (number 48 s a) (λ v b.
    bind (many (number 32) n s b) (λ ws end. some (1 ∷ n ∷ (big 6 v ++ each (little 4) ws)) end))))

abbrev pub packed_reader : Reader
packed_reader =
    record { flags = number 32; privileges = number 64; count = number 32; attributes = number 32; identity = packed_identity }

-- "version 1", the fields, nothing after them
unfoldable pub read_record : List ℕ → Read Token
read_record s = bind (number 32 s 0) (λ v a. only (eqb v 1) (ended s (fields_at packed_reader s a)))

-- ---- writing

-- the n words of a SID from a place
unfoldable pub packed_words : ℕ → List ℕ → ℕ → List ℕ
packed_words zero w at = []
packed_words (suc n) w at = packed (u32_at w at) ++ packed_words n w (at + 4)

unfoldable pub pack_identity : List ℕ → List ℕ
pack_identity w = packed (byte_at w 1) ++ (packed (u48_be_at w 2) ++ packed_words (byte_at w 1) w 8)

abbrev pub packed_writer : Writer
packed_writer = record { flags = packed; privileges = packed; count = packed; attributes = packed; identity = pack_identity }

unfoldable pub record_of : Token → List ℕ
record_of t = packed 1 ++ fields_bytes packed_writer t
