-- "Two converters turn a packed token record into a flat listing and back." Converters give 3, 4 and 11 only.
use Rattle.std.specs.Prelude.{ℕ, List, [], cond, length, ltb}
use Rattle.base.specs.Bytes.{Read}
use Rattle.base.specs.Bytes.Read.{none, some}
use Rattle.records.specs.Token.{Token}
use Rattle.records.specs.TokenRecord.{read_record, record_of}
use Rattle.records.specs.FlatListing.{read_listing, listing_of}
use Rattle.records.specs.TokenRules.{keeps}

-- a status number and the bytes of the result; none on refusal
pub record Conversion : Type 0 where
  pub status : ℕ
  pub bytes : List ℕ

abbrev pub refusal : ℕ → Conversion
refusal n = record { status = n; bytes = [] }

abbrev pub full_result : List ℕ → Conversion
full_result bs = record { status = 0; bytes = bs }

-- 3 where misshapen, else 4 where the token breaks a token rule, else what is written of it
abbrev pub converted : (Token → List ℕ) → Read Token → Conversion
converted f none = refusal 3
converted f (some t end) = cond (keeps t) (full_result (f t)) (refusal 4)

unfoldable pub as_listing : List ℕ → Conversion
as_listing s = converted listing_of (read_record s)

unfoldable pub as_record : List ℕ → Conversion
as_record s = converted record_of (read_listing s)

-- "11: converted result longer than the lent buffer"
unfoldable pub fitted : ℕ → Conversion → Conversion
fitted room c = cond (ltb room (length c.bytes)) (refusal 11) c
