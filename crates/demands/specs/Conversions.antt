-- "Two converters turn a packed token record into a flat listing and back", each under one name with the way it goes; "Converters give 3, 4
-- and 11 only", line by line; and what stands in the lent buffer and the lent number afterwards.
use Rattle.std.specs.Prelude.{ℕ, ◌≡◌, List, [], ◌∷◌, ◌++◌, length, drop, ltb}
use Rattle.base.specs.Bytes.{Read}
use Rattle.records.specs.Token.{Token}
use Rattle.records.specs.TokenRecord.{read_record}
use Rattle.records.specs.FlatListing.{read_listing}
use Rattle.records.specs.Converters.{Conversion, as_listing, as_record, fitted}
use Rattle.demands.specs.Conditions.{Line, ◌when◌, misshapen, breaks}

pub data Way : Type 0 where
  record_to_listing : Way
  listing_to_record : Way

-- the token that the bytes hold
abbrev pub held_by : Way → List ℕ → Read Token
held_by record_to_listing s = read_record s
held_by listing_to_record s = read_listing s

-- what they come to, whatever the room
abbrev pub conversion : Way → List ℕ → Conversion
conversion record_to_listing s = as_listing s
conversion listing_to_record s = as_record s

-- and into a buffer of so many bytes
abbrev pub conversion_into : ℕ → Way → List ℕ → Conversion
conversion_into room way s = fitted room (conversion way s)

-- 3: "token record or listing misshapen"; 4: "token breaks a token rule"; 11: "converted result longer than the lent buffer"
abbrev pub conversion_conditions : ℕ → Way → List ℕ → List Line
conversion_conditions room way s =
    (3 when misshapen (held_by way s)) ∷
    (4 when breaks (held_by way s)) ∷
    (11 when ltb room (length (conversion way s).bytes)) ∷
    []

-- the buffer before and after, and the lent number: the result's bytes, then what stood past them
pub record Written (bytes before after : List ℕ) (n : ℕ) : Type 0 where
  pub count : n ≡ length bytes
  pub buffer : after ≡ bytes ++ drop (length bytes) before

-- nothing was written
pub record Untouched (before after : List ℕ) (n : ℕ) : Type 0 where
  pub count : n ≡ 0
  pub buffer : after ≡ before
