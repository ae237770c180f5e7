-- A conversion as the code answers it.
use Rattle.std.specs.Prelude.{ℕ, length, Result, Ok, Err}
use Rattle.records.specs.Converters.{Conversion}
use Rattle.tokens.specs.declared.refusal.Refusal.{Refusal}
use Rattle.tokens.specs.declared.refusal.Refusal.TheVariants.{Misshapen, BreaksRule, TooLong}

-- a status number of the page (0, 3, 4 or 11) and how many bytes were written
pub record Converted : Type 0 where
  pub status : ℕ
  pub length : ℕ

-- its status and its length
abbrev pub answered : Conversion → Converted
answered c = record { status = c.status; length = length c.bytes }

-- a refusal's number of the page
abbrev pub number_of : Refusal → ℕ
number_of Misshapen = 3
number_of BreaksRule = 4
number_of TooLong = 11

-- what the code answers, as numbers of the page: no two answers are the same
abbrev pub converted_by : Result ℕ Refusal → Converted
converted_by (Ok n) = record { status = 0; length = n }
converted_by (Err r) = record { status = number_of r; length = 0 }
