-- The arguments of a program, by what the system answers for one.
use Rattle.std.specs.Prelude.{ℕ, Bool, true, false, Result, Ok, Err}
use Rattle.std.specs.declared.env.FillError.{FillError}
use Rattle.std.specs.declared.env.FillError.TheVariants.{NotPresent, TooLong}

-- whether there is one: it is there too where it is longer than what was lent for it
abbrev pub is_given : Result ℕ FillError → Bool
is_given (Ok n) = true
is_given (Err NotPresent) = false
is_given (Err TooLong) = true
