-- "into a lent buffer. If the events do not fit: 11, last of all, nothing granted, nothing written" (request 105). The table of status
-- numbers for a check that lends a buffer of so many bytes.
use Rattle.std.specs.Prelude.{ℕ, ◌≡◌, List, [], ◌∷◌, ◌++◌, length, ltb}
use Rattle.access.specs.Status.{Question}
use Rattle.access.specs.Reported.{Report, report_of}
use Rattle.demands.specs.Accepted.{GrantsNothing}
use Rattle.demands.specs.Conditions.{Line, ◌when◌, conditions}

-- "11, last of all": the trail is longer than the lent buffer
abbrev pub trail_conditions : ℕ → Question → List Line
trail_conditions n q = conditions q ++ (11 when ltb n (length (report_of q).trail)) ∷ []

-- "nothing granted, nothing written"
pub record Nothing (r : Report) : Type 0 where
  pub granted : GrantsNothing r.answer
  pub trail : r.trail ≡ []
