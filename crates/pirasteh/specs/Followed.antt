-- What is handed out with an answer's trail (request 105): beside what Told has, the bytes of the trail in the lent buffer.
use Rattle.std.specs.Prelude.{ℕ, ◌≡◌, List, length}
use Rattle.std.proofs.lemmas.List.Edits.{sets}
use Rattle.access.specs.Reported.{Report}
use Rattle.pirasteh.specs.Told.{Told}

-- the lent buffer before and after, the lent number n, the result r and the three lent numbers g, a and s: the trail stands at the buffer's
-- front, and all else is as it was. A refusal has none
pub record Followed (report : Report) (before after : List ℕ) (n r g a s : ℕ) : Type 0 where
  pub told : Told report.answer r g a s
  pub written : n ≡ length report.trail
  pub buffer : after ≡ sets before 0 report.trail
