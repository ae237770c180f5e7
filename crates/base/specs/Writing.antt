-- Writing at a place of a list of bytes.
use Rattle.std.specs.Prelude.{ℕ, ◌+◌, ◌≡◌, List, length}
use Rattle.std.proofs.lemmas.List.Edits.{sets}

-- w was written at place o, nothing else was changed, and r is the place after it
pub record Wrote (before after : List ℕ) (o r : ℕ) (w : List ℕ) : Type 0 where
  pub place : r ≡ o + length w
  pub bytes : after ≡ sets before o w
