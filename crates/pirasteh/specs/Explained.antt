-- What is handed out with an answer's masks (request 106): beside what Told has, the bits that were asked for and the masks after each step.
use Rattle.std.specs.Prelude.{ℕ, ◌≡◌, cond, eqb}
use Rattle.masks.specs.KindsAndMasks.{asked}
use Rattle.answers.specs.declared.answer.Answer.{Answer}
use Rattle.pirasteh.specs.Told.{Told}

-- a number that is told of a question with status 0, and 0 of a refused one
abbrev pub if_answered : ℕ → ℕ → ℕ
if_answered status n = cond (eqb status 0) n 0

-- the lent numbers n, c and p: after normal evaluation, after confinement, after policy
pub record Shown (answer : Answer) (n c p : ℕ) : Type 0 where
  pub normal : n ≡ answer.normal.0
  pub confined : c ≡ answer.confined.0
  pub ruled : p ≡ answer.ruled.0

-- the result r and all lent numbers: b, the bits asked for of a kind and by a mask, then as Shown and Told have them
pub record Explained (answer : Answer) (kind mask r b n c p g a s : ℕ) : Type 0 where
  pub told : Told answer r g a s
  pub shown : Shown answer n c p
  pub bits : b ≡ if_answered answer.status (asked kind mask)
