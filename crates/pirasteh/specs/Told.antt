-- What an exported function hands out: an answer or a conversion, part by part, as numbers and bytes.
use Rattle.std.specs.Prelude.{ℕ, ◌≡◌, List, cond, length}
use Rattle.std.proofs.lemmas.List.Edits.{sets}
use Rattle.records.specs.Converters.{Conversion}
use Rattle.answers.specs.declared.answer.Answer.{Answer}

-- the result r, and the three lent numbers as the function leaves them: g, a and s. On refusal the answer's mask is 0 and its flags are clear
pub record Told (answer : Answer) (r g a s : ℕ) : Type 0 where
  pub status : r ≡ answer.status
  pub granted : g ≡ answer.granted.0
  pub allowed : a ≡ cond answer.allowed 1 0
  pub staged : s ≡ cond answer.staged 1 0

-- the lent buffer before and after, the lent number n, and the result r: the bytes of the conversion stand at the buffer's front, and all
-- else is as it was. A refusal has no bytes
pub record Handed (c : Conversion) (before after : List ℕ) (n r : ℕ) : Type 0 where
  pub status : r ≡ c.status
  pub written : n ≡ length c.bytes
  pub buffer : after ≡ sets before 0 c.bytes
