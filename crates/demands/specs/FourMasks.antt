-- Request 106's words: "four masks: after normal evaluation, after confinement, after policy, and granted, each limited to asked bits".
use Rattle.std.specs.Prelude.{ℕ, ◌≡◌, Bool, true, not, ◌&&◌}
use Rattle.base.specs.Bits.{bit, Within}
use Rattle.answers.specs.declared.answer.Answer.{Answer}

-- "Each lies within the one before; the last two are equal", the first within the bits asked
pub record Narrowing (bits : ℕ) (a : Answer) : Type 0 where
  pub normal : Within a.normal.0 bits
  pub confined : Within a.confined.0 a.normal.0
  pub ruled : Within a.ruled.0 a.confined.0
  pub granted : a.granted ≡ a.ruled

-- "leaves the first two as they were"
pub record FirstTwoStill (before after : Answer) : Type 0 where
  pub normal : after.normal ≡ before.normal
  pub confined : after.confined ≡ before.confined

-- ---- where a bit was lost

pub data Step : Type 0 where
  normal_evaluation : Step
  confinement : Step
  policy : Step

-- the mask that a step starts from, and the one that it leaves
abbrev pub starts_from : Step → ℕ → Answer → ℕ
starts_from normal_evaluation bits a = bits
starts_from confinement bits a = a.normal.0
starts_from policy bits a = a.confined.0

abbrev pub leaves : Step → Answer → ℕ
leaves normal_evaluation a = a.normal.0
leaves confinement a = a.confined.0
leaves policy a = a.ruled.0

-- a step takes the bit at place i: it stood before the step, and does not after it
abbrev pub takes : Step → ℕ → Answer → ℕ → Bool
takes s bits a i = bit (starts_from s bits a) i && not (bit (leaves s a) i)

-- one step takes it, and no other
pub record TakenOnce (bits : ℕ) (a : Answer) (i : ℕ) : Type 0 where
  pub step : Step
  pub taken : takes step bits a i ≡ true
  pub alone : (s : Step) → takes s bits a i ≡ true → s ≡ step
