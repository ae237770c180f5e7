-- The starred cards and the worked refusals, by computation over the definitions. One table, one claim.
-- Assumes nothing.
use mathlib.Core.Path.{◌≡◌, refl}
use mathlib.Core.List.{[], ◌∷◌, map}
use mathlib.Core.Bool.{true, false}
use Rattle.base.specs.Bits.{bit}
use Rattle.records.specs.Token.{Token, unconfined}
use Rattle.records.specs.FlatListing.{listing_of}
use Rattle.records.specs.Converters.{as_listing, fitted, refusal, full_result}
use Rattle.answers.specs.Granted.{refused}
use Rattle.access.specs.Status.{checked}
use Rattle.questions.specs.QuestionFile.{file_answer}
use Rattle.answers.specs.declared.answer.Answer.{Answer}
use Rattle.cards.specs.Cards.{TU, Card, cards, refusals, file_c1, file_long, given}
use Rattle.cards.specs.ConditionalCards.{conditional}
use Rattle.cards.specs.StepCards.{scanner, steps}
use Rattle.demands.specs.FourMasks.{takes}
use Rattle.demands.specs.FourMasks.Step.{normal_evaluation, confinement, policy}
use Rattle.cards.proofs.Opened.{the_page}

abbrev token_tU : Token
token_tU =
    record {
      flags = 0;
      privileges = 0;
      user = 1 ∷ 2 ∷ 0 ∷ 0 ∷ 0 ∷ 0 ∷ 0 ∷ 5 ∷ 0 ∷ 0 ∷ 0 ∷ 0 ∷ 7 ∷ 0 ∷ 0 ∷ 0 ∷ [];
      groups = [];
      confinement = unconfined;
    }

abbrev checked_card : Card → Answer
checked_card c = checked c.question

abbrev expected : Card → Answer
expected c = c.answer

pub cards_hold : map checked_card cards ≡ map expected cards
unfolding the_page
cards_hold = refl

-- a worked refusal for each number of a check, with the neighbours that decide the order
pub refusals_hold : map checked_card refusals ≡ map expected refusals
unfolding the_page
refusals_hold = refl

-- request 103 worked out
pub conditional_hold : map checked_card conditional ≡ map expected conditional
unfolding the_page
conditional_hold = refl

-- request 106 worked out
pub steps_hold : map checked_card steps ≡ map expected steps
unfolding the_page
steps_hold = refl

-- where the scanner lost write data, execute and delete: the bits at places 1, 5 and 16
pub lost_where : (takes policy 0x10023 (checked scanner) 1 ≡ true) × (takes confinement 0x10023 (checked scanner) 5 ≡ true)
    × (takes normal_evaluation 0x10023 (checked scanner) 16 ≡ true)
unfolding the_page bit
lost_where = (refl, refl, refl)

-- card c1 as a file of 82 bytes; the same with a byte after it is 12
pub file_holds : file_answer file_c1 ≡ given 0x120089 true false
unfolding the_page
file_holds = refl

pub file_refused : file_answer file_long ≡ refused 12
unfolding the_page
file_refused = refl

-- 11, of a converter: TU's listing has 32 bytes. Of a trail: TrailsHold
pub short_buffer : fitted 31 (as_listing TU) ≡ refusal 11
unfolding the_page
short_buffer = refl

pub room_enough : fitted 32 (as_listing TU) ≡ full_result (listing_of token_tU)
unfolding the_page
room_enough = refl
