-- The page's numbers of the refusals, and what a caller is handed of one.
use Rattle.std.specs.Prelude.{ℕ, Result, Ok, Err}
use Rattle.tokens.specs.declared.refusal.Refusal.{Refusal as TokenRefusal}
use Rattle.tokens.specs.declared.refusal.Refusal.TheVariants as token
use Rattle.lists.specs.declared.descriptor.Refusal.{Refusal as DescriptorRefusal}
use Rattle.lists.specs.declared.descriptor.Refusal.TheVariants as descriptor
use Rattle.policy.specs.declared.shape.Refusal.{Refusal as PolicyFault}
use Rattle.policy.specs.declared.shape.Refusal.TheVariants as policy
use Rattle.answers.specs.Granted.{refused}
use Rattle.access.specs.declared.answer.Traced.{Traced}
use Rattle.access.specs.declared.question.Refusal.{Refusal}
use Rattle.access.specs.declared.question.Refusal.TheVariants.{UnknownKind, ForeignMask, TokenMisshapen, TokenBreaksRule, SelfUnfit}
use Rattle.access.specs.declared.question.Refusal.TheVariants.{DescriptorMisshapen, Ownerless, ForeignEntry, PolicyMisshapen, PolicyUnread}
use Rattle.access.specs.declared.question.Refusal.TheVariants.{TooLong, FileMisshapen}

-- "Status numbers, in order of checking"
abbrev pub number_of : Refusal → ℕ
number_of UnknownKind = 1
number_of ForeignMask = 2
number_of TokenMisshapen = 3
number_of TokenBreaksRule = 4
number_of SelfUnfit = 5
number_of DescriptorMisshapen = 6
number_of Ownerless = 7
number_of ForeignEntry = 8
number_of PolicyMisshapen = 9
number_of PolicyUnread = 10
number_of TooLong = 11
number_of FileMisshapen = 12

-- 0 where nothing is refused
abbrev pub number_told : {A : Type 0} → Result A Refusal → ℕ
number_told (Ok x) = 0
number_told (Err r) = number_of r

-- a refusal is an answer with its number, and has no trail
abbrev pub handed : Result Traced Refusal → Traced
handed (Ok t) = t
handed (Err r) = record { answer = refused (number_of r); length = 0 }

-- ---- those of the parts, with the same numbers (TokenSteps)

abbrev pub of_token : TokenRefusal → Refusal
of_token token.Misshapen = TokenMisshapen
of_token token.BreaksRule = TokenBreaksRule
of_token token.TooLong = TooLong

abbrev pub of_descriptor : DescriptorRefusal → Refusal
of_descriptor descriptor.Misshapen = DescriptorMisshapen
of_descriptor descriptor.Ownerless = Ownerless
of_descriptor descriptor.ForeignEntry = ForeignEntry

abbrev pub of_policy : PolicyFault → Refusal
of_policy policy.Misshapen = PolicyMisshapen
of_policy policy.Unread = PolicyUnread
