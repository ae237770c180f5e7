-- An accepted question, and what demand 2 says of it: "the granted mask, the allowed answer and the staging flag are those of the rules".
use Rattle.std.specs.Prelude.{ℕ, ◌≡◌, List, [], false}
use Rattle.base.specs.Bytes.{Read}
use Rattle.base.specs.Bytes.Read.{none, some}
use Rattle.records.specs.Token.{Token, unconfined}
use Rattle.records.specs.Crowd.{crowd_of}
use Rattle.records.specs.TokenRecord.{read_record}
use Rattle.passes.specs.Matching.{hits_of}
use Rattle.passes.specs.NormalEvaluation.{Dacl}
use Rattle.policy.specs.Rules.{Lists}
use Rattle.audit.specs.Events.{Event, stages_audit}
use Rattle.answers.specs.Granted.{answer_of, flagged}
use Rattle.access.specs.Evaluated.{found_of, sought_of}
use Rattle.access.specs.Status.{Question, events_for, answer_to, checked}
use Rattle.answers.specs.declared.answer.Answer.{Answer}

abbrev pub Accepted : Question → Type 0
Accepted q = (checked q).status ≡ 0

-- "A refused check grants no right and sets no flag"; "A refusal zeroes all four" masks (request 106)
pub record GrantsNothing (a : Answer) : Type 0 where
  pub normal : a.normal.0 ≡ 0
  pub confined : a.confined.0 ≡ 0
  pub ruled : a.ruled.0 ≡ 0
  pub granted : a.granted.0 ≡ 0
  pub allowed : a.allowed ≡ false
  pub staged : a.staged ≡ false

-- the token that a record holds. An accepted question has one; for a misshapen record a token of nobody stands here, and nothing is
-- said of it
abbrev pub token_of : Read Token → Token
token_of none = record { flags = 0; privileges = 0; user = []; groups = []; confinement = unconfined }
token_of (some t end) = t

abbrev pub token_in : Question → Token
token_in q = token_of (read_record q.token)

-- what the rules answer for a token, with no word on refusals: the access lists, and the staged SACLs (request 105)
abbrev pub by_rules : Question → Token → Answer
by_rules q t = answer_to q t

-- the same of an owner, a self identity, an access list and rules, wherever they stand
abbrev pub ruled_on : ℕ → ℕ → Token → List ℕ → List ℕ → Dacl → List Lists → Answer
ruled_on kind mask t owner self d rules =
    let a : Answer = answer_of kind mask (found_of kind t owner self d rules) in
    flagged a (stages_audit (sought_of kind mask a) (crowd_of t) (hits_of (crowd_of t) owner self) rules)

-- the events of an accepted question (request 105)
abbrev pub events_given : Question → List Event
events_given q = events_for q (token_in q)
