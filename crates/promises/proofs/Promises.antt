-- What is promised, in the request's own words, and where it is proved: each proof here is one line that cites the work.
-- The words mean: `checked`, the answer to a question, with its four masks since request 106 (access/specs/Status.antt); `file_answer`,
-- that to a question file (questions/specs/QuestionFile.antt); since request 105 `report_of` and `file_report`, the same with the bytes of
-- the trail, `in_buffer n`, in a lent buffer of n bytes, `Lent`, what a call hands out (access/specs/Reported.antt); `by_rules`, the rules
-- of document 01 with no word on refusals, `events_given`, the events of a question; `conditions`, the table of status numbers line by
-- line, and `lowest`; `trail_conditions`, the same with 11 behind it; `Nothing`, neither right nor flag nor trail; `conversion_into`, what
-- a converter comes to in a buffer of so many bytes; `SameButStrangers`, `unnumbered`, `SameButOneRule` (demands/specs: Accepted,
-- Conditions, Conversions, Strangers, Trails). The dummies that demand 2 shuts out: cards/proofs/Dummies.antt. Assumes nothing.
use Prim.Native.Nat.{ℕ}
use mathlib.Core.Path.{◌≡◌}
use mathlib.Core.List.{List}
use mathlib.Core.Bool.{true, false}
use mathlib.Core.Logic.{◌↔◌}
use lib.ListN.{length}
use lib.Seq.{sets}
use lib.Dec.{T}
use lib.Pow.{are_bytes}
use Rattle.base.specs.Bits.{Within}
use Rattle.base.specs.Bytes.Read.{some}
use Rattle.records.specs.Converters.{as_listing, as_record, full_result}
use Rattle.records.proofs.RoundTrip as round_trip
use Rattle.masks.specs.KindsAndMasks.{asked}
use Rattle.access.specs.Status.{Question, checked}
use Rattle.access.specs.Reported.{report_of, in_buffer, Lent}
use Rattle.questions.specs.QuestionFile.{question_of, file_answer, file_report}
use Rattle.access.specs.declared.answer.Traced.{Traced}
use Rattle.pirasteh.specs.Told.{Handed}
use Rattle.pirasteh.specs.Followed.{Followed}
use Rattle.demands.specs.Accepted.{Accepted, GrantsNothing, token_in, by_rules, events_given}
use Rattle.demands.specs.Conditions.{conditions, lowest, some_holds, file_misshapen}
use Rattle.demands.specs.Conversions.{Way, conversion, conversion_into, conversion_conditions, Written, Untouched}
use Rattle.demands.specs.Strangers.{SameButStrangers, unnumbered, SameButOneRule}
use Rattle.demands.specs.Trails.{trail_conditions, Nothing}
use Rattle.demands.proofs.StatusLaws as status
use Rattle.demands.proofs.FileLaws as file
use Rattle.demands.proofs.ConverterLaws as converter
use Rattle.demands.proofs.AcceptedLaws as accepted
use Rattle.demands.proofs.StrangersLaws as strangers
use Rattle.demands.proofs.GainLaws as gain
use Rattle.demands.proofs.TrailLaws as trails
use Rattle.demands.proofs.FileTrailLaws as file-trail
use Rattle.access.proofs.check as check
use Rattle.questions.proofs.question as question
use Rattle.questions.proofs.desired_in as desired-in
use Rattle.access.proofs.trail as trail
use Rattle.questions.proofs.trail_question as trail-question
use Rattle.tokens.proofs.to_listing as to-listing
use Rattle.tokens.proofs.to_record as to-record
use Rattle.pirasteh.proofs.pirasteh_check as c-check
use Rattle.pirasteh.proofs.pirasteh_question as c-question
use Rattle.pirasteh.proofs.pirasteh_why as c-why
use Rattle.pirasteh.proofs.pirasteh_why_question as c-why-question
use Rattle.pirasteh.proofs.pirasteh_trail as c-trail
use Rattle.pirasteh.proofs.pirasteh_trail_question as c-trail-question
use Rattle.pirasteh.proofs.pirasteh_list as c-list
use Rattle.pirasteh.proofs.pirasteh_pack as c-pack

-- ---- Demand 1. "Whatever bytes arrive, it ends and touches nothing outside them."
-- Of the functions themselves: for all lent bytes each ends, is safe, and returns and leaves what its contract says, an equation with the
-- definitions below. Contracts: access/src, `check` and `trail` (request 105); questions/src, `question`, `desired_in` (the kind and the
-- mask of a file's question, request 106) and `trail_question` (request 105); tokens/src, `to_listing` and `to_record`; pirasteh/src, for
-- C and Rust.
pub functions_met : {M : Type 1} → check.Statement.statement M × question.Statement.statement M × desired-in.Statement.statement M
    × trail.Statement.statement M × trail-question.Statement.statement M × to-listing.Statement.statement M × to-record.Statement.statement M
functions_met =
    (check.Met.met, question.Met.met, desired-in.Met.met, trail.Met.met, trail-question.Met.met, to-listing.Met.met, to-record.Met.met)

pub exports_met : {M : Type 1} → c-check.Statement.statement M × c-question.Statement.statement M × c-why.Statement.statement M
    × c-why-question.Statement.statement M × c-trail.Statement.statement M × c-trail-question.Statement.statement M
    × c-list.Statement.statement M × c-pack.Statement.statement M
exports_met = (
  c-check.Met.met,
  c-question.Met.met,
  c-why.Met.met,
  c-why-question.Met.met,
  c-trail.Met.met,
  c-trail-question.Met.met,
  c-list.Met.met,
  c-pack.Met.met,
)

-- "Bad input is refused by the number document 01 gives." Of a check, of a question file, of a converter: 3, 4 and 11 exactly when
pub bad_input : (q : Question) → (checked q).status ≡ lowest (conditions q)
bad_input = status.status_is

pub bad_file : (s : List ℕ) → (file_answer s).status ≡ 12 ↔ file_misshapen s ≡ true
bad_file = file.file_12

pub bad_conversion : (room : ℕ) (way : Way) (s : List ℕ) → (conversion_into room way s).status ≡ lowest (conversion_conditions room way s)
bad_conversion = converter.conversion_status

-- With a buffer for the trail (request 105): 11 "last of all"; of a file 12 before all
pub bad_report : (n : ℕ) (q : Question) → (in_buffer n (report_of q)).answer.status ≡ lowest (trail_conditions n q)
bad_report = trails.report_status

pub bad_file_report : (n : ℕ) (s : List ℕ) → (in_buffer n (file_report s)).answer.status ≡ 12 ↔ file_misshapen s ≡ true
bad_file_report = file-trail.file_report_12

-- "A refused check grants no right and sets no flag; a refused conversion writes no byte." Request 106: "A refusal zeroes all four" masks
pub refused_check : (q : Question) → ((checked q).status ≡ 0 → ⊥) → GrantsNothing (checked q)
refused_check = status.refused_grants_nothing

pub refused_file : (s : List ℕ) → ((file_answer s).status ≡ 0 → ⊥) → GrantsNothing (file_answer s)
refused_file = file.refused_file

pub refused_conversion : (way : Way) (s before : List ℕ) → ((conversion_into (length before) way s).status ≡ 0 → ⊥) →
    sets before 0 (conversion_into (length before) way s).bytes ≡ before
refused_conversion = converter.refused_buffer

-- the same of `pirasteh_list` and `pirasteh_pack`, with the lent buffer before and after, the lent number n and the result r
pub refused_export : (way : Way) (s before after : List ℕ) (n r : ℕ) → Handed (conversion_into (length before) way s) before after n r →
    (r ≡ 0 → ⊥) → Untouched before after n
refused_export = converter.unwritten

-- Request 105: "nothing granted, nothing written". Of a check and of a question file, in a buffer of n bytes; and what a call that is lent
-- one leaves in it and tells, t
pub refused_report : (n : ℕ) (q : Question) → ((in_buffer n (report_of q)).answer.status ≡ 0 → ⊥) → Nothing (in_buffer n (report_of q))
refused_report = trails.refused_report

pub refused_file_report : (n : ℕ) (s : List ℕ) → ((in_buffer n (file_report s)).answer.status ≡ 0 → ⊥) → Nothing (in_buffer n (file_report s))
refused_file_report = file-trail.refused_file_report

pub refused_trail : (q : Question) (before after : List ℕ) (t : Traced) → Lent (in_buffer (length before) (report_of q)) before after t →
    (t.answer.status ≡ 0 → ⊥) → Untouched before after t.length
refused_trail = trails.trail_unwritten

pub refused_file_trail : (s before after : List ℕ) (t : Traced) → Lent (in_buffer (length before) (file_report s)) before after t →
    (t.answer.status ≡ 0 → ⊥) → Untouched before after t.length
refused_file_trail = file-trail.file_unwritten

-- the same of `pirasteh_trail` and `pirasteh_trail_question`, with the lent buffer before and after, the lent numbers n, g, a and f and the
-- result r
pub refused_trail_export : (q : Question) (before after : List ℕ) (n r g a f : ℕ) →
    Followed (in_buffer (length before) (report_of q)) before after n r g a f → (r ≡ 0 → ⊥) → Untouched before after n
refused_trail_export = trails.export_unwritten

pub refused_file_trail_export : (s before after : List ℕ) (n r g a f : ℕ) →
    Followed (in_buffer (length before) (file_report s)) before after n r g a f → (r ≡ 0 → ⊥) → Untouched before after n
refused_file_trail_export = file-trail.file_export_unwritten

-- ---- Demand 2. "Input that no refusal fits is accepted."
pub accepted_input : (q : Question) → Accepted q ↔ some_holds (conditions q) ≡ false
accepted_input = status.accepted_when

-- "For it the granted mask, the allowed answer and the staging flag are those of the published descriptor, confinement and policy rules as
-- document 01 states them." Of a check, with the masks after each step (request 106), and of a question file; and of these: "no granted bit
-- lies outside the bits asked"
pub accepted_answer : (q : Question) → Accepted q → checked q ≡ by_rules q (token_in q)
accepted_answer = accepted.accepted_is

pub file_answered : (s : List ℕ) → file_misshapen s ≡ false →
    (q : Question) × (end : ℕ) × (question_of s ≡ some q end) × (file_answer s ≡ checked q)
file_answered = file.file_answered

-- With a buffer for the trail (request 105) the answer is the same, and the trail whole: what it is, `trail_is` of Requests.antt says
pub accepted_report : (n : ℕ) (q : Question) → (in_buffer n (report_of q)).answer.status ≡ 0 →
    Accepted q × (in_buffer n (report_of q) ≡ report_of q)
accepted_report = trails.accepted_report

pub file_reported : (s : List ℕ) → file_misshapen s ≡ false →
    (q : Question) × (end : ℕ) × (question_of s ≡ some q end) × (file_report s ≡ report_of q)
file_reported = file-trail.file_reported

pub granted_in_asked : (q : Question) → Within (checked q).granted.0 (asked q.kind q.mask)
granted_in_asked = status.granted_asked

-- "Token records convert to the flat listing and back exactly." What `pirasteh_list` and `pirasteh_pack` write: the result's bytes, no more
pub there_and_back : (s l : List ℕ) → T (are_bytes s) → as_listing s ≡ full_result l → as_record l ≡ full_result s
there_and_back = round_trip.there_and_back

pub back_and_there : (l s : List ℕ) → T (are_bytes l) → as_record l ≡ full_result s → as_listing s ≡ full_result l
back_and_there = round_trip.back_and_there

pub written : (way : Way) (s before after : List ℕ) (n r : ℕ) → Handed (conversion_into (length before) way s) before after n r → r ≡ 0 →
    Written (conversion way s).bytes before after n
written = converter.written

-- ---- Demand 3. "Entries about strangers change nothing. Take two accepted checks alike in token, object kind, mask, self identity and
-- owner; alike in whether the access list is present; with as many policy rules, and staged lists in the same ones. If every list (the
-- descriptor's, each rule's effective and staged one) reads the same once entries naming nobody of the token and no virtual identity are
-- struck out, then all three answers are equal." Request 103: "Lists read the same only with equal condition bytes; demand 3 also needs
-- equal applies_to sections; an entry naming a stranger remains a stranger's with any condition." Request 106: "Demand 3's equality covers
-- all of them", the four masks. Request 105: "Demand 3's lists now include all these SACLs, the descriptor's and each rule's effective and
-- staged one, with strangers and other types struck out and an absent one reading as empty; it compares events without entry numbers, and
-- asks for the staged SACL in the same rules."
pub strangers_change_nothing : (p q : Question) → Accepted p → Accepted q → SameButStrangers p q →
    (checked p ≡ checked q) × (unnumbered (events_given p) ≡ unnumbered (events_given q))
strangers_change_nothing = strangers.strangers_both

-- "And a policy that gains one rule anywhere, and is still accepted, grants no bit it did not grant before." The rule may carry an
-- applies_to
pub a_rule_more : (p q : Question) → Accepted p → Accepted q → SameButOneRule p q → Within (checked q).granted.0 (checked p).granted.0
a_rule_more = gain.gained_rule
