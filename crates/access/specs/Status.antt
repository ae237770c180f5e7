-- "Status numbers, in order of checking": the lowest number that applies is given; shape is judged over a whole part before its later numbers.
use Rattle.std.specs.Prelude.{ℕ, List, Bool, true, cond, not, length, eqb}
use Rattle.base.specs.Bytes.{Read}
use Rattle.base.specs.Bytes.Read.{none, some}
use Rattle.sids.specs.Sid.{is_sid}
use Rattle.lists.specs.Acl.{entries_of}
use Rattle.lists.specs.Descriptor as descriptor
use Rattle.lists.specs.Descriptor.{parts_of, owner_of, dacl_of, sacl_of}
use Rattle.records.specs.Token.{Token}
use Rattle.records.specs.Crowd.{crowd_of}
use Rattle.records.specs.TokenRecord.{read_record}
use Rattle.records.specs.TokenRules.{keeps}
use Rattle.masks.specs.KindsAndMasks.{known_kind, legal}
use Rattle.passes.specs.NormalEvaluation.{Dacl}
use Rattle.passes.specs.Matching.{hits_of}
use Rattle.passes.specs.declared.matching.Hits.{Hits}
use Rattle.policy.specs.Policy as policy
use Rattle.policy.specs.Policy.{standing_of}
use Rattle.policy.specs.Rules.{rules_of}
use Rattle.audit.specs.Events.{Event, events_of, stages_audit}
use Rattle.audit.specs.declared.firing.Sought.{Sought}
use Rattle.answers.specs.Granted.{refused, answer_of, flagged}
use Rattle.access.specs.Evaluated.{found_of, sought_of}
use Rattle.answers.specs.declared.answer.Answer.{Answer}
use Rattle.answers.specs.declared.answer.Found.{Found}
use Rattle.access.specs.declared.question.Question.{Question as Put}

-- "A question has an object kind, a desired mask, a token record, a self identity (may be empty), a self-relative descriptor and one policy (may be
-- empty)."
pub record Question : Type 0 where
  pub kind : ℕ
  pub mask : ℕ
  pub token : List ℕ
  pub self : List ℕ
  pub descriptor : List ℕ
  pub policy : List ℕ

-- the question that the code is handed
abbrev pub posed : Put → Question
posed q =
    record {
      kind = q.kind;
      mask = q.mask.0;
      token = q.token.now;
      self = q.me.now;
      descriptor = q.descriptor.now;
      policy = q.policy.now;
    }

-- 5: "self identity neither empty nor exactly one SID"
unfoldable pub self_fits : List ℕ → Bool
self_fits w = cond (eqb (length w) 0) true (is_sid w)

-- the access list that an accepted descriptor has
abbrev pub dacl_in : List ℕ → Dacl
dacl_in d = record { present = not (parts_of d).null; entries = entries_of (dacl_of d) }

-- 6, 7, 8 of the descriptor; 9, 10 of the policy
abbrev pub descriptor_number : List ℕ → ℕ
descriptor_number d = descriptor.number_of (parts_of d).verdict

abbrev pub policy_number : List ℕ → ℕ
policy_number p = policy.number_of (standing_of p)

-- what is found for an accepted question, whatever its mask
abbrev pub findings : ℕ → Token → List ℕ → List ℕ → List ℕ → Found
findings kind t self d p = found_of kind t (owner_of d) self (dacl_in d) (rules_of p)

-- the answer by the access lists alone
abbrev pub by_lists : Question → Token → Answer
by_lists q t = answer_of q.kind q.mask (findings q.kind t q.self q.descriptor q.policy)

-- the audit of it (request 105) is a step of its own: it goes by the explicit bits and the allowed answer, and matches as the normal pass does
abbrev pub sought_for : Question → Token → Sought
sought_for q t = sought_of q.kind q.mask (by_lists q t)

abbrev pub hits_for : Question → Token → Hits
hits_for q t = hits_of (crowd_of t) (owner_of q.descriptor) q.self

-- whether a staged SACL raises the flag, and the events
abbrev pub raised_for : Question → Token → Bool
raised_for q t = stages_audit (sought_for q t) (crowd_of t) (hits_for q t) (rules_of q.policy)

abbrev pub events_for : Question → Token → List Event
events_for q t = events_of (sought_for q t) (crowd_of t) (hits_for q t) (sacl_of q.descriptor) (rules_of q.policy)

-- the answer to an accepted question
unfoldable pub answer_to : Question → Token → Answer
answer_to q t = flagged (by_lists q t) (raised_for q t)

-- from 5 on, for a token
unfoldable pub after_token : Question → Token → Answer
after_token q t =
    cond (self_fits q.self)
    (cond (eqb (descriptor_number q.descriptor) 0)
    (cond (eqb (policy_number q.policy) 0)
    (answer_to q t)
    (refused (policy_number q.policy)))
    (refused (descriptor_number q.descriptor)))
    (refused 5)

-- 3: "token record misshapen"; 4: "token breaks a token rule"
abbrev pub with_token : Question → Read Token → Answer
with_token q none = refused 3
with_token q (some t end) = cond (keeps t) (after_token q t) (refused 4)

-- 1: "kind is not 1 or 2"; 2: the mask has a foreign bit. This is the answer with room for any trail: Reported has the trail, and 11
unfoldable pub checked : Question → Answer
checked q = cond (known_kind q.kind) (cond (legal q.kind q.mask) (with_token q (read_record q.token)) (refused 2)) (refused 1)
