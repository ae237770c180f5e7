-- The evaluation as a thing of its own, whatever the desired mask: the numbers 3 to 10 in the page's order, and what is found. A check is
-- read off it (FindingsLaws).
use Rattle.std.specs.Prelude.{ℕ, ◌≡◌, ◌≤◌, List, Result, Ok, Err, false, cond, eqb, length, take}
use Rattle.base.specs.Bytes.{Read}
use Rattle.base.specs.Bytes.Read.{none, some}
use Rattle.records.specs.Token.{Token}
use Rattle.records.specs.TokenRecord.{read_record}
use Rattle.records.specs.TokenRules.{keeps}
use Rattle.records.specs.FlatListing.{listing_of}
use Rattle.records.specs.Converters.{as_listing}
use Rattle.tokens.specs.Judging.{judged_of}
use Rattle.tokens.specs.declared.flat.Listed.{Listed}
use Rattle.lists.specs.Descriptor.{parts_of}
use Rattle.lists.specs.declared.descriptor.Extent.{Extent}
use Rattle.access.specs.Status.{Question, self_fits, descriptor_number, policy_number, findings}
use Rattle.access.specs.Refusals.{number_of}
use Rattle.answers.specs.declared.answer.Found.{Found}
use Rattle.access.specs.declared.answer.Findings.{Findings as Handed}
use Rattle.access.specs.declared.question.Refusal.{Refusal}

-- the page's status number (0, or 3 to 10), and what was found; for the audit that follows how long the token's listing is, and where the
-- descriptor's owner and SACL stand
pub record Findings : Type 0 where
  pub status : ℕ
  pub found : Found
  pub length : ℕ
  pub owner : Extent
  pub sacl : Extent

-- on refusal every mask is 0, and no SACL is told
abbrev pub none_found : Found
none_found =
    record {
      normal = record { 0 = 0 };
      confined = record { 0 = 0 };
      ruled = record { 0 = 0 };
      differ = record { 0 = 0 };
      has_sacl = false;
      has_staged_sacl = false;
    }

-- nor a place
abbrev pub stopped : ℕ → Findings
stopped n =
    record {
      status = n;
      found = none_found;
      length = 0;
      owner = record { from = 0; to = 0 };
      sacl = record { from = 0; to = 0 };
    }

abbrev pub accepted : Token → List ℕ → Found → Findings
accepted t d f =
    record { status = 0; found = f; length = length (listing_of t); owner = (parts_of d).owner; sacl = (parts_of d).sacl }

-- from 5 on, for a token
unfoldable pub found_after : ℕ → List ℕ → List ℕ → List ℕ → Token → Findings
found_after kind self d p t =
    cond (self_fits self)
    (cond (eqb (descriptor_number d) 0)
    (cond (eqb (policy_number p) 0)
    (accepted t d (findings kind t self d p))
    (stopped (policy_number p)))
    (stopped (descriptor_number d)))
    (stopped 5)

-- 3 and 4, of the token
abbrev pub found_with : ℕ → List ℕ → List ℕ → List ℕ → Read Token → Findings
found_with kind self d p none = stopped 3
found_with kind self d p (some t end) = cond (keeps t) (found_after kind self d p t) (stopped 4)

-- kind, token record, self identity, descriptor and policy
unfoldable pub findings_of : ℕ → List ℕ → List ℕ → List ℕ → List ℕ → Findings
findings_of kind token self d p = found_with kind self d p (read_record token)

-- ---- how the code tells it

abbrev pub findings_for : Question → Findings
findings_for q = findings_of q.kind q.token q.self q.descriptor q.policy

abbrev pub told : Result Handed Refusal → Findings
told (Ok f) = record { status = 0; found = f.found; length = f.length; owner = f.owner; sacl = f.sacl }
told (Err r) = stopped (number_of r)

-- the listing of a token's record s at the front of a room
pub record ListedIn (s room : List ℕ) (l : Listed) : Type 0 where
  pub long : l.length ≡ length (as_listing s).bytes
  pub bytes : take l.length room ≡ (as_listing s).bytes
  pub place : l.confined_at ≡ (judged_of (read_record s)).confined_at
  pub within : l.length ≤ length room
