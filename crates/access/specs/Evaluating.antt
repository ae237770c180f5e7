-- What the evaluation finds, read from the bytes of a flat listing: `found_of` of Evaluated, with the token in its listing (EvaluatingLaws,
-- `found_listed`). The confinement identity stands at a place that the reader of tokens names.
use Rattle.std.specs.Prelude.{ℕ, ◌<◌, ◌≤◌, List, Bool, true, false, cond, ◌&&◌, ltb, length}
use Rattle.base.specs.Bytes.{u32_at}
use Rattle.base.specs.Bits.{and}
use Rattle.lists.specs.ByLength.{entries_by_length}
use Rattle.sids.specs.Sid.{sid_end}
use Rattle.records.specs.Crowd.{Member, crowd_at, user_place}
use Rattle.passes.specs.Matching.{hits_of}
use Rattle.passes.specs.NormalEvaluation.{Dacl, list_gives, normal_of}
use Rattle.passes.specs.Confinement.{confines, everything}
use Rattle.policy.specs.Rules.{Lists, ruled_by}
use Rattle.audit.specs.Events.{events_of, stages_audit}
use Rattle.audit.specs.Trail.{trail_bytes}
use Rattle.answers.specs.Granted.{flagged}
use Rattle.access.specs.Evaluated.{sought_of}
use Rattle.access.specs.Reported.{Report, report, lending}
use Rattle.answers.specs.declared.answer.Found.{Found}
use Rattle.answers.specs.declared.answer.Answer.{Answer}

-- the normal identities, the flags, and the enabled privileges as far as they are read: bits 8 and 9 stand in the lower word
abbrev pub crowd_in : List ℕ → List Member
crowd_in l = crowd_at true l user_place

abbrev pub flags_in : List ℕ → ℕ
flags_in l = u32_at l 0

abbrev pub privileges_in : List ℕ → ℕ
privileges_in l = u32_at l 4

-- n seats are enough for each crowd of a listing: their numbers begin at 1
abbrev pub Seatable : List ℕ → ℕ → ℕ → Type 0
Seatable l at n = (length l ≤ 32768) × ((n ≤ 512) × ((length (crowd_in l) < n) × (length (crowd_at false l at) < n)))

-- how many identities stand beside the first one of a crowd
abbrev pub beside : List ℕ → ℕ → ℕ
beside l at = u32_at l (sid_end l at)

abbrev pub few : List ℕ → ℕ → ℕ → Bool
few l at n = ltb (beside l user_place) n && ltb (beside l at) n

-- a list's bytes, where it is present; they were judged before
abbrev pub dacl_as : Bool → List ℕ → Dacl
dacl_as present l = record { present = present; entries = entries_by_length l }

-- the bits that confinement leaves
unfoldable pub confinement_in : ℕ → List ℕ → ℕ → List ℕ → List ℕ → Dacl → ℕ
confinement_in kind l at owner self d =
    let ms = crowd_at false l at in
    cond (confines (flags_in l)) (list_gives kind ms (hits_of ms owner self) d) everything

unfoldable pub found_in : ℕ → List ℕ → ℕ → List ℕ → List ℕ → Dacl → List Lists → Found
found_in kind l at owner self d rules =
    let h = hits_of (crowd_in l) owner self in
    let n = normal_of kind (crowd_in l) h (privileges_in l) d in
    let c = and n (confinement_in kind l at owner self d) in
    let r = ruled_by kind (crowd_in l) h (privileges_in l) rules in
    record {
      normal = record { 0 = n };
      confined = record { 0 = c };
      ruled = record { 0 = and c r.left.0 };
      differ = r.differ;
      has_sacl = r.has_sacl;
      has_staged_sacl = r.has_staged_sacl;
    }

-- the audit over a listing (request 105): the report on an answer, where a buffer is lent or not
unfoldable pub report_in : Bool → ℕ → ℕ → List ℕ → List ℕ → List ℕ → List ℕ → List Lists → Answer → Report
report_in lent kind mask l owner self sacl rules a =
    let s = sought_of kind mask a in
    let h = hits_of (crowd_in l) owner self in
    lending lent (report (flagged a (stages_audit s (crowd_in l) h rules)) (trail_bytes (events_of s (crowd_in l) h sacl rules)))
