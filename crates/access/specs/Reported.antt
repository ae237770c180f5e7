-- "Write one event per entry .. into a lent buffer. If the events do not fit: 11, last of all, nothing granted, nothing written" (request
-- 105).
use Rattle.std.specs.Prelude.{ℕ, ◌≡◌, List, [], Bool, cond, length, ltb, eqb}
use Rattle.std.proofs.lemmas.List.Edits.{sets}
use Rattle.base.specs.Bytes.{Read}
use Rattle.base.specs.Bytes.Read.{none, some}
use Rattle.records.specs.Token.{Token}
use Rattle.records.specs.TokenRecord.{read_record}
use Rattle.audit.specs.Trail.{trail_bytes}
use Rattle.answers.specs.Granted.{refused}
use Rattle.access.specs.Status.{Question, events_for, with_token, checked}
use Rattle.answers.specs.declared.answer.Answer.{Answer}
use Rattle.access.specs.declared.answer.Traced.{Traced}

-- an answer, and the bytes of its trail
pub record Report : Type 0 where
  pub answer : Answer
  pub trail : List ℕ

abbrev pub report : Answer → List ℕ → Report
report a w = record { answer = a; trail = w }

-- a refused question has no trail
abbrev pub refusal : ℕ → Report
refusal n = report (refused n) []

-- the trail of an answered question
abbrev pub trail_for : Answer → Question → Read Token → List ℕ
trail_for a q none = []
trail_for a q (some t end) = cond (eqb a.status 0) (trail_bytes (events_for q t)) []

unfoldable pub report_of : Question → Report
report_of q = report (checked q) (trail_for (checked q) q (read_record q.token))

-- a call that is lent no buffer answers as one with room enough
abbrev pub lending : Bool → Report → Report
lending lent r = report r.answer (cond lent r.trail [])

-- in a buffer of n bytes; one that is exactly full fits
unfoldable pub in_buffer : ℕ → Report → Report
in_buffer n r = cond (ltb n (length r.trail)) (refusal 11) r

-- a report as it is handed out, with the lent buffer before and after: the trail stands at its front, and the rest is unchanged
pub record Lent (r : Report) (before after : List ℕ) (t : Traced) : Type 0 where
  pub answer : t.answer ≡ r.answer
  pub length : t.length ≡ length r.trail
  pub buffer : after ≡ sets before 0 r.trail

-- ---- how the code goes about it: kind and mask are judged before

unfoldable pub report_past : Question → Report
report_past q = let a = with_token q (read_record q.token) in report a (trail_for a q (read_record q.token))
