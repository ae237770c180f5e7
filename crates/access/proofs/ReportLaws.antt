-- Laws of reports (specs: Reported). `lent-..`: what is handed out, refused or without a trail. `unasked`: where no list asks for an audit
-- there is nothing to do. `report_listed`: the audit over a token's listing is that of the token.
-- Assumes nothing.
use Prim.Native.Nat.{ℕ}
use mathlib.Core.Path.{◌≡◌, refl, sym, ap, ap₂, ◌∙◌}
use mathlib.Core.List.{List, []}
use mathlib.Core.Bool.{Bool, true, false, cond, ◌&&◌, ◌||◌, or-false}
use native.Mathlib.Omega.{arith}
use borrow.Author.Tests.{le-ltb}
use lib.Dec.{ltb}
use lib.ListN.{length}
use Rattle.base.proofs.BoolLaws.{neither}
use Rattle.lists.specs.Descriptor.{owner_of, sacl_of}
use Rattle.records.specs.Token.{Token}
use Rattle.records.specs.Shaped.{Shaped}
use Rattle.records.specs.FlatListing.{listing_of}
use Rattle.records.specs.Crowd.{crowd_of}
use Rattle.records.proofs.CrowdLaws.{crowd_listed}
use Rattle.policy.specs.Policy.{standing_of}
use Rattle.policy.specs.Rules.{rules_of, unruled, some_audit, some_staged_audit}
use Rattle.policy.specs.ByLengths.{rules_by_lengths}
use Rattle.policy.specs.Standing.Standing.{Sound}
use Rattle.policy.proofs.PolicyLaws.{sound_by_lengths}
use Rattle.policy.proofs.RulesLaws.{audits_some, staged_audits_some}
use Rattle.audit.specs.Trail.{trail_bytes}
use Rattle.audit.proofs.NothingLaws.{nothing_there, no_events, no_stages}
use Rattle.answers.specs.Granted.{flagged, refused}
use Rattle.access.specs.Evaluated.{found_of}
use Rattle.access.specs.Status.{Question, findings, by_lists, sought_for, hits_for, raised_for, events_for, answer_to}
use Rattle.access.specs.Reported.{Report, report, refusal, lending, in_buffer, Lent}
use Rattle.access.specs.Evaluating.{report_in}
use Rattle.answers.specs.declared.answer.Answer.{Answer}
use Rattle.access.specs.declared.answer.Traced.{Traced}

-- ---- what is handed out without a trail

module _ (n : ℕ) (a : Answer) (before after : List ℕ) (t : Traced) (is : t.answer ≡ a) (none : t.length ≡ 0) (same : after ≡ before) where
  pub lent_none : Lent (in_buffer n (report a [])) before after t
  unfolding in_buffer
  lent_none = rw (le-ltb n 0 (omega arith)) (record { answer = is; length = none; buffer = same })

lending_refusal : (lent : Bool) (m : ℕ) → lending lent (refusal m) ≡ refusal m
lending_refusal true m = refl
lending_refusal false m = refl

pub lent_refused : (lent : Bool) (n m : ℕ) (r : Report) (before after : List ℕ) (t : Traced) → r ≡ refusal m → t.answer ≡ refused m →
    t.length ≡ 0 → after ≡ before → Lent (in_buffer n (lending lent r)) before after t
lent_refused lent n m r before after t e is none same =
    rw (e, lending_refusal lent m) (lent_none n (refused m) before after t is none same)

-- a call that lends no buffer has the answer of one with room enough
pub unlent_answer : (n : ℕ) (r : Report) → (in_buffer n (lending false r)).answer ≡ r.answer
unfolding in_buffer
unlent_answer n r = rw (le-ltb n 0 (omega arith)) refl

-- ---- where no list asks

flagged_not : (a : Answer) → flagged a false ≡ a
flagged_not a = rw (or-false a.staged) refl

module _ (q : Question) (t : Token) where
  -- what is found tells it
  audits_told : (findings q.kind t q.self q.descriptor q.policy).has_sacl ≡ some_audit (crowd_of t) (hits_for q t) (rules_of q.policy)
  unfolding found_of
  audits_told = audits_some q.kind (crowd_of t) (hits_for q t) t.privileges unruled (rules_of q.policy)

  stages_told : (findings q.kind t q.self q.descriptor q.policy).has_staged_sacl
      ≡ some_staged_audit (crowd_of t) (hits_for q t) (rules_of q.policy)
  unfolding found_of
  stages_told = staged_audits_some q.kind (crowd_of t) (hits_for q t) t.privileges unruled (rules_of q.policy)

  trail_unasked : (lent : Bool) → (lent && (ltb 0 (length (sacl_of q.descriptor))
      || (findings q.kind t q.self q.descriptor q.policy).has_sacl)) ≡ false → cond lent (trail_bytes (events_for q t)) [] ≡ []
  unfolding trail_bytes
  trail_unasked true e =
      let f = neither _ _ e in
      ap trail_bytes (no_events (sought_for q t) (crowd_of t) (hits_for q t) (sacl_of q.descriptor) (rules_of q.policy)
      (nothing_there (sacl_of q.descriptor) f.0) (sym audits_told ∙ f.1))
  trail_unasked false e = refl

  pub unasked : (lent : Bool) → ((findings q.kind t q.self q.descriptor q.policy).has_staged_sacl
      || (lent && (ltb 0 (length (sacl_of q.descriptor)) || (findings q.kind t q.self q.descriptor q.policy).has_sacl))) ≡ false →
      lending lent (report (answer_to q t) (trail_bytes (events_for q t))) ≡ report (by_lists q t) []
  unfolding answer_to
  unasked lent e =
      let f = neither _ _ e in
      let s : raised_for q t ≡ false =
      no_stages (sought_for q t) (crowd_of t) (hits_for q t) (rules_of q.policy) (sym stages_told ∙ f.0) in
      ap₂ report (ap (flagged (by_lists q t)) s ∙ flagged_not (by_lists q t)) (trail_unasked lent f.1)

  -- ---- the audit over a listing

  pub report_listed : (lent : Bool) (l owner sacl : List ℕ) (a : Answer) → Shaped t → l ≡ listing_of t → owner ≡ owner_of q.descriptor →
      sacl ≡ sacl_of q.descriptor → standing_of q.policy ≡ Sound → a ≡ by_lists q t →
      report_in lent q.kind q.mask l owner q.self sacl (rules_by_lengths q.policy) a
      ≡ lending lent (report (answer_to q t) (trail_bytes (events_for q t)))
  unfolding report_in answer_to
  report_listed lent l owner sacl a o e f g s h = rw (e, f, g, h, sound_by_lengths q.policy s, crowd_listed t o) refl
