-- What `findings_in` hands to the audit, of a question for which something is found: the token's listing, the owner and the SACL, as the rules
-- have them; and the ways out of `answer_in`.
-- Assumes nothing.
use Prim.Native.Nat.{ℕ, ◌-◌, ◌<◌, ◌≤◌}
use mathlib.Core.Path.{◌≡◌, refl, sym, ap, ◌∙◌}
use mathlib.Core.List.{List}
use mathlib.Core.Bool.{Bool, true, false, ◌&&◌, ◌||◌}
use native.Mathlib.Omega.{arith}
use borrow.Author.Tests.{lt-ltb, le-ltb, ltb-true, ltb-false}
use lib.Dec.{T, ltb}
use lib.ListN.{length, take}
use lib.Pow.{are_bytes}
use Rattle.base.proofs.BytesLaws.{length_part}
use Rattle.lists.specs.Descriptor.{parts_of, owner_of, sacl_of, part_in}
use Rattle.lists.specs.declared.descriptor.Extent.{Extent}
use Rattle.lists.proofs.DescriptorLaws.{parts_bounds}
use Rattle.lists.proofs.DescriptorSteps.{part_in_inside}
use Rattle.records.specs.Token.{Token}
use Rattle.records.specs.Shaped.{Shaped}
use Rattle.records.specs.FlatListing.{listing_of}
use Rattle.records.specs.Converters.{as_listing}
use Rattle.records.proofs.RoundTrip.{record_form}
use Rattle.records.proofs.LimitLaws.{listing_short}
use Rattle.policy.specs.Policy.{standing_of}
use Rattle.policy.specs.ByLengths.{rules_by_lengths}
use Rattle.answers.specs.Granted.{answer_of}
use Rattle.access.specs.Status.{Question, by_lists}
use Rattle.access.specs.Reported.{lending, in_buffer, report_past, Lent}
use Rattle.access.specs.Evaluating.{crowd_in, report_in}
use Rattle.answers.specs.declared.answer.Answer.{Answer}
use Rattle.access.specs.declared.answer.Traced.{Traced}
use Rattle.access.specs.Findings.{Findings, findings_for}
use Rattle.access.proofs.FindingsLaws.{Reports, past_taken}
use Rattle.access.proofs.ReportLaws.{lent_none, unasked, report_listed}
use Rattle.access.proofs.TokenSteps.{number_sound, crowd_few}

-- from one place up to another stands something
places_stand : (a e n : ℕ) → n ≡ e - a → ltb a e ≡ ltb 0 n
places_stand a e n h = go (ltb a e) refl
  where
    go : (b : Bool) → ltb a e ≡ b → ltb a e ≡ ltb 0 n
    go true q = q ∙ sym (lt-ltb 0 n (omega (arith, ltb-true a e q, h)))
    go false q = q ∙ sym (le-ltb 0 n (omega (arith, ltb-false a e q, h)))

module _ (q : Question) (f : Findings) (e : f ≡ findings_for q) (z : f.status ≡ 0) where
  pub reports : Reports q f
  reports = past_taken q f e z

  abbrev pub t : Token
  t = reports.taken.token

  -- ---- what is handed over

  pub listing_held : (l room : List ℕ) → (f.status ≡ 0 → take f.length room ≡ (as_listing q.token).bytes) → l ≡ take f.length room →
      l ≡ listing_of t
  unfolding as_listing
  listing_held l room k h = h ∙ k z ∙ rw (reports.taken.read, reports.taken.kept) refl

  shaped : T (are_bytes q.token) → Shaped t
  shaped b = (record_form q.token t reports.taken.end b reports.taken.read).1

  pub limits : T (are_bytes q.token) → (l : List ℕ) → l ≡ listing_of t → (length l ≤ 32768) × (length (crowd_in l) < 258)
  limits b l h =
      let o = shaped b in
      let n = listing_short t o in
      let m = crowd_few t o in
      rw h (omega (arith, n), omega (arith, m))

  pub owner_held : (w : List ℕ) → w ≡ part_in q.descriptor f.owner.from f.owner.to → w ≡ owner_of q.descriptor
  owner_held w h =
      let x : Extent = (parts_of q.descriptor).owner in
      let o = (parts_bounds q.descriptor).owner in
      h ∙ ap (λ (g : Findings). part_in q.descriptor g.owner.from g.owner.to) reports.taken.is ∙ part_in_inside q.descriptor x.from x.to o.0 o.1

  pub sacl_held : (w : List ℕ) → w ≡ part_in q.descriptor f.sacl.from f.sacl.to → w ≡ sacl_of q.descriptor
  sacl_held w h =
      let x : Extent = (parts_of q.descriptor).sacl in
      let o = (parts_bounds q.descriptor).sacl in
      h ∙ ap (λ (g : Findings). part_in q.descriptor g.sacl.from g.sacl.to) reports.taken.is ∙ part_in_inside q.descriptor x.from x.to o.0 o.1

  answer_held : (a : Answer) → a ≡ answer_of q.kind q.mask f.found → a ≡ by_lists q t
  answer_held a h = h ∙ ap (λ (g : Findings). answer_of q.kind q.mask g.found) reports.taken.is

  -- its places tell whether a SACL stands
  sacl_stands : ltb f.sacl.from f.sacl.to ≡ ltb 0 (length (sacl_of q.descriptor))
  sacl_stands =
      let x : Extent = (parts_of q.descriptor).sacl in
      let o = (parts_bounds q.descriptor).sacl in
      ap (λ (g : Findings). ltb g.sacl.from g.sacl.to) reports.taken.is
      ∙ places_stand x.from x.to (length (sacl_of q.descriptor)) (length_part q.descriptor x.from x.to o.0 o.1)

  -- ---- the ways out

  module _ (lent : Bool) (n : ℕ) (before after : List ℕ) (told : Traced) (a : Answer)
      (read : a ≡ answer_of q.kind q.mask f.found) where
    pub lent_unasked : (f.found.has_staged_sacl || (lent && (ltb f.sacl.from f.sacl.to || f.found.has_sacl))) ≡ false →
        told.answer ≡ a → told.length ≡ 0 → after ≡ before → Lent (in_buffer n (lending lent (report_past q))) before after told
    lent_unasked none is zero same =
        let o = unasked q t lent
        (sym (ap
        (λ (g : Findings). g.found.has_staged_sacl || (lent && (ltb 0 (length (sacl_of q.descriptor)) || g.found.has_sacl)))
        reports.taken.is)
        ∙ ap (λ (b : Bool). f.found.has_staged_sacl || (lent && (b || f.found.has_sacl))) (sym sacl_stands) ∙ none) in
        rw (reports.told, o) (lent_none n (by_lists q t) before after told (is ∙ answer_held a read) zero same)

    pub lent_audited : T (are_bytes q.token) → (l owner sacl : List ℕ) → l ≡ listing_of t → owner ≡ owner_of q.descriptor →
        sacl ≡ sacl_of q.descriptor →
        Lent (in_buffer n (report_in lent q.kind q.mask l owner q.self sacl (rules_by_lengths q.policy) a)) before after told →
        Lent (in_buffer n (lending lent (report_past q))) before after told
    lent_audited b l owner sacl listing named held x =
        let s = number_sound (standing_of q.policy) reports.taken.sound in
        let o = report_listed q t lent l owner sacl a (shaped b) listing named held s (answer_held a read) in
        rw (reports.told, ← o) x
