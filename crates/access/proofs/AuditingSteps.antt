-- The ways out of `audited` (specs: Evaluating, `report_in`): no buffer is lent, the trail does not fit, it fits. `raised_shown`, `trail_shown`:
-- those whom the tables show raise what the crowd raises.
-- Assumes nothing.
use Prim.Native.Nat.{ℕ}
use mathlib.Core.Path.{◌≡◌, refl, sym, ap, ◌∙◌}
use mathlib.Core.List.{List}
use mathlib.Core.Bool.{Bool, true, false, cond}
use lib.Dec.{ltb}
use lib.ListN.{length}
use lib.Seq.{sets}
use Rattle.lists.specs.declared.acl.Rights.{Rights}
use Rattle.records.specs.Crowd.{Member}
use Rattle.masks.specs.KindsAndMasks.{explicit}
use Rattle.passes.specs.Matching.{hits_of}
use Rattle.passes.specs.declared.matching.Hits.{Hits}
use Rattle.passes.proofs.CrowdsLaws.{Alike, hits_alike}
use Rattle.policy.specs.Rules.{Lists}
use Rattle.audit.specs.Events.{events_of, stages_audit}
use Rattle.audit.specs.Trail.{trail_bytes}
use Rattle.std.specs.Prelude.{None, Some}
use Rattle.audit.specs.Noting.{fitting}
use Rattle.audit.specs.declared.firing.Sought.{Sought}
use Rattle.audit.proofs.AlikeLaws.{events_alike, stages_alike}
use Rattle.answers.specs.Granted.{flagged, refused}
use Rattle.access.specs.Evaluated.{sought_of}
use Rattle.access.specs.Reported.{in_buffer, Lent}
use Rattle.access.specs.Evaluating.{crowd_in, report_in}
use Rattle.answers.specs.declared.answer.Answer.{Answer}
use Rattle.access.specs.declared.answer.Traced.{Traced}
use Rattle.access.proofs.ReportLaws.{lent_none}

-- what is sought, as the code puts it together
pub sought_made : (kind mask : ℕ) (a : Answer) (bits : Rights) → bits.0 ≡ explicit kind mask →
    ◌≡◌ {A = Sought} (record { kind = kind; bits = bits; allowed = a.allowed }) (sought_of kind mask a)
sought_made kind mask a bits e = rw (← e) refl

module _ (kind mask : ℕ) (l owner self sacl : List ℕ) (rules : List Lists) (a : Answer) where
  abbrev pub raised_in : Bool
  raised_in = stages_audit (sought_of kind mask a) (crowd_in l) (hits_of (crowd_in l) owner self) rules

  abbrev pub trail_in : List ℕ
  trail_in = trail_bytes (events_of (sought_of kind mask a) (crowd_in l) (hits_of (crowd_in l) owner self) sacl rules)

  -- the same SIDs match
  module _ (ms : List Member) (same : Alike ms (crowd_in l)) (h : Hits) (hit : h ≡ hits_of ms owner self) (s : Sought)
      (sought : s ≡ sought_of kind mask a) where
    hit_alike : h ≡ hits_of (crowd_in l) owner self
    hit_alike = hit ∙ hits_alike ms (crowd_in l) same owner self

    pub raised_shown : stages_audit s ms h rules ≡ raised_in
    raised_shown = stages_alike ms (crowd_in l) same s h rules ∙ rw (hit_alike, sought)

    pub trail_shown : trail_bytes (events_of s ms h sacl rules) ≡ trail_in
    trail_shown = ap trail_bytes (events_alike ms (crowd_in l) same s h sacl rules) ∙ rw (hit_alike, sought)

  module _ (lent : Bool) (n : ℕ) (before after : List ℕ) (t : Traced) where
    pub report_unlent : lent ≡ false → t.answer ≡ flagged a raised_in → t.length ≡ 0 → after ≡ before →
        Lent (in_buffer n (report_in lent kind mask l owner self sacl rules a)) before after t
    unfolding report_in
    report_unlent e is none kept = rw e (lent_none n (flagged a raised_in) before after t is none kept)

    pub report_short : lent ≡ true → ltb n (length trail_in) ≡ true → t.answer ≡ refused 11 → t.length ≡ 0 → after ≡ before →
        Lent (in_buffer n (report_in lent kind mask l owner self sacl rules a)) before after t
    unfolding report_in in_buffer
    report_short e short is none kept = rw (e, short) (record { answer = is; length = none; buffer = kept })

    pub report_fits : lent ≡ true → ltb n (length trail_in) ≡ false → t.answer ≡ flagged a raised_in → t.length ≡ length trail_in →
        after ≡ sets before 0 trail_in → Lent (in_buffer n (report_in lent kind mask l owner self sacl rules a)) before after t
    unfolding report_in in_buffer
    report_fits e fits is long written = rw (e, fits) (record { answer = is; length = long; buffer = written })

  -- the same, as those whom the tables show tell it
  module _ (ms : List Member) (same : Alike ms (crowd_in l)) (h : Hits) (hit : h ≡ hits_of ms owner self) (s : Sought)
      (sought : s ≡ sought_of kind mask a) (lent : Bool) (n : ℕ) (before after : List ℕ) (t : Traced) where
    raised : (r : Bool) → r ≡ stages_audit s ms h rules → t.answer ≡ flagged a r → t.answer ≡ flagged a raised_in
    raised r e is = is ∙ ap (flagged a) (e ∙ raised_shown ms same h hit s sought)

    abbrev w : List ℕ
    w = trail_bytes (events_of s ms h sacl rules)

    trail : w ≡ trail_in
    trail = trail_shown ms same h hit s sought

    pub unlent_shown : (r : Bool) → lent ≡ false → r ≡ stages_audit s ms h rules → t.answer ≡ flagged a r → t.length ≡ 0 → after ≡ before →
        Lent (in_buffer n (report_in lent kind mask l owner self sacl rules a)) before after t
    unlent_shown r e g is none kept = report_unlent lent n before after t e (raised r g is) none kept

    pub short_shown : lent ≡ true → None ≡ cond (ltb n (length w)) None (Some (length w)) → after ≡ sets before 0 (fitting n w) →
        t.answer ≡ refused 11 → t.length ≡ 0 → Lent (in_buffer n (report_in lent kind mask l owner self sacl rules a)) before after t
    short_shown e short written is none = go (ltb n (length w)) refl short
      where
        go : (b : Bool) → ltb n (length w) ≡ b → None ≡ cond b None (Some (length w)) →
            Lent (in_buffer n (report_in lent kind mask l owner self sacl rules a)) before after t
        go true q z =
            report_short lent n before after t e (ap (λ (x : List ℕ). ltb n (length x)) (sym trail) ∙ q) is none (written ∙ rw q refl)
        go false q z = cc

    pub fits_shown : (r : Bool) (k : ℕ) → lent ≡ true → Some k ≡ cond (ltb n (length w)) None (Some (length w)) →
        after ≡ sets before 0 (fitting n w) → r ≡ stages_audit s ms h rules → t.answer ≡ flagged a r → t.length ≡ k →
        Lent (in_buffer n (report_in lent kind mask l owner self sacl rules a)) before after t
    fits_shown r k e fits written g is long = go (ltb n (length w)) refl fits
      where
        go : (b : Bool) → ltb n (length w) ≡ b → Some k ≡ cond b None (Some (length w)) →
            Lent (in_buffer n (report_in lent kind mask l owner self sacl rules a)) before after t
        go true q z = cc
        go false q z =
            let i : k ≡ length w = cc in
            report_fits lent n before after t e (ap (λ (x : List ℕ). ltb n (length x)) (sym trail) ∙ q) (raised r g is)
            (long ∙ i ∙ ap length trail) (written ∙ rw q refl ∙ ap (sets before 0) trail)
