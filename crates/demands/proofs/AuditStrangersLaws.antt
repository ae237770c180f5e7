-- Demand 3 over SACLs (request 105). In order: an entry that is struck out fires nothing (fires_struck), so a SACL's events are those of
-- its struck list, entry numbers aside (raised_struck); two SACLs that read the same without strangers (sacl_alike, masks_alike); the
-- rules, for the staging flag and for the events (stages_alike, rules_events_alike); all events (events_alike). Assumes nothing.
use Prim.Native.Nat.{ℕ, ◌+◌}
use mathlib.Core.Path.{◌≡◌, refl, sym, ap, ◌∙◌}
use mathlib.Core.List.{List, [], ◌∷◌, ◌++◌}
use mathlib.Core.Bool.{Bool, true, false, cond, ◌&&◌, and-false}
use Rattle.base.proofs.BoolLaws.{true_false}
use Rattle.records.specs.Token.{Token}
use Rattle.records.specs.Crowd.{crowd_of}
use Rattle.passes.specs.declared.matching.Hits.{Hits}
use Rattle.policy.specs.Rules.{Lists, applies_to}
use Rattle.audit.specs.Events.{Audit, audits_of, fires, Event, event, events_from, events_in, rule_events, rules_events, events_of}
use Rattle.audit.specs.Events.{masks_in, masks_of, stages_audit}
use Rattle.audit.specs.declared.firing.Sought.{Sought}
use Rattle.demands.specs.Strangers.{known, struck_audits, AlikeRule, AlikeRules, Raised, raised, unnumbered}
use Rattle.demands.specs.Strangers.AlikeRules.{no_rules, one_more}
use Rattle.demands.proofs.UnknownLaws.{stranger_missed}

unnumbered_append : (es fs : List Event) → unnumbered (es ++ fs) ≡ unnumbered es ++ unnumbered fs
unfolding unnumbered
unnumbered_append [] fs = refl
unnumbered_append (e ∷ es) fs = ap (◌∷◌ (raised e)) (unnumbered_append es fs)

raw_masks : List Raised → List ℕ
raw_masks [] = []
raw_masks (r ∷ rs) = r.mask ∷ raw_masks rs

masks_raised : (es : List Event) → masks_in es ≡ raw_masks (unnumbered es)
unfolding masks_in unnumbered raw_masks
masks_raised [] = refl
masks_raised (e ∷ es) = ap (◌∷◌ e.mask) (masks_raised es)

module _ (s : Sought) (t : Token) (h : Hits) where
  -- ---- a SACL without its strangers

  fires_struck : (a : Audit) → (a.audits && known t a.sid) ≡ false → fires s (crowd_of t) h a ≡ false
  unfolding fires
  fires_struck a e = go a.audits (known t a.sid) refl refl e
    where
      go : (x y : Bool) → a.audits ≡ x → known t a.sid ≡ y → (x && y) ≡ false → fires s (crowd_of t) h a ≡ false
      go false y p k e = rw p
      go true true p k e = true_false e
      go true false p k e = rw (p, stranger_missed t h false a.sid k, and-false _, and-false _, and-false _)

  raised_struck : (source n m : ℕ) (xs : List Audit) →
      unnumbered (events_from s (crowd_of t) h source n xs) ≡ unnumbered (events_from s (crowd_of t) h source m (struck_audits t xs))
  unfolding events_from struck_audits unnumbered
  raised_struck source n m [] = refl
  raised_struck source n m (a ∷ xs) = go (λ i j. raised_struck source i j xs) (a.audits && known t a.sid) refl
    where
      both : (i j : ℕ) (es fs : List Event) (b : Bool) → unnumbered es ≡ unnumbered fs →
          unnumbered (cond b (event source i a.mask ∷ es) es) ≡ unnumbered (cond b (event source j a.mask ∷ fs) fs)
      both i j es fs true e = ap (◌∷◌ (raised (event source i a.mask))) e
      both i j es fs false e = e

      go : ((i j : ℕ) →
          unnumbered (events_from s (crowd_of t) h source i xs) ≡ unnumbered (events_from s (crowd_of t) h source j (struck_audits t xs))) →
          (b : Bool) → (a.audits && known t a.sid) ≡ b →
          unnumbered (events_from s (crowd_of t) h source n (a ∷ xs))
          ≡ unnumbered (events_from s (crowd_of t) h source m (cond b (a ∷ struck_audits t xs) (struck_audits t xs)))
      go rest true k = both n m _ _ (fires s (crowd_of t) h a) (rest (n + 1) (m + 1))
      go rest false k = rw (fires_struck a k) (rest (n + 1) m)

  -- ---- two that read the same without

  sacl_alike : (source : ℕ) (l k : List ℕ) → struck_audits t (audits_of l) ≡ struck_audits t (audits_of k) →
      unnumbered (events_in s (crowd_of t) h source l) ≡ unnumbered (events_in s (crowd_of t) h source k)
  sacl_alike source l k e =
      raised_struck source 0 0 (audits_of l)
      ∙ ap (λ (xs : List Audit). unnumbered (events_from s (crowd_of t) h source 0 xs)) e
      ∙ sym (raised_struck source 0 0 (audits_of k))

  masks_alike : (l k : List ℕ) → struck_audits t (audits_of l) ≡ struck_audits t (audits_of k) →
      masks_of s (crowd_of t) h l ≡ masks_of s (crowd_of t) h k
  masks_alike l k e = masks_raised _ ∙ ap raw_masks (sacl_alike 0 l k e) ∙ sym (masks_raised _)

  -- ---- the rules

  pub stages_alike : {rs qs : List Lists} → AlikeRules t rs qs → stages_audit s (crowd_of t) h rs ≡ stages_audit s (crowd_of t) h qs
  unfolding stages_audit
  stages_alike no_rules = refl
  stages_alike (one_more {r = r} {q = q} a rest) =
      rw (
        a.stages_sacl,
        a.applies,
        masks_alike r.sacl q.sacl a.sacl,
        masks_alike r.staged_sacl q.staged_sacl a.staged_sacl,
        stages_alike rest,
      )

  rule_alike : (i : ℕ) (r q : Lists) → AlikeRule t r q →
      unnumbered (rule_events s (crowd_of t) h i r) ≡ unnumbered (rule_events s (crowd_of t) h i q)
  rule_alike i r q a = rw a.applies (go (applies_to (crowd_of t) h q))
    where
      go : (b : Bool) →
          unnumbered (cond b (events_in s (crowd_of t) h i r.sacl) []) ≡ unnumbered (cond b (events_in s (crowd_of t) h i q.sacl) [])
      go true = sacl_alike i r.sacl q.sacl a.sacl
      go false = refl

  rules_events_alike : {rs qs : List Lists} → AlikeRules t rs qs → (i : ℕ) →
      unnumbered (rules_events s (crowd_of t) h i rs) ≡ unnumbered (rules_events s (crowd_of t) h i qs)
  unfolding rules_events
  rules_events_alike no_rules i = refl
  rules_events_alike (one_more {r = r} {q = q} {rs = rs} {qs = qs} a rest) i =
      rw (
        unnumbered_append (rule_events s (crowd_of t) h i r) (rules_events s (crowd_of t) h (i + 1) rs),
        unnumbered_append (rule_events s (crowd_of t) h i q) (rules_events s (crowd_of t) h (i + 1) qs),
        rule_alike i r q a,
        rules_events_alike rest (i + 1),
      )

  -- ---- all events

  pub events_alike : {rs qs : List Lists} (l k : List ℕ) → struck_audits t (audits_of l) ≡ struck_audits t (audits_of k) → AlikeRules t rs qs →
      unnumbered (events_of s (crowd_of t) h l rs) ≡ unnumbered (events_of s (crowd_of t) h k qs)
  events_alike {rs} {qs} l k e a =
      rw (
        unnumbered_append (events_in s (crowd_of t) h 0 l) (rules_events s (crowd_of t) h 1 rs),
        unnumbered_append (events_in s (crowd_of t) h 0 k) (rules_events s (crowd_of t) h 1 qs),
        sacl_alike 0 l k e,
        rules_events_alike a 1,
      )
