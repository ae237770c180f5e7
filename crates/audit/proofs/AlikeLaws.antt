-- Two crowds among whom the same SIDs match have the same events (events_alike), and staged audit differs for both or for neither
-- (stages_alike). Assumes nothing.
use Prim.Native.Nat.{ℕ, ◌+◌}
use mathlib.Core.Path.{◌≡◌, refl, ap₂}
use mathlib.Core.List.{List, [], ◌∷◌, ◌++◌}
use mathlib.Core.Bool.{false}
use Rattle.records.specs.Crowd.{Member}
use Rattle.passes.specs.declared.matching.Hits.{Hits}
use Rattle.passes.proofs.CrowdsLaws.{Alike, matches_alike, admits_alike}
use Rattle.policy.specs.Rules.{Lists}
use Rattle.audit.specs.Events.{Audit, Event, audits_of, fires, events_from, rule_events, rules_events, events_of}
use Rattle.audit.specs.Events.{rule_stages, stages_audit}
use Rattle.audit.specs.declared.firing.Sought.{Sought}

module _ (ms ns : List Member) (same : Alike ms ns) (s : Sought) (h : Hits) where
  fires_alike : (a : Audit) → fires s ms h a ≡ fires s ns h a
  unfolding fires
  fires_alike a = rw (matches_alike ms ns same false h a.sid)

  from_alike : (source k : ℕ) (xs : List Audit) → events_from s ms h source k xs ≡ events_from s ns h source k xs
  unfolding events_from
  from_alike source k [] = refl
  from_alike source k (a ∷ xs) = rw (fires_alike a, from_alike source (k + 1) xs)

  rule_alike : (i : ℕ) (r : Lists) → rule_events s ms h i r ≡ rule_events s ns h i r
  rule_alike i r = rw (admits_alike ms ns same h r.applies, from_alike i 0 (audits_of r.sacl))

  rules_alike : (i : ℕ) (rs : List Lists) → rules_events s ms h i rs ≡ rules_events s ns h i rs
  unfolding rules_events
  rules_alike i [] = refl
  rules_alike i (r ∷ rs) = ap₂ (λ (a b : List Event). a ++ b) (rule_alike i r) (rules_alike (i + 1) rs)

  pub events_alike : (sacl : List ℕ) (rules : List Lists) → events_of s ms h sacl rules ≡ events_of s ns h sacl rules
  events_alike sacl rules = ap₂ (λ (a b : List Event). a ++ b) (from_alike 0 0 (audits_of sacl)) (rules_alike 1 rules)

  rule_stages_alike : (r : Lists) → rule_stages s ms h r ≡ rule_stages s ns h r
  rule_stages_alike r =
      rw (
        admits_alike ms ns same h r.applies,
        from_alike 0 0 (audits_of r.sacl),
        from_alike 0 0 (audits_of r.staged_sacl),
      )

  pub stages_alike : (rules : List Lists) → stages_audit s ms h rules ≡ stages_audit s ns h rules
  unfolding stages_audit
  stages_alike [] = refl
  stages_alike (r ∷ rs) = rw (rule_stages_alike r, stages_alike rs)
