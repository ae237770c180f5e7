-- Where there is nothing to do: no SACL has no events (no_events), and where no rule that applies has a staged SACL, staged audit does not
-- differ (no_stages). Assumes nothing.
use Prim.Native.Nat.{ℕ, ◌+◌, ◌≤◌}
use mathlib.Core.Path.{◌≡◌, refl, ap, ap₂, ◌∙◌}
use mathlib.Core.List.{List, [], ◌∷◌, ◌++◌}
use mathlib.Core.Bool.{Bool, true, false, cond, ◌||◌, and-false}
use native.Mathlib.Omega.{arith}
use lib.ListN.{length}
use borrow.Author.Tests.{ltb-false}
use Rattle.base.specs.Bytes.{u16_at}
use Rattle.base.proofs.BoolLaws.{neither}
use Rattle.records.specs.Crowd.{Member}
use Rattle.passes.specs.declared.matching.Hits.{Hits}
use Rattle.policy.specs.Rules.{Lists, there, applies_to, some_audit, some_staged_audit}
use Rattle.audit.specs.Events.{Event, audits_at, audits_of, events_from, events_in, rule_events, rules_events, events_of}
use Rattle.audit.specs.Events.{rule_stages, stages_audit}
use Rattle.audit.specs.declared.firing.Sought.{Sought}

-- a section without a list has no bytes
pub nothing_there : (l : List ℕ) → there l ≡ false → l ≡ []
nothing_there [] e = refl
nothing_there (x ∷ l) e = let k : length (x ∷ l) ≤ 0 = ltb-false _ _ e in absurd (omega arith)

-- of one rule: a test of one that applies, or of those behind it
given : (t a b : Bool) → cond t (a || b) b ≡ false → t ≡ true → a ≡ false
given true a b e f = (neither a b e).0
given false a b e f = let z : ◌≡◌ {A = ℕ} 0 1 = cc in absurd (omega arith)

behind : (t a b : Bool) → cond t (a || b) b ≡ false → b ≡ false
behind true a b e = (neither a b e).1
behind false a b e = e

module _ (s : Sought) (ms : List Member) (h : Hits) where
  none_in : (source : ℕ) → events_in s ms h source [] ≡ []
  unfolding audits_of u16_at audits_at events_from
  none_in source = refl

  none_by : (i : ℕ) (r : Lists) → (applies_to ms h r ≡ true → there r.sacl ≡ false) → rule_events s ms h i r ≡ []
  none_by i r e = go (applies_to ms h r) refl
    where
      go : (t : Bool) → applies_to ms h r ≡ t → rule_events s ms h i r ≡ []
      go true q = rw (q, nothing_there r.sacl (e q)) (none_in i)
      go false q = rw q

  none_by_rules : (i : ℕ) (rs : List Lists) → some_audit ms h rs ≡ false → rules_events s ms h i rs ≡ []
  unfolding some_audit rules_events
  none_by_rules i [] e = refl
  none_by_rules i (r ∷ rs) e =
      ap₂
      (λ (a b : List Event). a ++ b)
      (none_by i r (given (applies_to ms h r) (there r.sacl) (some_audit ms h rs) e))
      (none_by_rules (i + 1) rs (behind (applies_to ms h r) (there r.sacl) (some_audit ms h rs) e))

  pub no_events : (sacl : List ℕ) (rules : List Lists) → sacl ≡ [] → some_audit ms h rules ≡ false → events_of s ms h sacl rules ≡ []
  no_events sacl rules e f =
      ap₂ (λ (a b : List Event). a ++ b) (ap (events_in s ms h 0) e ∙ none_in 0) (none_by_rules 1 rules f)

  stages_not : (r : Lists) → (applies_to ms h r ≡ true → there r.staged_sacl ≡ false) → rule_stages s ms h r ≡ false
  stages_not r e = go (applies_to ms h r) refl
    where
      go : (t : Bool) → applies_to ms h r ≡ t → rule_stages s ms h r ≡ false
      go true q = rw (e q)
      go false q = rw q (and-false (there r.staged_sacl))

  pub no_stages : (rules : List Lists) → some_staged_audit ms h rules ≡ false → stages_audit s ms h rules ≡ false
  unfolding some_staged_audit stages_audit
  no_stages [] e = refl
  no_stages (r ∷ rs) e =
      ap₂
      (λ (a b : Bool). a || b)
      (stages_not r (given (applies_to ms h r) (there r.staged_sacl) (some_staged_audit ms h rs) e))
      (no_stages rs (behind (applies_to ms h r) (there r.staged_sacl) (some_staged_audit ms h rs) e))
