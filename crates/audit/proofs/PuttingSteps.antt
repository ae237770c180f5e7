-- The bytes of a trail, by each step of the code. For the functions of `putting` and `trail`.
-- In order: the bytes of events one after the other (trail_nil, trail_cons, trail_append), a rule's (rule_passed, rule_empty), those of the
-- rules that are left (rules_nil, rules_cons), the whole trail (all_events).
-- Not here: which entry fires next, WalkingLaws; measuring and writing, NotingLaws. Assumes nothing.
use Prim.Native.Nat.{ℕ, ◌+◌}
use mathlib.Core.Path.{◌≡◌, refl, sym, ap, ◌∙◌}
use mathlib.Core.List.{List, [], ◌∷◌, ◌++◌, append_assoc}
use mathlib.Core.Bool.{Bool, true, false, not, cond}
use borrow.Author.Tests.{not-true}
use Rattle.base.specs.Bytes.{u16_at}
use Rattle.records.specs.Crowd.{Member}
use Rattle.passes.specs.declared.matching.Hits.{Hits}
use Rattle.policy.specs.Rules.{Lists, applies_to}
use Rattle.audit.specs.Events.{Event, audits_at, audits_of, events_from, events_in, rule_events, rules_events, events_of}
use Rattle.audit.specs.Trail.{event_bytes, trail_bytes}
use Rattle.audit.specs.declared.firing.Sought.{Sought}

-- ---- one after the other

pub trail_nil : (es : List Event) → es ≡ [] → trail_bytes es ≡ []
unfolding trail_bytes
trail_nil es e = rw e

pub trail_cons : (es : List Event) (e : Event) (fs : List Event) → es ≡ e ∷ fs → trail_bytes es ≡ event_bytes e ++ trail_bytes fs
unfolding trail_bytes
trail_cons es e fs q = rw q

pub trail_append : (es fs : List Event) → trail_bytes (es ++ fs) ≡ trail_bytes es ++ trail_bytes fs
unfolding trail_bytes
trail_append [] fs = refl
trail_append (e ∷ es) fs =
    ap (λ (k : List ℕ). event_bytes e ++ k) (trail_append es fs) ∙ sym (append_assoc (event_bytes e) (trail_bytes es) (trail_bytes fs))

module _ (s : Sought) (ms : List Member) (h : Hits) where
  -- ---- a rule's events

  module _ (i : ℕ) (r : Lists) where
    abbrev pub RuleBytes : List ℕ
    RuleBytes = trail_bytes (rule_events s ms h i r)

    -- t is what the code found of it
    module _ (t : Bool) (is : t ≡ applies_to ms h r) where
      pub rule_passed : not t ≡ true → RuleBytes ≡ []
      rule_passed q = trail_nil _ (rw (sym is ∙ not-true t q))

    -- a SACL of no bytes has no entries
    pub rule_empty : r.sacl ≡ [] → RuleBytes ≡ []
    unfolding audits_of audits_at events_from u16_at
    rule_empty e = trail_nil _ (rw e (go (applies_to ms h r)))
      where
        go : (t : Bool) → cond t (events_in s ms h i []) [] ≡ []
        go true = refl
        go false = refl

  -- ---- the rules' events

  pub rules_nil : (i : ℕ) (rs : List Lists) → rs ≡ [] → trail_bytes (rules_events s ms h i rs) ≡ []
  unfolding rules_events trail_bytes
  rules_nil i rs e = rw e

  pub rules_cons : (i : ℕ) (rs : List Lists) (r : Lists) (qs : List Lists) → rs ≡ r ∷ qs →
      trail_bytes (rules_events s ms h i rs) ≡ trail_bytes (rule_events s ms h i r) ++ trail_bytes (rules_events s ms h (i + 1) qs)
  unfolding rules_events
  rules_cons i rs r qs e = ap (λ (k : List Lists). trail_bytes (rules_events s ms h i k)) e ∙ trail_append _ _

  -- ---- the whole trail

  pub all_events : (l : List ℕ) (rs : List Lists) → trail_bytes (events_of s ms h l rs)
      ≡ trail_bytes (events_in s ms h 0 l) ++ trail_bytes (rules_events s ms h 1 rs)
  all_events l rs = trail_append _ _
