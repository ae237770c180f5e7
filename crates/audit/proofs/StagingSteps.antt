-- Whether staged audit differs, by each step of the code. For the functions of `staging`.
-- In order: two SACLs in step (Apart, apart-..), the walk over all rules (left-..). Assumes nothing.
use mathlib.Core.Path.{◌≡◌, sym}
use mathlib.Core.List.{List, [], ◌∷◌}
use mathlib.Core.Bool.{Bool, true, false, not}
use borrow.Author.Tests.{eq-eqb, ne_eqb}
use Rattle.std.specs.Prelude.{Option, None, Some, is_some}
use Rattle.base.specs.Bytes.{same}
use Rattle.records.specs.Crowd.{Member}
use Rattle.passes.specs.declared.matching.Hits.{Hits}
use Rattle.policy.specs.Rules.{Lists}
use Rattle.audit.specs.Events.{Event, masks_in, rule_stages, stages_audit}
use Rattle.audit.specs.Walking.{event_of, events_left, GivesEvent}
use Rattle.audit.specs.declared.firing.Sought.{Sought}
use Rattle.audit.specs.declared.walk.Event.{Event as Made}
use Rattle.audit.specs.declared.walk.Events.{Events}

-- ---- two SACLs in step: the events ahead differ

abbrev pub Apart : List Event → List Event → Bool
Apart es fs = not (same (masks_in es) (masks_in fs))

module _ (es fs : List Event) where
  pub apart_none : es ≡ [] → fs ≡ [] → Apart es fs ≡ false
  unfolding masks_in same
  apart_none e f = rw (e, f)

  pub apart_more : (y : Event) (gs : List Event) → es ≡ [] → fs ≡ y ∷ gs → Apart es fs ≡ true
  unfolding masks_in same
  apart_more y gs e f = rw (e, f)

  module _ (x : Event) (ds : List Event) (first : es ≡ x ∷ ds) where
    pub apart_fewer : fs ≡ [] → Apart es fs ≡ true
    unfolding masks_in same
    apart_fewer f = rw (first, f)

    module _ (y : Event) (gs : List Event) (second : fs ≡ y ∷ gs) where
      pub apart_mask : (x.mask ≡ y.mask → ⊥) → Apart es fs ≡ true
      unfolding masks_in same
      apart_mask f = rw (first, second, ne_eqb x.mask y.mask f)

      pub apart_on : x.mask ≡ y.mask → Apart es fs ≡ Apart ds gs
      unfolding masks_in same
      apart_on f = rw (first, second, eq-eqb x.mask y.mask f)

-- where the one has no more, they differ if the other has
pub apart_end : (es : List Event) (q : Events) (r : Option Made) (n : Events) → es ≡ [] → GivesEvent q r n →
    is_some r ≡ Apart es (events_left q)
apart_end es q None n e g = sym (apart_none es (events_left q) e g)
apart_end es q (Some f) n e g = sym (apart_more es (events_left q) (event_of f) (events_left n) e g)

module _ (s : Sought) (ms : List Member) (h : Hits) where
  -- ---- the walk over all rules

  module _ (rs : List Lists) where
    pub left_none : rs ≡ [] → stages_audit s ms h rs ≡ false
    unfolding stages_audit
    left_none e = rw e

    module _ (r : Lists) (qs : List Lists) (is : rs ≡ r ∷ qs) where
      pub left_stages : rule_stages s ms h r ≡ true → stages_audit s ms h rs ≡ true
      unfolding stages_audit
      left_stages t = rw (is, t)

      pub left_more : rule_stages s ms h r ≡ false → stages_audit s ms h rs ≡ stages_audit s ms h qs
      unfolding stages_audit
      left_more t = rw (is, t)
