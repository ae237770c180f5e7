-- Demand 3 is not empty: two questions that differ in a stranger's entries, of which the second has another entry number in its event
-- (request 105), and two of which the second has a rule more, meet its conditions by computation. alike_strangers, alike_rule.
-- Assumes nothing.
use Prim.Native.Nat.{ℕ, ◌+◌}
use mathlib.Core.Path.{◌≡◌, refl}
use mathlib.Core.List.{List, [], ◌∷◌}
use mathlib.Core.Bool.{false}
use Rattle.policy.specs.Rules.{rules_of}
use Rattle.audit.specs.Events.{event}
use Rattle.access.specs.Status.{Question}
use Rattle.demands.specs.Accepted.{Accepted, events_given}
use Rattle.demands.specs.Strangers.{SameButStrangers, SameButOneRule}
use Rattle.demands.specs.Strangers.AlikeRules.{no_rules, one_more}
use Rattle.cards.specs.Cards.{asks, TU}
use Rattle.demands.proofs.ReaderLaws.{U}
use Rattle.cards.proofs.Dummies.{rule_for, wide, narrowed}
use Rattle.cards.proofs.Opened.{the_page}

-- audit entries for 3, of U for success, with k spare bytes; of S-1-5-8, whom nobody of the questions knows, for both
abbrev pub ours : ℕ → List ℕ → List ℕ
ours k rest = 2 ∷ 64 ∷ (24 + k) ∷ 0 ∷ 3 ∷ 0 ∷ 0 ∷ 0 ∷ 1 ∷ 2 ∷ 0 ∷ 0 ∷ 0 ∷ 0 ∷ 0 ∷ 5 ∷ 0 ∷ 0 ∷ 0 ∷ 0 ∷ 7 ∷ 0 ∷ 0 ∷ 0 ∷ rest

abbrev theirs : List ℕ → List ℕ
theirs rest = 2 ∷ 192 ∷ 20 ∷ 0 ∷ 3 ∷ 0 ∷ 0 ∷ 0 ∷ 1 ∷ 1 ∷ 0 ∷ 0 ∷ 0 ∷ 0 ∷ 0 ∷ 5 ∷ 8 ∷ 0 ∷ 0 ∷ 0 ∷ rest

-- `wide` with a SACL that has one entry, of U
abbrev pub watched : Question
watched =
    asks 1 3 TU []
    (1 ∷ 0 ∷ 20 ∷ 128 ∷ 20 ∷ 0 ∷ 0 ∷ 0 ∷ 0 ∷ 0 ∷ 0 ∷ 0 ∷ 64 ∷ 0 ∷ 0 ∷ 0 ∷ 32 ∷ 0 ∷ 0 ∷ 0
    ∷ 1 ∷ 1 ∷ 0 ∷ 0 ∷ 0 ∷ 0 ∷ 0 ∷ 5 ∷ 7 ∷ 0 ∷ 0 ∷ 0
    ∷ 2 ∷ 0 ∷ 32 ∷ 0 ∷ 1 ∷ 0 ∷ 0 ∷ 0 ∷ 0 ∷ 0 ∷ 24 ∷ 0 ∷ 3 ∷ 0 ∷ 0 ∷ 0 ∷ 1 ∷ 2 ∷ 0 ∷ 0 ∷ 0 ∷ 0 ∷ 0 ∷ 5 ∷ 0 ∷ 0 ∷ 0 ∷ 0 ∷ 7 ∷ 0 ∷ 0 ∷ 0
    ∷ 2 ∷ 0 ∷ 32 ∷ 0 ∷ 1 ∷ 0 ∷ 0 ∷ 0 ∷ ours 0 [])
    (1 ∷ 1 ∷ 0 ∷ 0 ∷ 0 ∷ rule_for 3 [])

-- the same with an entry in front that denies 3 to S-1-5-8, with its audit entry in front of U's, and as the only one of a SACL in the rule
abbrev guarded : Question
guarded =
    asks 1 3 TU []
    (1 ∷ 0 ∷ 20 ∷ 128 ∷ 20 ∷ 0 ∷ 0 ∷ 0 ∷ 0 ∷ 0 ∷ 0 ∷ 0 ∷ 84 ∷ 0 ∷ 0 ∷ 0 ∷ 32 ∷ 0 ∷ 0 ∷ 0
    ∷ 1 ∷ 1 ∷ 0 ∷ 0 ∷ 0 ∷ 0 ∷ 0 ∷ 5 ∷ 7 ∷ 0 ∷ 0 ∷ 0
    ∷ 2 ∷ 0 ∷ 52 ∷ 0 ∷ 2 ∷ 0 ∷ 0 ∷ 0 ∷ 1 ∷ 0 ∷ 20 ∷ 0 ∷ 3 ∷ 0 ∷ 0 ∷ 0 ∷ 1 ∷ 1 ∷ 0 ∷ 0 ∷ 0 ∷ 0 ∷ 0 ∷ 5 ∷ 8 ∷ 0 ∷ 0 ∷ 0
    ∷ 0 ∷ 0 ∷ 24 ∷ 0 ∷ 3 ∷ 0 ∷ 0 ∷ 0 ∷ 1 ∷ 2 ∷ 0 ∷ 0 ∷ 0 ∷ 0 ∷ 0 ∷ 5 ∷ 0 ∷ 0 ∷ 0 ∷ 0 ∷ 7 ∷ 0 ∷ 0 ∷ 0
    ∷ 2 ∷ 0 ∷ 52 ∷ 0 ∷ 2 ∷ 0 ∷ 0 ∷ 0 ∷ theirs (ours 0 []))
    (1 ∷ 1 ∷ 0 ∷ 0 ∷ 0 ∷ 0 ∷ 0 ∷ 0 ∷ 0
    ∷ 32 ∷ 0 ∷ 0 ∷ 0 ∷ 2 ∷ 0 ∷ 32 ∷ 0 ∷ 1 ∷ 0 ∷ 0 ∷ 0
    ∷ 0 ∷ 0 ∷ 24 ∷ 0 ∷ 3 ∷ 0 ∷ 0 ∷ 0 ∷ 1 ∷ 2 ∷ 0 ∷ 0 ∷ 0 ∷ 0 ∷ 0 ∷ 5 ∷ 0 ∷ 0 ∷ 0 ∷ 0 ∷ 7 ∷ 0 ∷ 0 ∷ 0
    ∷ 28 ∷ 0 ∷ 0 ∷ 0 ∷ 2 ∷ 0 ∷ 28 ∷ 0 ∷ 1 ∷ 0 ∷ 0 ∷ 0 ∷ theirs (0 ∷ 0 ∷ 0 ∷ 0 ∷ 0 ∷ 0 ∷ 0 ∷ 0 ∷ []))

pub record Instances : Type 0 where
  pub wide_accepted : Accepted wide
  pub watched_accepted : Accepted watched
  pub guarded_accepted : Accepted guarded
  pub narrowed_accepted : Accepted narrowed
  pub alike_strangers : SameButStrangers watched guarded
  pub watched_events : events_given watched ≡ event 0 0 3 ∷ []
  pub guarded_events : events_given guarded ≡ event 0 1 3 ∷ []
  pub alike_rule : SameButOneRule wide narrowed

pub instances : Instances
unfolding the_page
instances =
    record {
      wide_accepted = refl;
      watched_accepted = refl;
      guarded_accepted = refl;
      narrowed_accepted = refl;
      alike_strangers =
          record {
            kind = refl;
            mask = refl;
            token = refl;
            self = refl;
            owner = refl;
            present = refl;
            list = refl;
            sacl = refl;
            rules =
                one_more
                (record {
                  applies = refl;
                  effective = refl;
                  stages = refl;
                  staged = refl;
                  sacl = refl;
                  stages_sacl = refl;
                  staged_sacl = refl;
                })
                no_rules;
          };
      watched_events = refl;
      guarded_events = refl;
      alike_rule =
          record {
            kind = refl;
            mask = refl;
            token = refl;
            self = refl;
            descriptor = refl;
            policy =
                record {
                  before = rules_of wide.policy;
                  gained =
                      record {
                        applies = [];
                        effective = record { kind = 0; flags = 0; mask = 1; sid = U; condition = [] } ∷ [];
                        stages = false;
                        staged = [];
                        sacl = [];
                        staged_sacl = [];
                      };
                  after = [];
                  old = refl;
                  new = refl;
                };
          };
    }
