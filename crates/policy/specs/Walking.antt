-- How the code goes about it: the rules of a policy one by one, from the front. Nothing here decides an answer.
use Rattle.std.specs.Prelude.{◌≡◌, List, [], ◌∷◌, Option, None, Some}
use Rattle.policy.specs.Policy.{Placed}
use Rattle.policy.specs.Rules.{Lists}
use Rattle.policy.specs.ByLengths.{lists_by_lengths, rules_by_lengths_at}
use Rattle.policy.specs.declared.one_rule.Rule.{Rule}
use Rattle.policy.specs.declared.walk.Rules.{Rules}

-- the rules that are still to come
unfoldable pub rules_left : Rules → List Lists
rules_left q = rules_by_lengths_at q.policy.now q.ahead q.place

-- the next rule, which lies within the policy; or none is left
abbrev pub GivesRule : Rules → Option Rule → Rules → Type 0
GivesRule old None new = rules_left old ≡ []
GivesRule old (Some r) new =
    (rules_left old ≡ lists_by_lengths old.policy.now r ∷ rules_left new) × (Placed old.policy.now r × (new.policy.now ≡ old.policy.now))
