-- `admits` meets its contract: no bytes, or what they come to, where a fault does not admit.
-- Assumes nothing.
use mathlib.Core.Bool.{true, false}
use mathlib.Core.Path.{◌≡◌, refl, sym, ◌∙◌}
use Rattle.std.specs.Result.{result_unwrap_or}
use Rattle.conditions.specs.Scanning.{Outcome, weighed}
use Rattle.conditions.specs.Scanning.Outcome.{Broken, Foreign, Says}
use Rattle.conditions.specs.Membership.{says, outcome, admits}
use Rattle.conditions.proofs.MembershipLaws.{outcome_told}
use Rattle.passes.specs.Crowds.{shown_in}
use Rattle.passes.specs.Matching.{matches}
use Rattle.passes.proofs.matching.Crowd.admits.Goals as goal

says_is : (o : Outcome) → result_unwrap_or (weighed o) false ≡ says o
says_is Broken = refl
says_is Foreign = refl
says_is (Says b) = refl

pub returns-then-is_empty : goal.returns-then-is_empty
unfolding admits
returns-then-is_empty c = rw (sym c.is_empty.ensures ∙ c.if-is_empty.true) c.if-is_empty.true

pub returns-else-is_empty : goal.returns-else-is_empty
unfolding admits
returns-else-is_empty c =
    let a = c.args in
    let f = matches true (shown_in a.self) a.self.hits in
    rw (sym c.is_empty.ensures ∙ c.if-is_empty.false, c.unwrap_or.ensures, c.weigh.ensures, outcome_told f a.c.now) (says_is (outcome f a.c.now))
