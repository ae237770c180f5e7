-- `meets` meets its contract. The loop's invariant is `Meeting`: the list is met as its literals from `at` on are. The measure is what is
-- left. Assumes nothing.
use mathlib.Core.Path.{◌≡◌, refl, sym, ◌∙◌}
use mathlib.Core.Bool.{Bool, true, false, not, beq}
use native.Mathlib.Omega.{arith}
use Rattle.base.proofs.FoundLaws.{none_found, place_found}
use Rattle.conditions.specs.Condition.{literal_end}
use Rattle.conditions.proofs.MembershipLaws.{meeting_start, meeting_stop, meeting_end, meeting_decided, meeting_more}
use Rattle.passes.specs.Crowds.{shown_in}
use Rattle.passes.specs.Matching.{matches}
use Rattle.passes.proofs.matching.Crowd.meets.Goals as goal

-- two truths, compared
other : (a b : Bool) → not (beq a b) ≡ true → a ≡ not b
other true true e = cc
other true false e = refl
other false true e = refl
other false false e = cc

alike : (a b : Bool) → not (beq a b) ≡ false → a ≡ b
alike true true e = refl
alike true false e = cc
alike false true e = cc
alike false false e = refl

pub loop-at-init : goal.loop-at-init
loop-at-init c =
    let a = c.args in
    let f = matches true (shown_in a.self) a.self.hits in
    meeting_start f a.every a.c.now

pub returns-in_default : goal.returns-in_default
returns-in_default c =
    let a = c.args in
    let f = matches true (shown_in a.self) a.self.hits in
    sym (meeting_stop f a.every a.c.now c.loop-at.at c.loop-at.invariant
    (none_found (literal_end a.c.now c.loop-at.at) (sym c.in_default.is ∙ c.literal_end.ensures.value)))

pub returns-then-matches-every : goal.returns-then-matches-every
returns-then-matches-every c =
    let a = c.args in
    let f = matches true (shown_in a.self) a.self.hits in
    let k = place_found (literal_end a.c.now c.loop-at.at) c.in-Some.e c.in-Some.ensures.value in
    sym (meeting_decided f a.every a.c.now c.loop-at.at c.in-Some.e (omega arith) (sym k.is) k.there c.loop-at.invariant (sym c.matches.ensures ∙ other c.matches.result a.every c.if-matches-every.true))

pub loop-at-preserved : goal.loop-at-preserved
loop-at-preserved c =
    let a = c.args in
    let f = matches true (shown_in a.self) a.self.hits in
    let k = place_found (literal_end a.c.now c.loop-at.at) c.in-Some.e c.in-Some.ensures.value in
    meeting_more f a.every a.c.now c.loop-at.at c.in-Some.e (omega arith) (sym k.is) k.there c.loop-at.invariant (sym c.matches.ensures ∙ alike c.matches.result a.every c.if-matches-every.false)

pub returns : goal.returns
returns c =
    let a = c.args in
    let f = matches true (shown_in a.self) a.self.hits in
    sym (meeting_end f a.every a.c.now c.loop-at.at c.loop-at.invariant (omega arith))
