-- `judge_people`: each way out is a part that is not there; then the token is read, and breaks a rule or keeps all.
-- Assumes nothing.
use mathlib.Core.Path.{sym}
use native.Mathlib.Omega.{arith}
use Rattle.base.proofs.BytesLaws.{bytes_of_lt}
use Rattle.tokens.specs.Judging.{judged_of}
use Rattle.base.proofs.FoundLaws.{none_found}
use Rattle.tokens.proofs.JudgeLaws.{stands, Headed}
use Rattle.tokens.proofs.JudgePeople.{Grouped, Peopled, people_stop, people_cut, people_many, people_lost, people_restless}
use Rattle.tokens.proofs.JudgePeople.{people_longer, people_broken, people_kept}
use Rattle.tokens.proofs.judging.judge_people.Goals as goal
use Rattle.tokens.proofs.judging.judge_people.Goals.{After-u32_at-n, In-Some-judge_groups, In-Some-judge_rest}

-- the user and the count
head : (c : After-u32_at-n) → Headed c.args.s.now 12 c.in-Some.e c.u32_at-n.result
head c =
    let x = stands c.args.s.now 12 c.in-Some.e c.in-Some.ensures.value in
    record { is = x.is; found = x.found; whole = omega (arith, x.inside); count = c.u32_at-n.ensures }

pub returns-in_default-clause-by_index : goal.returns-in_default-clause-by_index
unfolding judged_of
returns-in_default-clause-by_index c = λ p. rw (people_stop c.args.flags p _ (none_found _ c.in_default.ensures.value))

pub overflow_sub-s : goal.overflow_sub-s
overflow_sub-s c = (stands c.args.s.now 12 c.in-Some.e c.in-Some.ensures.value).inside

pub returns-then-s-e-lt4-clause-by_index : goal.returns-then-s-e-lt4-clause-by_index
unfolding judged_of
returns-then-s-e-lt4-clause-by_index c =
    let x = stands c.args.s.now 12 c.in-Some.e c.in-Some.ensures.value in
    λ p. rw (people_cut c.args.flags p _ _ x.is x.found (omega (arith, x.inside)))

pub returns-then-n-gt256-clause-by_index : goal.returns-then-n-gt256-clause-by_index
unfolding judged_of
returns-then-n-gt256-clause-by_index c =
    λ p. rw (people_many c.args.flags p (head (goal.at.returns-then-n-gt256-clause-by_index c).After-u32_at-n) c.if-n-gt256.true)

pub returns-in_default-judge_groups-clause-by_index : goal.returns-in_default-judge_groups-clause-by_index
unfolding judged_of
returns-in_default-judge_groups-clause-by_index c =
    λ p. rw (people_lost c.args.flags p (head (goal.at.returns-in_default-judge_groups-clause-by_index c).After-u32_at-n) c.if-n-gt256.false
    c.in_default-judge_groups.ensures.result_value)

pub returns-in_default-judge_rest-clause-by_index : goal.returns-in_default-judge_rest-clause-by_index
unfolding judged_of
returns-in_default-judge_rest-clause-by_index c =
    let h = head (goal.at.returns-in_default-judge_rest-clause-by_index c).After-u32_at-n in
    let g : Grouped c.args.s.now c.in-Some.e c.u32_at-n.result c.in-Some-judge_groups.g =
    record { head = h; few = c.if-n-gt256.false; walk = c.in-Some-judge_groups.ensures.result_value } in
    λ p. rw (people_restless c.args.flags p g c.in_default-judge_rest.ensures.result_value)

-- the user, the groups and what follows them
people : (c : In-Some-judge_rest) → Headed c.args.s.now 12 c.in-Some.e c.u32_at-n.result →
    Peopled c.args.flags c.args.s.now c.in-Some.e c.u32_at-n.result c.in-Some-judge_groups.g c.in-Some-judge_rest.w
people c h = record {
  groups = record { head = h; few = c.if-n-gt256.false; walk = c.in-Some-judge_groups.ensures.result_value };
  rest = c.in-Some-judge_rest.ensures.result_value;
}

pub returns-then-w-s-clause-by_index : goal.returns-then-w-s-clause-by_index
returns-then-w-s-clause-by_index c =
    let z = goal.at.returns-then-w-s-clause-by_index c in
    λ p. sym (people_longer c.args.flags p (people z.In-Some-judge_rest (head z.After-u32_at-n)) c.if-w-s.true)

pub is_virtual-requires : goal.is_virtual-requires
is_virtual-requires c =
    let x = stands c.args.s.now 12 c.in-Some.e c.in-Some.ensures.value in
    (omega (arith, x.past), x.inside)

pub returns-then-is_virtual-g-clause-by_index : goal.returns-then-is_virtual-g-clause-by_index
returns-then-is_virtual-g-clause-by_index c =
    let z = goal.at.returns-then-is_virtual-g-clause-by_index c in
    let u = rw c.is_virtual.ensures at c.if-is_virtual-g.true in
    λ p. sym (people_broken c.args.flags p (people z.In-Some-judge_rest (head z.After-u32_at-n)) c.if-w-s.false u)

pub returns-clause-by_index : goal.returns-clause-by_index
returns-clause-by_index c =
    let z = goal.at.returns-clause-by_index c in
    let b = bytes_of_lt c.args.s.now (λ i l. (c.type_inv.s i).fits) in
    let u = rw c.is_virtual.ensures at c.if-is_virtual-g.false in
    λ p. sym (people_kept c.args.flags p (people z.In-Some-judge_rest (head z.After-u32_at-n)) c.if-w-s.false b u)
