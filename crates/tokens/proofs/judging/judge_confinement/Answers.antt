-- `judge_confinement`: each way out is a part that is not there, and the last joins what the identity and the capabilities break.
-- Assumes nothing.
use mathlib.Core.Path.{sym}
use native.Mathlib.Omega.{arith}
use Rattle.base.proofs.FoundLaws.{none_found}
use Rattle.tokens.proofs.JudgeLaws.{Stands, stands, Headed}
use Rattle.tokens.proofs.JudgePeople.{confinement_stop, confinement_cut, confinement_many, confinement_lost, confinement_done}
use Rattle.tokens.proofs.judging.judge_confinement.Goals as goal
use Rattle.tokens.proofs.judging.judge_confinement.Goals.{In_ok-e, After-u32_at-n}

identity : (c : In_ok-e) → Stands c.args.s.now c.args.at c.in_ok-e.e
identity c = stands _ _ _ c.in_ok-e.ensures.value

-- the identity and the count
head : (c : After-u32_at-n) → Headed c.args.s.now c.args.at c.in_ok-e.e c.u32_at-n.result
head c =
    let x = stands c.args.s.now c.args.at c.in_ok-e.e c.in_ok-e.ensures.value in
    record { is = x.is; found = x.found; whole = omega (arith, x.inside); count = c.u32_at-n.ensures }

pub returns-in_err-e-clause-result_value : goal.returns-in_err-e-clause-result_value
returns-in_err-e-clause-result_value c = rw c.from_residual.ensures (sym (confinement_stop _ _ (none_found _ c.in_err-e.ensures.value)))

pub overflow_sub-s : goal.overflow_sub-s
overflow_sub-s c = (stands c.args.s.now c.args.at c.in_ok-e.e c.in_ok-e.ensures.value).inside

pub returns-then-s-e-lt4-clause-result_value : goal.returns-then-s-e-lt4-clause-result_value
returns-then-s-e-lt4-clause-result_value c =
    let x = stands c.args.s.now c.args.at c.in_ok-e.e c.in_ok-e.ensures.value in
    sym (confinement_cut _ _ _ x.is x.found (omega (arith, x.inside)))

pub returns-then-n-gt64-clause-result_value : goal.returns-then-n-gt64-clause-result_value
returns-then-n-gt64-clause-result_value c =
    sym (confinement_many (head (goal.at.returns-then-n-gt64-clause-result_value c).After-u32_at-n) c.if-n-gt64.true)

pub returns-in_err-w-clause-result_value : goal.returns-in_err-w-clause-result_value
returns-in_err-w-clause-result_value c =
    rw c.from_residual-in_err-w.ensures (sym (confinement_lost (head (goal.at.returns-in_err-w-clause-result_value c).After-u32_at-n)
    c.if-n-gt64.false c.in_err-w.ensures.result_value))

pub is_virtual-requires : goal.is_virtual-requires
is_virtual-requires c =
    let x = stands c.args.s.now c.args.at c.in_ok-e.e c.in_ok-e.ensures.value in
    (omega (arith, x.past), x.inside)

pub returns-clause-result_value : goal.returns-clause-result_value
returns-clause-result_value c =
    rw c.is_virtual.ensures (sym (confinement_done (head (goal.at.returns-clause-result_value c).After-u32_at-n)
    c.if-n-gt64.false c.in_ok-w.w c.in_ok-w.ensures.result_value))
