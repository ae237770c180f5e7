-- `judge_groups`: what was met so far, or is met among the groups that are left, is what is met among all.
-- Assumes nothing.
use Prim.Native.Nat.{◌+◌, ◌-◌}
use mathlib.Core.Path.{◌≡◌, sym, ◌∙◌}
use native.Mathlib.Omega.{arith}
use Rattle.base.proofs.FoundLaws.{none_found}
use Rattle.tokens.proofs.JudgeLaws.{Stands, stands, groups_none, groups_stop, groups_cut, groups_step}
use Rattle.tokens.proofs.judging.judge_groups.Goals as goal
use Rattle.tokens.proofs.judging.judge_groups.Goals.{In_ok-e}

identity : (c : In_ok-e) → Stands c.args.s.now c.loop.next c.in_ok-e.e
identity c = stands _ _ _ c.in_ok-e.ensures.value

pub loop-init : goal.loop-init
loop-init c = let z : c.args.n - 0 ≡ c.args.n = omega arith in (c.requires, rw z)

pub returns-in_err-e-clause-result_value : goal.returns-in_err-e-clause-result_value
returns-in_err-e-clause-result_value c =
    rw c.from_residual.ensures (sym (c.loop.invariant.1
    ∙ groups_stop _ _ _ c.loop.breaks (omega arith) (none_found _ c.in_err-e.ensures.value)))

pub overflow_sub-s : goal.overflow_sub-s
overflow_sub-s c = (identity (goal.at.overflow_sub-s c).In_ok-e).inside

pub returns-then-s-e-lt4-clause-result_value : goal.returns-then-s-e-lt4-clause-result_value
returns-then-s-e-lt4-clause-result_value c =
    let x = stands c.args.s.now c.loop.next c.in_ok-e.e c.in_ok-e.ensures.value in
    sym (c.loop.invariant.1 ∙ groups_cut _ _ _ c.loop.breaks (omega arith) _ x.is x.found (omega (arith, x.inside)))

pub is_virtual-breaks-requires : goal.is_virtual-breaks-requires
is_virtual-breaks-requires c =
    let x = identity (goal.at.is_virtual-breaks-requires c).In_ok-e in
    (omega (arith, x.past), x.inside)

pub loop-preserved : goal.loop-preserved
loop-preserved c =
    let x = identity (goal.at.loop-preserved c).In_ok-e in
    let less : c.args.n - (c.loop.counter + 1) ≡ c.args.n - c.loop.counter - 1 = omega arith in
    let d = groups_step c.args.s.now c.loop.next (c.args.n - c.loop.counter) c.loop.breaks (omega arith) c.in_ok-e.e x.is x.found
    (omega (arith, x.inside)) in
    (omega (arith, x.inside), c.loop.invariant.1 ∙ d ∙ rw (less, c.is_virtual-breaks.ensures))

pub returns-clause-result_value : goal.returns-clause-result_value
returns-clause-result_value c = sym (c.loop.invariant.1 ∙ groups_none _ _ _ c.loop.breaks (omega arith))

pub returns-clause-next_in_bounds : goal.returns-clause-next_in_bounds
returns-clause-next_in_bounds c = c.loop.invariant.0
