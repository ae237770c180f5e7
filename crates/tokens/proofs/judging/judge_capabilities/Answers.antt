-- `judge_capabilities`: what was met so far, or is met among the capabilities that are left, is what is met among all.
-- Assumes nothing.
use Prim.Native.Nat.{◌+◌, ◌-◌}
use mathlib.Core.Path.{◌≡◌, sym, ◌∙◌}
use native.Mathlib.Omega.{arith}
use Rattle.base.proofs.FoundLaws.{none_found}
use Rattle.tokens.proofs.JudgeLaws.{Stands, stands, capabilities_none, capabilities_stop, capabilities_step}
use Rattle.tokens.proofs.judging.judge_capabilities.Goals as goal
use Rattle.tokens.proofs.judging.judge_capabilities.Goals.{In_ok-e}

identity : (c : In_ok-e) → Stands c.args.s.now c.loop.next c.in_ok-e.e
identity c = stands _ _ _ c.in_ok-e.ensures.value

pub loop-init : goal.loop-init
loop-init c = let z : c.args.n - 0 ≡ c.args.n = omega arith in (c.requires, rw z)

pub returns-in_err-e-clause-result_value : goal.returns-in_err-e-clause-result_value
returns-in_err-e-clause-result_value c =
    rw c.from_residual.ensures (sym (c.loop.invariant.1
    ∙ capabilities_stop _ _ _ c.loop.breaks c.loop.listed (omega arith) (none_found _ c.in_err-e.ensures.value)))

pub is_virtual-breaks-requires : goal.is_virtual-breaks-requires
is_virtual-breaks-requires c =
    let x = identity (goal.at.is_virtual-breaks-requires c).In_ok-e in
    (omega (arith, x.past), x.inside)

pub is_restricted-listed-requires : goal.is_restricted-listed-requires
is_restricted-listed-requires c =
    let x = stands c.args.s.now c.loop.next c.in_ok-e.e c.in_ok-e.ensures.value in
    (omega (arith, x.past), x.inside)

pub loop-preserved : goal.loop-preserved
loop-preserved c =
    let x = stands c.args.s.now c.loop.next c.in_ok-e.e c.in_ok-e.ensures.value in
    let less : c.args.n - (c.loop.counter + 1) ≡ c.args.n - c.loop.counter - 1 = omega arith in
    let d = capabilities_step c.args.s.now c.loop.next _ c.loop.breaks c.loop.listed (omega arith) c.in_ok-e.e x.is x.found in
    (x.inside, c.loop.invariant.1 ∙ d ∙ rw (less, c.is_virtual-breaks.ensures, c.is_restricted-listed.ensures))

pub returns-clause-result_value : goal.returns-clause-result_value
returns-clause-result_value c = sym (c.loop.invariant.1 ∙ capabilities_none _ _ _ c.loop.breaks c.loop.listed (omega arith))

pub returns-clause-next_in_bounds : goal.returns-clause-next_in_bounds
returns-clause-next_in_bounds c = c.loop.invariant.0
