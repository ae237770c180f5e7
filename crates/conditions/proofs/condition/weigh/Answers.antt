-- `weigh` meets its contract. The loop's invariant is `Running`: the expression comes to what its bytes from `at` on come to, with operands
-- that the stack stands for; the latest operand's place lies inside. The measure is what is left. Assumes nothing.
use mathlib.Core.Path.{◌≡◌, refl, sym, ap, ◌∙◌}
use native.Mathlib.Omega.{arith}
use Rattle.std.specs.Prelude.{Err}
use mathlib.Core.Bool.{true, false}
use lib.ListN.{drop}
use Rattle.conditions.specs.Condition.{zeros, told_by}
use Rattle.conditions.specs.Scanning.{weighed}
use Rattle.conditions.proofs.PaddingLaws.{part_rest}
use Rattle.conditions.proofs.RunLaws.{unopened, running_start, running_end, running_padded, running_stained}
use Rattle.conditions.proofs.RunLaws.{running_fault, running_past, running_on}
use Rattle.conditions.proofs.condition.weigh.Goals as goal

pub returns-then-u32_at-ne2020897377 : goal.returns-then-u32_at-ne2020897377
returns-then-u32_at-ne2020897377 g c =
    let l = c.args.s.now in
    let tell = told_by (g.T.Tests.told c.args.who.now) l in
    sym (ap weighed (unopened tell l (λ q. c.if-u32_at-ne2020897377.true (c.u32_at.ensures ∙ q))))

pub loop-at-init : goal.loop-at-init
loop-at-init g c =
    let l = c.args.s.now in
    let tell = told_by (g.T.Tests.told c.args.who.now) l in
    (running_start tell l (record { word = 0; from = 0; to = 0 }) refl (omega arith), (omega arith, omega arith))

pub returns-then-zeros : goal.returns-then-zeros
returns-then-zeros g c =
    let l = c.args.s.now in
    let tell = told_by (g.T.Tests.told c.args.who.now) l in
    let z : zeros (drop c.loop-at.at l) ≡ true = ap zeros (sym (part_rest l c.loop-at.at)) ∙ sym c.zeros.ensures ∙ c.if-zeros.true in
    running_padded tell l c.loop-at.m c.loop-at.at c.loop-at.invariant.0 _ c.ended.ensures (omega arith) (omega arith) z

pub returns-then-s-at-eq0 : goal.returns-then-s-at-eq0
returns-then-s-at-eq0 g c =
    let l = c.args.s.now in
    let tell = told_by (g.T.Tests.told c.args.who.now) l in
    let z : zeros (drop c.loop-at.at l) ≡ false = ap zeros (sym (part_rest l c.loop-at.at)) ∙ sym c.zeros.ensures ∙ c.if-zeros.false in
    sym (ap weighed (running_stained tell l c.loop-at.m c.loop-at.at c.loop-at.invariant.0 (omega arith) (omega arith) z))

pub returns-in_err-next : goal.returns-in_err-next
returns-in_err-next g c =
    let l = c.args.s.now in
    let tell = told_by (g.T.Tests.told c.args.who.now) l in
    let up : c.from_residual.result ≡ Err c.in_err-next.field-0.0 = grind arith in
    up
    ∙ running_fault tell l c.loop-at.m c.loop-at.at c.loop-at.invariant.0 c.in_err-next.field-0.0 c.in_err-next.ensures (omega arith)
    (λ q. omega arith)

pub loop-at-smaller : goal.loop-at-smaller
loop-at-smaller g c =
    let l = c.args.s.now in
    let tell = told_by (g.T.Tests.told c.args.who.now) l in
    let b = running_past tell l c.loop-at.m c.loop-at.at c.loop-at.invariant.0 _ _ c.in_ok-next.ensures in
    omega (arith, b.0)

pub loop-at-preserved : goal.loop-at-preserved
loop-at-preserved g c =
    let l = c.args.s.now in
    let tell = told_by (g.T.Tests.told c.args.who.now) l in (
      running_on tell l c.loop-at.m c.loop-at.at c.loop-at.invariant.0 _ _ c.in_ok-next.ensures (omega arith) (λ q. omega arith),
      (running_past tell l c.loop-at.m c.loop-at.at c.loop-at.invariant.0 _ _ c.in_ok-next.ensures).1,
    )

pub returns : goal.returns
returns g c =
    let l = c.args.s.now in
    let tell = told_by (g.T.Tests.told c.args.who.now) l in
    running_end tell l c.loop-at.m c.loop-at.at c.loop-at.invariant.0 _ c.ended-2.ensures (omega arith)
