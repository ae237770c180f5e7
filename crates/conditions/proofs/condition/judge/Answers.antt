-- `judge` meets its contract: the shape does not depend on what tests are told. Assumes nothing.
use mathlib.Core.Path.{◌≡◌, ◌∙◌}
use native.Mathlib.Omega.{arith}
use Rattle.std.specs.Prelude.{Err}
use Rattle.conditions.proofs.ShapeLaws.{judged_fault, judged_plain}
use Rattle.conditions.proofs.condition.judge.Goals as goal

pub returns-in_err-weigh : goal.returns-in_err-weigh
returns-in_err-weigh c =
    let up : c.from_residual.result ≡ Err c.in_err-weigh.field-0.0 = grind arith in
    up ∙ judged_fault _ c.args.s.now c.in_err-weigh.field-0.0 c.in_err-weigh.ensures

pub returns : goal.returns
returns c = judged_plain _ c.args.s.now c.in_ok-weigh.field-0 c.in_ok-weigh.ensures
