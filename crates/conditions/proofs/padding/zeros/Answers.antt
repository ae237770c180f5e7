-- `zeros` meets its contract. The loop's invariant: the bytes are all 0 where those from `i` on are. The measure is what is left.
-- Assumes nothing.
use mathlib.Core.Path.{refl, sym, ◌∙◌}
use native.Mathlib.Omega.{arith}
use Rattle.conditions.proofs.PaddingLaws.{zeros_hit, zeros_miss, zeros_end}
use Rattle.conditions.proofs.padding.zeros.Goals as goal

pub loop-i-init : goal.loop-i-init
loop-i-init c = (omega arith, refl)

pub returns-then-s-i-ne0 : goal.returns-then-s-i-ne0
returns-then-s-i-ne0 c =
    let l = c.args.s.now in
    sym (c.loop-i.invariant.1 ∙ zeros_miss l c.loop-i.i (omega arith) c.if-s-i-ne0.true)

pub loop-i-preserved : goal.loop-i-preserved
loop-i-preserved c =
    let l = c.args.s.now in
    (omega arith, c.loop-i.invariant.1 ∙ zeros_hit l c.loop-i.i (omega arith) (omega arith))

pub returns : goal.returns
returns c =
    let l = c.args.s.now in
    sym (c.loop-i.invariant.1 ∙ zeros_end l c.loop-i.i (omega arith))
