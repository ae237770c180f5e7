-- `alike` meets its contract. The invariant: the lists are the same where what is left of both is; the measure is what is left of the
-- length. Assumes nothing.
use mathlib.Core.Path.{refl, sym, ◌∙◌}
use native.Mathlib.Omega.{arith}
use Rattle.base.proofs.BytesLaws.{same_hit, same_miss, same_end}
use Rattle.base.proofs.bytes.alike.Goals as goal

pub loop-i-init : goal.loop-i-init
loop-i-init c = (omega arith, refl)

pub returns-then-a-i : goal.returns-then-a-i
returns-then-a-i c =
    let a = c.args in
    sym (c.loop-i.invariant.1 ∙ same_miss a.a.now a.b.now c.loop-i.i (omega arith) (omega arith) c.if-a-i.true)

pub loop-i-preserved : goal.loop-i-preserved
loop-i-preserved c =
    let a = c.args in (
      omega arith,
      c.loop-i.invariant.1 ∙ same_hit a.a.now a.b.now c.loop-i.i (omega arith) (omega arith) c.if-a-i.false,
    )

pub returns : goal.returns
returns c =
    let a = c.args in
    sym (c.loop-i.invariant.1 ∙ same_end a.a.now a.b.now c.loop-i.i (omega arith) (omega arith))
