-- `heading` meets its contract: each way out is a test of the definition that failed, and the last is its bit.
-- Assumes nothing.
use Prim.Native.Nat.{ℕ}
use mathlib.Core.Path.{sym, ap, ◌∙◌}
use native.Mathlib.Omega.{arith}
use Rattle.base.specs.Bits.{has}
use Rattle.lists.proofs.DescriptorSteps.{heading_short, heading_long, heading_other, heading_some}
use Rattle.lists.proofs.descriptor.heading.Goals.{then-d-lt20-via-then-d-lt20, then-d-lt20-via-else-d-lt20+then-d-gt65535}
use Rattle.lists.proofs.descriptor.heading.Goals.{then-d-lt20-via-else-d-lt20+else-d-gt65535+then-d-ne1}
use Rattle.lists.proofs.descriptor.heading.Goals as goal

pub returns-then-d-lt20 : goal.returns-then-d-lt20
returns-then-d-lt20 c =
    let d = c.args.d.now in
    elim c.then-d-lt20.branch [
      | then-d-lt20-via-then-d-lt20 w ↦ sym (heading_short d (omega arith))
      | then-d-lt20-via-else-d-lt20+then-d-gt65535 w ↦ sym (heading_long d (omega arith) (omega arith))
      | then-d-lt20-via-else-d-lt20+else-d-gt65535+then-d-ne1 w ↦ sym (heading_other d (omega arith) (omega arith) w.if-d-ne1.true)
    ]

pub returns : goal.returns
returns c =
    let a = c.args in
    ap (λ (m : ℕ). has m 0x8000) c.u16_at.ensures.value ∙ sym (heading_some a.d.now (omega arith) (omega arith) (omega arith))
