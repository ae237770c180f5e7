-- `bytes` meets its contract: each way out is a test of the definition. Assumes nothing.
use mathlib.Core.Path.{sym}
use native.Mathlib.Omega.{arith}
use Rattle.lists.proofs.DescriptorSteps.{part_in_turned, part_in_past, part_in_inside}
use Rattle.lists.proofs.descriptor.Extent.bytes.Goals.{then-self-via-then-self, then-self-via-else-self+then-d-self}
use Rattle.lists.proofs.descriptor.Extent.bytes.Goals as goal

pub returns-then-self : goal.returns-then-self
returns-then-self c =
    let d = c.args.d.now in
    let x = c.args.self in
    elim c.then-self.branch [
      | then-self-via-then-self w ↦ sym (part_in_turned d x.from x.to (omega arith))
      | then-self-via-else-self+then-d-self w ↦ sym (part_in_past d x.from x.to (omega arith) (omega arith))
    ]

pub returns : goal.returns
returns c = let a = c.args in sym (part_in_inside a.d.now a.self.from a.self.to (omega arith) (omega arith))
