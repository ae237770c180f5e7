-- `u64_at` meets its contract: where the bytes are there it is the two halves, and where they are not the answer is 0.
-- Assumes nothing.
use mathlib.Core.Path.{sym}
use native.Mathlib.Omega.{arith}
use Rattle.base.proofs.EightLaws.{u64_at_in, u64_at_out}
use Rattle.base.proofs.bytes.u64_at.Goals as goal

pub returns-then-s-lt8 : goal.returns-then-s-lt8
returns-then-s-lt8 c = let a = c.args in sym (u64_at_out a.s.now a.at (omega arith))

pub returns : goal.returns
returns c =
    let a = c.args in
    let e = u64_at_in a.s.now a.at (omega arith) in
    omega (arith, e)
