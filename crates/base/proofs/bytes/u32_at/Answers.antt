-- `u32_at` meets its contract: where the bytes are there each is one of the sum, and where they are not the answer is 0.
-- Assumes nothing.
use mathlib.Core.Path.{sym}
use native.Mathlib.Omega.{arith}
use Rattle.base.proofs.WordsLaws.{u32_at_in, u32_at_out}
use Rattle.base.proofs.bytes.u32_at.Goals as goal

pub returns-then-s-lt4 : goal.returns-then-s-lt4
returns-then-s-lt4 c = let a = c.args in sym (u32_at_out a.s.now a.at (omega arith))

pub returns : goal.returns
returns c =
    let a = c.args in
    let e = u32_at_in a.s.now a.at (omega arith) in
    omega (arith, e)
