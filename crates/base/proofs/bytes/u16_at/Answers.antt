-- `u16_at` meets its contract: where the bytes are there each is one of the sum, and where they are not the answer is 0.
-- Assumes nothing.
use mathlib.Core.Path.{sym}
use native.Mathlib.Omega.{arith}
use Rattle.base.proofs.WordsLaws.{u16_at_in, u16_at_out}
use Rattle.base.proofs.bytes.u16_at.Goals as goal

pub returns-then-s-lt2 : goal.returns-then-s-lt2
returns-then-s-lt2 c =
    let a = c.args in
    record { value = sym (u16_at_out a.s.now a.at (omega arith)); upper_bound = omega arith }

pub returns : goal.returns
returns c =
    let a = c.args in
    let e = u16_at_in a.s.now a.at (omega arith) in
    record { value = omega (arith, e); upper_bound = omega arith }
