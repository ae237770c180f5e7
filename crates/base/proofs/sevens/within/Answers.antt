-- `within` meets its contract: the test is the definition's.
-- Assumes nothing.
use Prim.Native.Nat.{◌*◌, ◌^◌, ◌%◌}
use mathlib.Core.Path.{◌≡◌, sym, ap}
use native.Mathlib.Omega.{arith}
use lib.Pow.{shl_exact}
use Rattle.base.specs.Sevens.{num_of}
use Rattle.base.proofs.SevensSteps.{within_fits, within_wide}
use Rattle.base.proofs.sevens.within.Goals as goal

pub returns-then-bits-value : goal.returns-then-bits-value
unfolding num_of
returns-then-bits-value c =
    let a = c.args in
    let e : (1 * 2 ^ a.bits) % 2 ^ 64 ≡ 1 * 2 ^ a.bits = shl_exact 1 a.bits 64 (omega arith) (omega arith) in
    sym (ap num_of (within_wide a.bits a.value a.next (omega arith)))

pub returns : goal.returns
unfolding num_of
returns c =
    let a = c.args in
    let e : (1 * 2 ^ a.bits) % 2 ^ 64 ≡ 1 * 2 ^ a.bits = shl_exact 1 a.bits 64 (omega arith) (omega arith) in
    sym (ap num_of (within_fits a.bits a.value a.next (omega arith)))
