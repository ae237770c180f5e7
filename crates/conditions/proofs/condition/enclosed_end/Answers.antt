-- `enclosed_end` meets its contract: each way out is a test of the definition. Assumes nothing.
use Prim.Native.Nat.{◌+◌, ◌<◌}
use native.Mathlib.Omega.{arith}
use lib.ListN.{length}
use Rattle.conditions.specs.Condition.{enclosed_end}
use Rattle.base.proofs.FoundLaws.{found_none, found_at}
use Rattle.conditions.proofs.OperandLaws.{enclosed_short, enclosed_cut, enclosed_whole}
use Rattle.conditions.proofs.condition.enclosed_end.Goals as goal

pub returns-then-s-lt5-clause-value : goal.returns-then-s-lt5-clause-value
returns-then-s-lt5-clause-value c =
    let a = c.args in
    found_none (enclosed_end a.s.now a.at) (enclosed_short a.s.now a.at (omega arith))

pub returns-then-s-at-2-clause-value : goal.returns-then-s-at-2-clause-value
returns-then-s-at-2-clause-value c =
    let a = c.args in
    found_none (enclosed_end a.s.now a.at) (enclosed_cut a.s.now a.at (omega arith) (omega arith))

pub returns-clause-value : goal.returns-clause-value
returns-clause-value c =
    let a = c.args in
    let whole = enclosed_whole a.s.now a.at (omega arith) in
    found_at (enclosed_end a.s.now a.at) _ (omega (arith, whole)) (λ z. omega arith)
