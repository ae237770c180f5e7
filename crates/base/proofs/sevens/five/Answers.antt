-- `five` meets its contract: five groups are told by their bytes. Assumes nothing.
use mathlib.Core.Path.{refl}
use native.Mathlib.Omega.{arith}
use Rattle.base.proofs.LongerLaws.{five_groups}
use Rattle.base.proofs.sevens.five.Goals as goal

pub returns : goal.returns
returns c =
    let a = c.args in
    five_groups a.s.now a.at (omega arith) a.first c.from-second.result c.from-third.result c.from-fourth.result c.from-fifth.result
    c.requires.1 c.from-second.ensures c.from-third.ensures c.from-fourth.ensures c.from-fifth.ensures
    c.requires.2 c.requires.3 (omega arith) (omega arith) (omega arith) (omega arith) (omega arith) (omega arith)
    c.if-fifth-eq0.false (omega arith) _ refl
