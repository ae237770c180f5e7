-- `sid_end` meets its contract: each way out is a test of the definition that failed, and the last is a SID that stands whole.
-- Assumes nothing.
use native.Mathlib.Omega.{arith}
use Rattle.base.proofs.FoundLaws.{found_none, found_at}
use Rattle.sids.proofs.SidLaws.{sid_end_short, sid_end_other, sid_end_many, sid_end_cut, sid_end_whole}
use Rattle.sids.proofs.sid.sid_end.Goals as goal

pub returns-then-s-lt8-clause-value : goal.returns-then-s-lt8-clause-value
returns-then-s-lt8-clause-value c = let a = c.args in (found_none _ (sid_end_short a.s.now a.at (omega arith)))

pub returns-then-s-at-ne1-clause-value : goal.returns-then-s-at-ne1-clause-value
returns-then-s-at-ne1-clause-value c = let a = c.args in (found_none _ (sid_end_other a.s.now a.at (omega arith) c.if-s-at-ne1.true))

pub returns-then-n-gt15-clause-value : goal.returns-then-n-gt15-clause-value
returns-then-n-gt15-clause-value c =
    let a = c.args in
    (found_none _ (sid_end_many a.s.now a.at (omega arith) (omega arith) (omega arith)))

pub returns-then-s-e-clause-value : goal.returns-then-s-e-clause-value
returns-then-s-e-clause-value c =
    let a = c.args in
    (found_none _ (sid_end_cut a.s.now a.at (omega arith) (omega arith) (omega arith) (omega arith)))

pub returns-clause-value : goal.returns-clause-value
returns-clause-value c =
    let a = c.args in
    let e = sid_end_whole a.s.now a.at (omega arith) (omega arith) (omega arith) in
    found_at _ _ (omega (arith, e)) (omega arith)
