-- `ace_by_length` meets its contract: each test is one of the definition's, and what is read lies inside the list.
-- Assumes nothing.
use native.Mathlib.Omega.{arith}
use Rattle.lists.specs.ByLength.{ace_by_length}
use Rattle.lists.proofs.ByLengthLaws.{by_length_short, by_length_cut, by_length_past, by_length_made}
use Rattle.lists.proofs.EntrySteps.{stands_none, stands_some}
use Rattle.lists.proofs.by_length.ace_by_length.Goals as goal

pub returns-then-l-lt16-clause-value : goal.returns-then-l-lt16-clause-value
returns-then-l-lt16-clause-value c = let a = c.args in stands_none (ace_by_length a.l.now a.at) (by_length_short a.l.now a.at (omega arith))

pub returns-then-l-next-clause-value : goal.returns-then-l-next-clause-value
returns-then-l-next-clause-value c =
    let a = c.args in
    stands_none (ace_by_length a.l.now a.at) (by_length_cut a.l.now a.at _ (rw c.u16_at.ensures.value) (omega arith) c.if-l-next.true)

pub returns-then-next-to-clause-value : goal.returns-then-next-to-clause-value
returns-then-next-to-clause-value c =
    let a = c.args in
    stands_none (ace_by_length a.l.now a.at)
    (by_length_past a.l.now a.at _ (rw c.u16_at.ensures.value) (omega arith) _ (rw c.from.ensures) c.if-l-next.false c.if-next-to.true)

pub returns-clause-value : goal.returns-clause-value
returns-clause-value c =
    let a = c.args in
    stands_some _ (ace_by_length a.l.now a.at)
    (by_length_made a.l.now a.at _ (rw c.u16_at.ensures.value) (omega arith) _ (rw c.from.ensures) c.if-l-next.false c.u32_at-mask.result
    c.u32_at-mask.ensures c.if-next-to.false)
    (λ z. omega arith)
