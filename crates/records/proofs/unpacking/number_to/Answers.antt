-- `number_to` answers the number where it is small enough, and else none.
-- Assumes nothing.
use Rattle.records.proofs.UnpackLaws.{limited_none, limited_over, limited_within}
use Rattle.records.proofs.unpacking.number_to.Goals as goal

pub returns-in_err-n-clause-value : goal.returns-in_err-n-clause-value
returns-in_err-n-clause-value c = rw c.from_residual.ensures (limited_none _ _ c.in_err-n.ensures.value)

pub returns-then-most-n-clause-value : goal.returns-then-most-n-clause-value
returns-then-most-n-clause-value c = limited_over _ c.in_ok-n.n _ c.in_ok-n.ensures.value c.if-most-n.true

pub returns-clause-value : goal.returns-clause-value
returns-clause-value c = limited_within _ c.in_ok-n.n _ c.in_ok-n.ensures.value c.if-most-n.false
