-- `head_end` meets its contract: each way out is a test of the definition that failed, and the last is one that fits.
-- Assumes nothing.
use native.Mathlib.Omega.{arith}
use Rattle.base.proofs.FoundLaws.{found_none, found_at}
use Rattle.lists.specs.Acl.{head_end}
use Rattle.lists.proofs.AclSteps.{head_end_cut, head_end_odd, head_end_short, head_end_small, head_end_whole}
use Rattle.lists.proofs.acl.head_end.Goals.{then-n-ne0-via-then-n-ne0, then-n-ne0-via-else-n-ne0+then-n-lt4}
use Rattle.lists.proofs.acl.head_end.Goals.{then-n-ne0-via-else-n-ne0+else-n-lt4+then-l-at-2}
use Rattle.lists.proofs.acl.head_end.Goals as goal

pub returns-then-l-lt4-clause-value : goal.returns-then-l-lt4-clause-value
returns-then-l-lt4-clause-value c =
    let a = c.args in
    found_none (head_end a.l.now a.at) (head_end_short a.l.now a.at (omega arith))

pub returns-then-n-ne0-clause-value : goal.returns-then-n-ne0-clause-value
returns-then-n-ne0-clause-value c =
    let a = c.args in
    let e = c.u16_at-n.ensures.value in
    found_none (head_end a.l.now a.at)
    (elim c.then-n-ne0.branch [
      | then-n-ne0-via-then-n-ne0 w ↦ head_end_odd a.l.now a.at (omega arith) (λ q. omega (arith, e, w.if-n-ne0.true))
      | then-n-ne0-via-else-n-ne0+then-n-lt4 w ↦ head_end_small a.l.now a.at (omega arith) (omega arith) (omega arith)
      | then-n-ne0-via-else-n-ne0+else-n-lt4+then-l-at-2 w ↦ head_end_cut a.l.now a.at (omega arith) (omega arith) (omega arith) (omega arith)
    ])

pub returns-clause-value : goal.returns-clause-value
returns-clause-value c =
    let a = c.args in
    let w = head_end_whole a.l.now a.at (omega arith) (omega arith) (omega arith) in
    found_at (head_end a.l.now a.at) _ (omega (arith, w)) (λ z. omega arith)
