-- `acl_end` meets its contract: each way out is a test of the definition that failed, and the last is one that fits.
-- Assumes nothing.
use mathlib.Core.Path.{sym, ◌∙◌}
use native.Mathlib.Omega.{arith}
use Rattle.base.proofs.FoundLaws.{found_none, found_at}
use Rattle.lists.specs.Acl.{acl_end}
use Rattle.lists.proofs.AclSteps.{acl_end_cut, acl_end_other, acl_end_short, acl_end_small, acl_end_whole}
use Rattle.lists.proofs.acl.acl_end.Goals.{then-s-lt8-via-then-s-lt8, then-s-lt8-via-else-s-lt8+then-s-at}
use Rattle.lists.proofs.acl.acl_end.Goals.{then-s-lt8-via-else-s-lt8+else-s-at+then-not-is_revision}
use Rattle.lists.proofs.acl.acl_end.Goals.{then-n-lt8-via-then-n-lt8, then-n-lt8-via-else-n-lt8+then-s-at-2}
use Rattle.lists.proofs.acl.acl_end.Goals as goal

pub returns-then-s-lt8-clause-value : goal.returns-then-s-lt8-clause-value
returns-then-s-lt8-clause-value c =
    let a = c.args in
    found_none (acl_end a.s.now a.at)
    (elim c.then-s-lt8.branch [
      | then-s-lt8-via-then-s-lt8 w ↦ acl_end_short a.s.now a.at (omega arith)
      | then-s-lt8-via-else-s-lt8+then-s-at w ↦ acl_end_short a.s.now a.at (omega arith)
      | then-s-lt8-via-else-s-lt8+else-s-at+then-not-is_revision w ↦ acl_end_other a.s.now a.at (omega arith)
          (sym w.is_revision.ensures ∙ w.if-not-is_revision.true)
    ])

pub returns-then-n-lt8-clause-value : goal.returns-then-n-lt8-clause-value
returns-then-n-lt8-clause-value c =
    let a = c.args in
    let r = sym c.is_revision.ensures ∙ c.if-not-is_revision.false in
    found_none (acl_end a.s.now a.at)
    (elim c.then-n-lt8.branch [
      | then-n-lt8-via-then-n-lt8 w ↦ acl_end_small a.s.now a.at (omega arith) r (omega arith)
      | then-n-lt8-via-else-n-lt8+then-s-at-2 w ↦ acl_end_cut a.s.now a.at (omega arith) r (omega arith) (omega arith)
    ])

pub returns-clause-value : goal.returns-clause-value
returns-clause-value c =
    let a = c.args in
    let w = acl_end_whole a.s.now a.at (sym c.is_revision.ensures ∙ c.if-not-is_revision.false) (omega arith) (omega arith) in
    found_at (acl_end a.s.now a.at) _ (omega (arith, w)) (λ z. omega arith)
