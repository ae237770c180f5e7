-- `blob_at` meets its contract: where no number stands, where the bytes run past the end, and where they are whole.
-- Assumes nothing.
use native.Mathlib.Omega.{arith}
use Rattle.base.specs.Sevens.{number}
use Rattle.base.proofs.SevensSteps.{num_none, num_some}
use Rattle.questions.proofs.FileSteps.{blob_none, blob_short, blob_stands}
use Rattle.questions.proofs.file.blob_at.Goals as goal

pub returns-in_err-n-clause-value : goal.returns-in_err-n-clause-value
returns-in_err-n-clause-value c =
    let s = c.args.s.now in
    let at = c.args.at in
    rw c.from_residual.ensures (blob_none s at (num_none (number 32 s at) c.in_err-n.ensures.value))

pub returns-then-s-from-clause-value : goal.returns-then-s-from-clause-value
returns-then-s-from-clause-value c =
    let s = c.args.s.now in
    let at = c.args.at in
    let e = num_some (number 32 s at) c.in_ok-n.n c.in_ok-n.ensures.value in
    blob_short s at c.in_ok-n.n.value c.in_ok-n.n.next e (omega arith)

pub returns-clause-value : goal.returns-clause-value
returns-clause-value c =
    let s = c.args.s.now in
    let at = c.args.at in
    let e = num_some (number 32 s at) c.in_ok-n.n c.in_ok-n.ensures.value in
    blob_stands s at c.in_ok-n.n.value c.in_ok-n.n.next e (omega (arith, c.in_ok-n.ensures.value_bound.1))
