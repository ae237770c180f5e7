-- `file_report` meets its contract: a file that is too long or misshapen is 12, and any other is the question that it holds.
-- Assumes nothing.
use mathlib.Core.Path.{refl}
use native.Mathlib.Omega.{arith}
use lib.ListN.{length}
use Rattle.access.specs.Status.{posed}
use Rattle.questions.specs.QuestionFile.{file_report}
use Rattle.questions.proofs.FileSteps.{file_long, file_misshapen_lem, file_answered}
use Rattle.access.proofs.ReportLaws.{lent_refused}
use Rattle.questions.proofs.file.file_report.Goals as goal

pub returns-then-s-gt65536-clause-report : goal.returns-then-s-gt65536-clause-report
returns-then-s-gt65536-clause-report c =
    let a = c.args in
    lent_refused a.lent (length a.out.now) 12 (file_report a.s.now) a.out.now _ _ (file_long a.s.now (omega (arith, c.if-s-gt65536.true))) refl refl
    refl

pub returns-in_default-clause-report : goal.returns-in_default-clause-report
returns-in_default-clause-report c =
    let a = c.args in
    lent_refused a.lent (length a.out.now) 12 (file_report a.s.now) a.out.now _ _
    (file_misshapen_lem a.s.now (omega (arith, c.if-s-gt65536.false)) c.in_default.ensures) refl refl refl

pub returns-clause-report : goal.returns-clause-report
returns-clause-report c =
    let s = c.args.s.now in
    rw (file_answered s c.if-s-gt65536.false (posed c.in-Some.q) (length s) c.in-Some.ensures) c.reported.ensures.report
