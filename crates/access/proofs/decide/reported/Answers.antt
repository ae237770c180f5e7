-- `reported` meets its contract: the kind and the mask come first, then what is past them.
-- Assumes nothing.
use mathlib.Core.Path.{refl, sym, ◌∙◌}
use lib.ListN.{length}
use Rattle.access.specs.Status.{posed}
use Rattle.access.specs.Reported.{report_of}
use Rattle.access.proofs.FindingsLaws.{report_kind, report_mask, report_past_lem}
use Rattle.access.proofs.ReportLaws.{lent_refused}
use Rattle.access.proofs.decide.reported.Goals as goal

pub returns-then-not-is_kind-clause-report : goal.returns-then-not-is_kind-clause-report
returns-then-not-is_kind-clause-report c =
    let a = c.args in
    lent_refused a.lent (length a.out.now) 1 (report_of (posed a.q)) a.out.now _ _
    (report_kind (posed a.q) (sym c.is_kind.ensures ∙ c.if-not-is_kind.true)) refl refl refl

pub returns-then-not-legal-clause-report : goal.returns-then-not-legal-clause-report
returns-then-not-legal-clause-report c =
    let a = c.args in
    lent_refused a.lent (length a.out.now) 2 (report_of (posed a.q)) a.out.now _ _
    (report_mask (posed a.q) (sym c.is_kind.ensures ∙ c.if-not-is_kind.false) (sym c.legal.ensures ∙ c.if-not-legal.true)) refl refl refl

pub returns-clause-report : goal.returns-clause-report
returns-clause-report c =
    rw (report_past_lem (posed c.args.q) (sym c.is_kind.ensures ∙ c.if-not-is_kind.false) (sym c.legal.ensures ∙ c.if-not-legal.false))
    c.answered.ensures.report
