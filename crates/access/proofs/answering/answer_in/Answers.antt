-- `answer_in` meets its contract: the report is read off what is found, and where a list asks for it an audit is made of it.
-- Assumes nothing.
use mathlib.Core.Path.{refl, sym, ap, ◌∙◌}
use native.Mathlib.Omega.{arith}
use lib.ListN.{length}
use Rattle.std.proofs.lemmas.Result.{err_from_is_err_and}
use Rattle.base.proofs.BytesLaws.{bytes_of_lt, part_front}
use Rattle.answers.specs.Granted.{answer_of}
use Rattle.answers.specs.declared.answer.Answer.{Answer}
use Rattle.access.specs.Status.{posed}
use Rattle.access.specs.Refusals.{number_of}
use Rattle.access.specs.Reported.{report_past}
use Rattle.access.proofs.FindingsLaws.{number_some, past_stopped}
use Rattle.access.proofs.ReportLaws.{lent_refused}
use Rattle.access.proofs.AnsweringSteps.{listing_held, limits, owner_held, sacl_held, lent_unasked, lent_audited}
use Rattle.access.proofs.answering.answer_in.Goals as goal

pub returns-in_err-f-clause-report : goal.returns-in_err-f-clause-report
returns-in_err-f-clause-report c =
    let a = c.args in
    let p = err_from_is_err_and c.from_residual.result c.from_residual.ensures.1 in
    rw (p.1, p.2)
    (lent_refused a.lent (length a.out.now) (number_of c.in_err-f.field-0.0) (report_past (posed a.q)) a.out.now _ _
    (past_stopped (posed a.q) _ c.in_err-f.ensures.value (number_some c.in_err-f.field-0.0)) refl refl refl)

pub returns-then-not-is_asked-clause-report : goal.returns-then-not-is_asked-clause-report
returns-then-not-is_asked-clause-report c =
    let a = c.args in
    lent_unasked (posed a.q) _ c.in_ok-f.ensures.value refl a.lent (length a.out.now) a.out.now _ _ c.read_off-answer.result
    c.read_off-answer.ensures (sym c.is_asked.ensures ∙ c.if-not-is_asked.true) refl refl refl

pub returns-then-not-is_asked-clause-accepted : goal.returns-then-not-is_asked-clause-accepted
unfolding answer_of
returns-then-not-is_asked-clause-accepted c = ap (λ (x : Answer). x.status) c.read_off-answer.ensures

pub audited-requires-clause-accepted : goal.audited-requires-clause-accepted
unfolding answer_of
audited-requires-clause-accepted c = ap (λ (x : Answer). x.status) c.read_off-answer.ensures

pub audited-requires-clause-few : goal.audited-requires-clause-few
audited-requires-clause-few c =
    let q = posed c.args.q in
    let e = c.in_ok-f.ensures.value in
    limits q _ e refl (bytes_of_lt q.token (λ i l. omega (arith, c.findings_in.ensures.bytes i))) _
    (listing_held q _ e refl _ _ (λ z. c.in_ok-f.ensures.listing.0) (part_front _ c.in_ok-f.f.length))

pub returns-clause-report : goal.returns-clause-report
returns-clause-report c =
    let a = c.args in
    let q = posed a.q in
    let e = c.in_ok-f.ensures.value in
    lent_audited q _ e refl a.lent (length a.out.now) a.out.now _ _ c.read_off-answer.result c.read_off-answer.ensures
    (bytes_of_lt q.token (λ i l. omega (arith, c.findings_in.ensures.bytes i))) _ _ _
    (listing_held q _ e refl _ _ (λ z. c.in_ok-f.ensures.listing.0) (part_front _ c.in_ok-f.f.length))
    (owner_held q _ e refl _ c.part-owner.ensures) (sacl_held q _ e refl _ c.part-sacl.ensures) c.audited.ensures.report
