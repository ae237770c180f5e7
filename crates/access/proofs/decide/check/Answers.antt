-- `check` meets its contract: the answer of a report without a buffer is that with room enough.
-- Assumes nothing.
use mathlib.Core.Path.{ap, ◌∙◌}
use Rattle.access.specs.Status.{posed}
use Rattle.access.specs.Reported.{report_of}
use Rattle.access.specs.declared.answer.Traced.{Traced}
use Rattle.access.proofs.ReportLaws.{unlent_answer}
use Rattle.access.proofs.decide.check.Goals as goal

pub returns : goal.returns
unfolding report_of
returns c =
    ap (λ (t : Traced). t.answer) c.handed.ensures ∙ c.reported.ensures.report.answer ∙ unlent_answer _ (report_of (posed c.args.q))
