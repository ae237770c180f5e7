-- `question` meets its contract: the answer of a report without a buffer is that with room enough.
-- Assumes nothing.
use mathlib.Core.Path.{ap, ◌∙◌}
use Rattle.access.specs.declared.answer.Traced.{Traced}
use Rattle.questions.specs.QuestionFile.{file_report}
use Rattle.questions.proofs.FileSteps.{file_told}
use Rattle.access.proofs.ReportLaws.{unlent_answer}
use Rattle.questions.proofs.file.question.Goals as goal

pub returns : goal.returns
returns c =
    let s = c.args.s.now in
    ap (λ (t : Traced). t.answer) c.handed.ensures ∙ c.file_report.ensures.report.answer ∙ unlent_answer _ (file_report s) ∙ file_told s
