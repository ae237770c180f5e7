-- `step_at` meets its contract: where the list has an entry at the place, it is shown. Assumes nothing.
use mathlib.Core.Path.{◌∙◌}
use Rattle.reader.proofs.StepLaws.{step_shown}
use Rattle.reader.proofs.step_at.Goals as goal

pub returns : goal.returns
returns c = c.ace_at.ensures.value ∙ step_shown c.args.list.now c.args.at
