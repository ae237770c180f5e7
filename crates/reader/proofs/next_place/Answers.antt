-- `next_place` meets its contract: it takes apart what `step_at` says. Assumes nothing.
use mathlib.Core.Path.{sym, ap, ◌∙◌}
use Rattle.reader.specs.Reading.{step_at, place_after}
use Rattle.reader.proofs.StepLaws.{shown_some, shown_none}
use Rattle.reader.proofs.next_place.Goals as goal

pub returns-in-Some : goal.returns-in-Some
returns-in-Some c =
    let a = c.args in
    sym (ap (place_after a.at) (shown_some (step_at a.list.now a.at) c.in-Some.a (sym c.in-Some.is ∙ c.step_at.ensures)))

pub returns-in-None : goal.returns-in-None
returns-in-None c =
    let a = c.args in
    sym (ap (place_after a.at) (shown_none (step_at a.list.now a.at) (sym c.in-None.is ∙ c.step_at.ensures)))
