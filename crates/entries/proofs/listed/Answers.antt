-- `listed` ends: a step that shows an entry goes on, and stays in the list.
-- Assumes nothing.
use Rattle.std.proofs.Common.{◌∙◌, arith, ap}
use Rattle.reader.proofs.StepLaws.{shown_some, step_inside}
use Rattle.reader.specs.Reading.{step_at, place_after}
use Rattle.entries.proofs.listed.Goals as goal

pub loop-a-smaller : goal.loop-a-smaller
loop-a-smaller g c =
    let l = c.loop-a.r.list.now in
    let at = c.loop-a.r.at in
    let s = shown_some (step_at l at) c.in-Some.a c.in-Some.ensures in
    let b = step_inside l at _ s in
    let p = c.stepped-r.ensures.1 ∙ ap (place_after at) s in
    rw c.stepped-r.ensures.0 (omega (arith, b.0, b.1, p))
