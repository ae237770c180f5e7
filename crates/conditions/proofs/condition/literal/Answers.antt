-- `literal` meets its contract. Assumes nothing.
use mathlib.Core.Path.{sym, ap, ◌∙◌}
use Rattle.conditions.specs.Condition.{literal_end}
use Rattle.conditions.specs.Stack.{step_of}
use Rattle.base.proofs.FoundLaws.{none_found, place_found}
use Rattle.conditions.proofs.StackLaws.{literal_broken, literal_push}
use Rattle.conditions.proofs.condition.literal.Goals as goal

pub returns-in_default : goal.returns-in_default
returns-in_default c =
    λ st q.
    let a = c.args in
    sym (ap step_of (literal_broken a.s.now a.at st (none_found (literal_end a.s.now a.at) (sym c.in_default.is ∙ c.literal_end.ensures.value))))

pub returns : goal.returns
returns c =
    λ st q.
    let a = c.args in
    let e = c.in-Some.e in
    let k = place_found (literal_end a.s.now a.at) e c.in-Some.ensures.value in
    c.push.ensures st q ∙ sym (ap step_of (literal_push a.s.now a.at st e (sym k.is) k.there))
