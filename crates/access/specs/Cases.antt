-- What is found of what is evaluated, put together: the words of Evaluating over one record.
use Rattle.std.specs.Prelude.{ℕ}
use Rattle.policy.specs.ByLengths.{rules_by_lengths}
use Rattle.answers.specs.declared.answer.Found.{Found}
use Rattle.access.specs.Evaluating.{dacl_as, confinement_in, found_in}
use Rattle.access.specs.declared.evaluate.Case.{Case}

abbrev pub confinement_at : Case → ℕ
confinement_at c = confinement_in c.kind c.listing.now c.place c.owner.now c.me.now (dacl_as c.present c.list.now)

abbrev pub found_at : Case → Found
found_at c =
    found_in c.kind c.listing.now c.place c.owner.now c.me.now (dacl_as c.present c.list.now) (rules_by_lengths c.policy.now)
