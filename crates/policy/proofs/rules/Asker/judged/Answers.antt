-- `policy::rules::Asker::judged` meets its contract: a rule that applies narrows, and no other does. Assumes nothing.
use mathlib.Core.Path.{sym, ◌∙◌}
use Rattle.passes.specs.Crowds.{shown_in}
use Rattle.policy.specs.ByLengths.{lists_by_lengths}
use Rattle.policy.proofs.RulesSteps.{judged_applies, judged_passed}
use Rattle.policy.proofs.rules.Asker.judged.Goals as goal

pub returns-then-admits : goal.returns-then-admits
returns-then-admits c =
    let k = c.args.self in
    let e = rw c.bytes_of.ensures at c.admits.ensures in
    c.narrowed.ensures
    ∙ sym (judged_applies k.kind (shown_in k.crowd) k.crowd.hits k.privileges c.args.before (lists_by_lengths c.args.s.now c.args.r)
    (sym e ∙ c.if-admits.true))

pub returns-else-admits : goal.returns-else-admits
returns-else-admits c =
    let k = c.args.self in
    let e = rw c.bytes_of.ensures at c.admits.ensures in
    sym (judged_passed k.kind (shown_in k.crowd) k.crowd.hits k.privileges c.args.before (lists_by_lengths c.args.s.now c.args.r)
    (sym e ∙ c.if-admits.false))
