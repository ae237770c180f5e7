-- `policy::rules::Asker::result` meets its contract: a walk over the list, and what it comes to. Assumes nothing.
use Rattle.lists.specs.ByLength.{entries_by_length}
use Rattle.passes.specs.Crowds.{shown_in}
use Rattle.policy.proofs.RulesSteps.{result_is}
use Rattle.policy.proofs.rules.Asker.result.Goals as goal

pub returns : goal.returns
returns c =
    let a = c.args.self in
    result_is a.kind (shown_in a.crowd) a.crowd.hits a.privileges (entries_by_length c.args.list.now) c.pass-walked.result c.normal.result.0
    c.pass-walked.ensures c.normal.ensures
