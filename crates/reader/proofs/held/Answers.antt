-- `held` meets its contract: the part up to where `end` says. Assumes nothing.
use mathlib.Core.Path.{◌∙◌}
use Rattle.reader.proofs.StepLaws.{held_is}
use Rattle.reader.proofs.held.Goals as goal

pub returns : goal.returns
returns c = c.bytes.ensures ∙ held_is c.args.list.now _ c.end.ensures
