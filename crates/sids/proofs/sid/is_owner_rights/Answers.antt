-- `is_owner_rights` meets its contract: owner rights is a SID of one word.
-- Assumes nothing.
use mathlib.Core.Path.{ap, ◌∙◌}
use Rattle.base.specs.Bytes.{same}
use Rattle.sids.proofs.SingleLaws.{owner_rights_single}
use Rattle.sids.proofs.sid.is_owner_rights.Goals as goal

pub returns : goal.returns
returns c = c.is_single.ensures ∙ ap (same c.args.w.now) owner_rights_single
