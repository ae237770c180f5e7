-- `is_virtual` meets its contract: one of two comparisons.
-- Assumes nothing.
use mathlib.Core.Path.{sym, ap, ◌∙◌}
use Rattle.base.specs.Bytes.{same}
use Rattle.sids.proofs.SingleLaws.{principal_self_single}
use Rattle.sids.proofs.sid.is_virtual.Goals as goal

pub returns-else-is_owner_rights : goal.returns-else-is_owner_rights
returns-else-is_owner_rights c =
    rw (sym c.is_owner_rights.ensures ∙ c.if-is_owner_rights.false)
    (c.is_single.ensures ∙ ap (same c.args.w.now) principal_self_single)
