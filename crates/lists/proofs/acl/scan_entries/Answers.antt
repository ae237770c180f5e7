-- `scan_entries` meets its contract: a simple list is plain. Assumes nothing.
use mathlib.Core.Path.{sym, ap, ◌∙◌}
use Rattle.conditions.specs.Scanning.{scan_result}
use Rattle.lists.proofs.SimpleLaws.{simple_plain}
use Rattle.lists.proofs.acl.scan_entries.Goals as goal

pub returns-then-is_simple : goal.returns-then-is_simple
returns-then-is_simple c =
    let a = c.args in
    sym (ap scan_result (simple_plain a.deep a.l.now (sym c.is_simple.ensures ∙ c.if-is_simple.true)))

pub returns : goal.returns
returns c = c.scan_all.ensures
