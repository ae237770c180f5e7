-- `self_fits` meets its contract: the test of the length is that of the definition.
-- Assumes nothing.
use mathlib.Core.Path.{sym, ◌∙◌}
use Rattle.access.specs.Status.{self_fits}
use Rattle.access.proofs.finding.self_fits.Goals as goal

pub returns-then-is_empty : goal.returns-then-is_empty
unfolding self_fits
returns-then-is_empty c = rw (sym c.is_empty.ensures ∙ c.if-is_empty.true) c.if-is_empty.true

pub returns-else-is_empty : goal.returns-else-is_empty
unfolding self_fits
returns-else-is_empty c = rw (sym c.is_empty.ensures ∙ c.if-is_empty.false) c.is_sid.ensures
