-- `last` meets its contract: the word that ends the bytes.
-- Assumes nothing.
use mathlib.Core.Path.{sym, ◌∙◌}
use native.Mathlib.Omega.{arith}
use Rattle.seats.proofs.KeyLaws.{last_none, last_some}
use Rattle.seats.proofs.keys.last.Goals as goal

pub returns-then-w-lt4 : goal.returns-then-w-lt4
returns-then-w-lt4 c = sym (last_none c.args.w.now c.if-w-lt4.true)

pub returns : goal.returns
returns c = c.u32_at.ensures ∙ sym (last_some c.args.w.now (omega (arith, c.if-w-lt4.false)))
