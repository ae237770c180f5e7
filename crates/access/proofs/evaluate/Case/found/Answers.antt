-- `found` meets its contract, in whichever room: it is that of the callee, and few identities have seats enough.
-- Assumes nothing.
use mathlib.Core.Path.{sym, ◌∙◌}
use native.Mathlib.Omega.{arith}
use Rattle.access.proofs.SeatingLaws.{few_seatable}
use Rattle.access.proofs.evaluate.Case.found.Goals as goal

pub seated-requires-clause-seatable : goal.seated-requires-clause-seatable
seated-requires-clause-seatable c =
    few_seatable c.args.self.listing.now c.args.self.place 31 c.requires.0 (omega arith) (sym c.few.ensures ∙ c.if-few.true)

pub seated-requires-then-few-2-clause-seatable : goal.seated-requires-then-few-2-clause-seatable
seated-requires-then-few-2-clause-seatable c =
    few_seatable c.args.self.listing.now c.args.self.place 127 c.requires.0 (omega arith) (sym c.few-else-few.ensures ∙ c.if-few-2.true)
