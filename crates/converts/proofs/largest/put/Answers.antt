-- `put` meets its contract: one law for each way through a turn.
-- Assumes nothing.
use Rattle.std.proofs.Common.{sym, ◌∙◌, arith}
use Rattle.converts.proofs.BuffersLaws.{puts_more, puts_full, puts_done}
use Rattle.converts.proofs.largest.put.Goals as goal

pub returns-then-out-to : goal.returns-then-out-to
returns-then-out-to c = let l = c.loop-b in sym (l.invariant ∙ puts_full c.args.part.now l.out l.b-index l.to (omega arith) (omega arith))

pub loop-b-preserved : goal.loop-b-preserved
loop-b-preserved c = let l = c.loop-b in l.invariant ∙ puts_more c.args.part.now l.out l.b-index l.to (omega arith) (omega arith)

pub returns : goal.returns
returns c = let l = c.loop-b in sym (l.invariant ∙ puts_done c.args.part.now l.out l.b-index l.to (omega arith))
