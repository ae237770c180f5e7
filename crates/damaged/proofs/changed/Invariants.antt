-- `changed` meets its contract. The invariant: after k turns D has the first k changes.
-- Assumes nothing.
use Rattle.std.proofs.Common.{◌≡◌}
use Rattle.damaged.specs.Changes.{changed}
use Rattle.damaged.proofs.changed.Given as goal

abbrev pub invariant-loop-k : goal.invariant-loop-k
invariant-loop-k l = l.d ≡ changed l.changes l.k
