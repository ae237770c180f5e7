-- `put` meets its contract. The invariant: what is left of the part, put from here, is the whole, put from the start.
-- Assumes nothing.
use Rattle.std.proofs.Common.{◌≡◌, drop}
use Rattle.converts.specs.Buffers.{build, puts}
use Rattle.converts.proofs.largest.put.Given as goal

abbrev pub invariant-loop-b : goal.invariant-loop-b
invariant-loop-b l = puts l.part (build l.initial.out l.at) ≡ puts (drop l.b-index l.part) (build l.out l.to)
