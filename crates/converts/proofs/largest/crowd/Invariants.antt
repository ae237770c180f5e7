-- `crowd` meets its contract. The invariant: after i turns there are i identities.
-- Assumes nothing.
use Rattle.std.proofs.Common.{◌≡◌}
use Rattle.converts.specs.Buffers.{build, crowds}
use Rattle.converts.proofs.largest.crowd.Given as goal

abbrev pub invariant-loop-i : goal.invariant-loop-i
invariant-loop-i l = build l.out l.to ≡ crowds l.head l.word l.tail l._i (build l.initial.out l.at)
