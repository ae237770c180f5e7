-- `fill` meets its contract. The invariant: after i turns the part was put i times.
-- Assumes nothing.
use Rattle.std.proofs.Common.{◌≡◌}
use Rattle.converts.specs.Buffers.{build, fills}
use Rattle.converts.proofs.largest.fill.Given as goal

abbrev pub invariant-loop-i : goal.invariant-loop-i
invariant-loop-i l = build l.out l.to ≡ fills l.part l._i (build l.initial.out l.at)
