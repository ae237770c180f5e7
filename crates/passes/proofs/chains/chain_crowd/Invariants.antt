-- `chain_crowd` meets its contract. The invariant: the seats from here on, chained into the tables as they are, give the whole.
-- Assumes nothing.
use Prim.Native.Nat.{◌+◌, ◌-◌, ◌≤◌}
use mathlib.Core.Path.{◌≡◌}
use lib.ListN.{length}
use Rattle.passes.specs.Chains.{tables, chained, chains_of}
use Rattle.passes.proofs.chains.chain_crowd.Given as goal

abbrev pub invariant-loop-i : goal.invariant-loop-i
invariant-loop-i l = record {
  from_le_to : l.seat.from ≤ l.seat.to;
  inside : l.seat.to ≤ length l.listing;
  there : l.seat.to ≡ 0 → ⊥;
  few : l.i ≤ l.beside + 1;
  whole : chains_of l.attrs l.listing l.at (tables l.initial.heads l.initial.seats)
      ≡ chained l.attrs l.listing (tables l.heads l.seats) l.i (l.beside + 1 - l.i) l.seat;
}
