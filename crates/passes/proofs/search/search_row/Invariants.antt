-- `search_row` meets its contract. The invariant of both loops: the row from this number down has the SID where the whole row has it; the
-- measure is the number. Assumes nothing.
use Prim.Native.Nat.{◌+◌, ◌-◌, ◌≤◌}
use mathlib.Core.Path.{◌≡◌}
use lib.ListN.{length}
use Rattle.passes.specs.Chains.{row}
use Rattle.passes.specs.Matching.{among}
use Rattle.passes.proofs.search.search_row.Given as goal

abbrev pub invariant-fours : goal.invariant-fours
invariant-fours l = (l.n ≤ length l.seats - 1) × (among l.allow (row l.seats l.listing l.from) l.w ≡ among l.allow (row l.seats l.listing l.n) l.w)

abbrev pub decreases-fours : goal.decreases-fours
decreases-fours l = l.n

abbrev pub invariant-loop-i : goal.invariant-loop-i
invariant-loop-i l =
    (1 ≤ l.i)
    × ((l.i ≤ l.n + 1)
    × (among l.allow (row l.seats l.listing l.from) l.w ≡ among l.allow (row l.seats l.listing (l.i - 1)) l.w))
