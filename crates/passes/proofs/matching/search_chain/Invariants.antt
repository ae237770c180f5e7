-- `search_chain` meets its contract. The invariant: the chain from this number on, or the row from it down, has the SID where the chain
-- from the first seat on has it; the measure is the number. Assumes nothing.
use Prim.Native.Nat.{◌-◌, ◌≤◌}
use mathlib.Core.Bool.{cond}
use mathlib.Core.Path.{◌≡◌}
use lib.ListN.{length}
use Rattle.passes.specs.Chains.{row, chain}
use Rattle.passes.specs.Matching.{among}
use Rattle.passes.proofs.matching.search_chain.Given as goal

abbrev pub invariant-loop-n : goal.invariant-loop-n
invariant-loop-n l =
    (l.n ≤ length l.seats - 1)
    × (among l.allow (chain l.seats l.listing l.first l.first) l.w ≡ among l.allow (cond l.down (row l.seats l.listing l.n) (chain l.seats l.listing l.n l.n)) l.w)

abbrev pub decreases-loop-n : goal.decreases-loop-n
decreases-loop-n l = l.n
