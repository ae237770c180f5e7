-- `pass` meets its contract. The invariant of the entries: the walk from here on, with this tally, answers as the whole walk does; that of
-- the search: the chain from this number on has the SID where those shown have it. The measures are the entries left and the number.
-- Assumes nothing.
use Prim.Native.Nat.{◌-◌, ◌≤◌}
use mathlib.Core.Path.{◌≡◌}
use lib.ListN.{length}
use Rattle.lists.specs.ByLength.{entries_by_length_at, entries_by_length}
use Rattle.passes.specs.Chains.{chain}
use Rattle.passes.specs.Crowds.{shown_in}
use Rattle.passes.specs.Matching.{among}
use Rattle.passes.specs.OneWalk.{walked_from, walked_of}
use Rattle.passes.proofs.matching.Crowd.pass.Given as goal

abbrev pub invariant-search : goal.invariant-search
invariant-search l = (l.n ≤ length l.self.seats.now - 1) × (among l.allow (shown_in l.self) l.who ≡ among l.allow (chain l.self.seats.now l.self.listing.now l.n l.n) l.who)

abbrev pub decreases-search : goal.decreases-search
decreases-search l = l.n

abbrev pub invariant-entries : goal.invariant-entries
invariant-entries l =
    (l.counter ≤ l.entries)
    × (walked_of l.kind (shown_in l.self) l.self.hits (entries_by_length l.list)
    ≡ walked_from l.kind (shown_in l.self) l.self.hits l.t l.named (entries_by_length_at l.list (l.entries - l.counter) l.place))

abbrev pub decreases-entries : goal.decreases-entries
decreases-entries l = l.entries - l.counter
