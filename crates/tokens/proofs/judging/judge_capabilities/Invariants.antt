-- `judge_capabilities`: what was met so far, or is met among the capabilities that are left, is what is met among all.
-- Assumes nothing.
use Prim.Native.Nat.{◌-◌, ◌≤◌}
use mathlib.Core.Path.{◌≡◌}
use lib.ListN.{length}
use Rattle.records.specs.Fields.{many}
use Rattle.records.specs.FlatListing.{flat_identity}
use Rattle.tokens.specs.Judging.{told, seen_of}
use Rattle.tokens.proofs.JudgeLaws.{seen_on}
use Rattle.tokens.proofs.judging.judge_capabilities.Given as goal

abbrev pub invariant-loop : goal.invariant-loop
invariant-loop l =
    (l.next ≤ length l.s)
    × (told seen_of (many flat_identity l.n l.s l.at)
    ≡ told (seen_on l.breaks l.listed) (many flat_identity (l.n - l.counter) l.s l.next))
