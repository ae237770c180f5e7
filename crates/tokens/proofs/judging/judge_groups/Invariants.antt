-- `judge_groups`: what was met so far, or is met among the groups that are left, is what is met among all.
-- Assumes nothing.
use Prim.Native.Nat.{◌-◌, ◌≤◌}
use mathlib.Core.Path.{◌≡◌}
use lib.ListN.{length}
use Rattle.records.specs.Fields.{many, group_at}
use Rattle.records.specs.FlatListing.{flat_reader}
use Rattle.records.specs.TokenRules.{virtual_group}
use Rattle.tokens.specs.Judging.{told}
use Rattle.tokens.proofs.JudgeLaws.{groups_on}
use Rattle.tokens.proofs.judging.judge_groups.Given as goal

abbrev pub invariant-loop : goal.invariant-loop
invariant-loop l =
    (l.next ≤ length l.s)
    × (told virtual_group (many (group_at flat_reader) l.n l.s l.at)
    ≡ told (groups_on l.breaks) (many (group_at flat_reader) (l.n - l.counter) l.s l.next))
