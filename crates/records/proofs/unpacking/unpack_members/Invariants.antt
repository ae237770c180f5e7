-- `unpack_members`: what the members that are left come to from here is what all came to from the start, and there is room for them.
-- While clean, no group is virtual if none of those that are left is.
-- Assumes nothing.
use Prim.Native.Nat.{◌+◌, ◌-◌, ◌*◌, ◌≤◌}
use mathlib.Core.Path.{◌≡◌}
use mathlib.Core.Bool.{true}
use lib.ListN.{length}
use Rattle.records.specs.Fields.{many, group_at}
use Rattle.records.specs.TokenRecord.{packed_reader}
use Rattle.records.specs.Unpacking.{Roomy, outcome, copied, member_copied, members_room}
use Rattle.records.specs.Clean.{Such, PlainGroups}
use Rattle.records.proofs.unpacking.unpack_members.Given as goal

abbrev pub invariant-loop : goal.invariant-loop
invariant-loop l =
    (l.to + members_room l.attrs (l.n - l.counter) ≤ l.o + members_room l.attrs l.n) × (l.to + 4 * l.at ≤ l.o + 4 * l.next)
    × Roomy (length l.initial.out) l.to (length l.s) l.next (members_room l.attrs (l.n - l.counter))
    × (outcome (copied (member_copied l.attrs) l.n l.s l.at) l.initial.out l.o
    ≡ outcome (copied (member_copied l.attrs) (l.n - l.counter) l.s l.next) l.out l.to)
    × (l.attrs ≡ true → l.clean ≡ true → Such PlainGroups (many (group_at packed_reader) (l.n - l.counter) l.s l.next) →
    Such PlainGroups (many (group_at packed_reader) l.n l.s l.at))
