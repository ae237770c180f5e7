-- `pack_members` meets its contract. The loop's invariant: writing all members at the first place is writing those that are left at the
-- place reached (Left), which stand there. Assumes nothing.
use Prim.Native.Nat.{◌+◌, ◌-◌, ◌≤◌}
use mathlib.Core.Path.{◌≡◌}
use lib.ListN.{length}
use Rattle.base.proofs.WriteLaws.{Left}
use Rattle.records.specs.Packing.{members_bytes, members_end, MembersStand}
use Rattle.tokens.proofs.pack.pack_members.Given as goal

abbrev pub invariant-loop : goal.invariant-loop
invariant-loop l =
    Left l.initial.out l.fn.at.to (members_bytes l.attrs l.n l.s l.fn.at.from) l.out l.p.to
    (members_bytes l.attrs (l.n - l.counter) l.s l.p.from)
    × MembersStand l.attrs (l.n - l.counter) l.s l.p.from
    × (members_end l.attrs l.n l.s l.fn.at.from ≡ members_end l.attrs (l.n - l.counter) l.s l.p.from)
    × (l.fn.at.to + length (members_bytes l.attrs l.n l.s l.fn.at.from) ≤ length l.initial.out)
