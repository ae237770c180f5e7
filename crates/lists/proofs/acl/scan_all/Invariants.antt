-- `scan_all` meets its contract. The loop's invariant: the list comes to what the entries left come to, something foreign met or not.
-- Assumes nothing.
use Prim.Native.Nat.{◌-◌}
use Rattle.base.specs.Bytes.{u16_at}
use mathlib.Core.Path.{◌≡◌}
use Rattle.lists.specs.Acl.{scan_of}
use Rattle.lists.proofs.EntrySteps.{Left}
use Rattle.lists.proofs.acl.scan_all.Given as goal

abbrev pub invariant-loop : goal.invariant-loop
invariant-loop l = scan_of l.deep l.l ≡ Left l.deep l.l l.alien (u16_at l.l 4 - l.counter) l.at
