-- `is_simple` meets its contract. The loop's invariant: the list is simple where the entries left are.
-- Assumes nothing.
use Prim.Native.Nat.{◌-◌}
use Rattle.base.specs.Bytes.{u16_at}
use mathlib.Core.Path.{◌≡◌}
use Rattle.lists.specs.Simple.{simple_at, simple}
use Rattle.lists.proofs.acl.is_simple.Given as goal

abbrev pub invariant-loop : goal.invariant-loop
invariant-loop l = simple l.deep l.l ≡ simple_at l.deep l.l (u16_at l.l 4 - l.counter) l.at
