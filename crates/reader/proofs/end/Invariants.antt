-- `end` meets its contract. The loop's invariant: the list ends where the entries left from here do. Assumes nothing.
use Prim.Native.Nat.{◌-◌}
use mathlib.Core.Path.{◌≡◌}
use Rattle.base.specs.Bytes.{u16_at}
use Rattle.reader.specs.Reading.{end_from}
use Rattle.reader.proofs.end.Given as goal

abbrev pub invariant-loop : goal.invariant-loop
invariant-loop l = end_from l.list (u16_at l.list 4) 8 ≡ end_from l.list (u16_at l.list 4 - l.counter) l.p
