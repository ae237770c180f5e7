-- `store` meets its contract: the byte is set where it is to be written. Assumes nothing.
use mathlib.Core.Path.{◌≡◌}
use mathlib.Core.List.{List}
use mathlib.Core.Bool.{Bool, true, cond}
use Prim.Native.Nat.{ℕ}
use Rattle.audit.proofs.writing.store.Goals as goal

where_written : (t : Bool) (l k : List ℕ) → t ≡ true → k ≡ cond t k l
where_written t l k e = rw e

pub bounds-out-i : goal.bounds-out-i
bounds-out-i c = c.requires c.if-write.true

pub returns-then-write : goal.returns-then-write
returns-then-write c = where_written _ _ _ c.if-write.true
