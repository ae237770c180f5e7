-- `onward` meets its contract: so many bytes on, or the end.
-- Assumes nothing.
use Prim.Native.Nat.{◌+◌}
use native.Mathlib.Omega.{arith}
use borrow.Author.Tests.{lt-ltb, le-ltb}
use lib.ListN.{length}
use Rattle.seats.proofs.seats.onward.Goals as goal

pub returns-then-s-e : goal.returns-then-s-e
returns-then-s-e c =
    let a = c.args in
    record { value = rw (lt-ltb (length a.s.now) (a.e + a.n) (omega arith)); upper_bound = omega arith }

pub returns : goal.returns
returns c =
    let a = c.args in
    record { value = rw (le-ltb (length a.s.now) (a.e + a.n) (omega arith)); upper_bound = omega arith }
