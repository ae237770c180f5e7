-- `mixed` meets its contract: the last pair, the two first ones after the authority where they stand, and the others in a loop. The
-- invariant: the pairs from here on, mixed into this number, give the whole.
-- Assumes nothing.
use Prim.Native.Nat.{◌+◌}
use mathlib.Core.Path.{◌≡◌}
use lib.ListN.{length}
use Rattle.seats.specs.Key.{mixed}
use Rattle.seats.proofs.KeyLaws.{Mixing}
use Rattle.seats.proofs.keys.mixed.Given as goal

abbrev pub invariant-loop-i : goal.invariant-loop-i
invariant-loop-i l = (l.k + 8 ≡ length l.w) × (mixed l.w ≡ Mixing l.w l.k l.i l.x)
