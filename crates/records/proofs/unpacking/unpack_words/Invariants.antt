-- `unpack_words`: what the words that are left come to from here is what all came to from the start, and there is room for them.
-- Assumes nothing.
use Prim.Native.Nat.{◌+◌, ◌-◌, ◌*◌, ◌≤◌}
use mathlib.Core.Path.{◌≡◌}
use lib.ListN.{length}
use Rattle.records.specs.Unpacking.{Roomy, outcome, copied, word_at}
use Rattle.records.proofs.unpacking.unpack_words.Given as goal

abbrev pub invariant-loop : goal.invariant-loop
invariant-loop l =
    (l.to ≡ l.o + 4 * l.counter) × (l.to + 4 * l.at ≤ l.o + 4 * l.next)
    × Roomy (length l.initial.out) l.to (length l.s) l.next (4 * (l.n - l.counter))
    × (outcome (copied word_at l.n l.s l.at) l.initial.out l.o ≡ outcome (copied word_at (l.n - l.counter) l.s l.next) l.out l.to)
