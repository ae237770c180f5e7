-- `pack_words` meets its contract. The loop's invariant: writing all words at `o` is writing those that are left at `to` (Left).
-- Assumes nothing.
use Prim.Native.Nat.{◌+◌, ◌-◌, ◌*◌, ◌≤◌}
use lib.ListN.{length}
use Rattle.base.proofs.WriteLaws.{Left}
use Rattle.records.specs.TokenRecord.{packed_words}
use Rattle.tokens.proofs.pack.pack_words.Given as goal

abbrev pub invariant-loop-k : goal.invariant-loop-k
invariant-loop-k l =
    Left l.initial.out l.o (packed_words l.n l.w 8) l.out l.to (packed_words (l.n - l.k) l.w (8 + 4 * l.k))
    × (8 + 4 * l.n ≤ length l.w)
    × (l.o + length (packed_words l.n l.w 8) ≤ length l.initial.out)
