-- `pack_words` meets its contract. The loop's invariant: writing all words at `o` is writing those that are left at `to` (Left).
-- Assumes nothing.
use Prim.Native.Nat.{◌+◌, ◌-◌, ◌*◌}
use mathlib.Core.Path.{◌≡◌}
use native.Mathlib.Omega.{arith}
use Rattle.base.specs.Sevens.{packed}
use Rattle.base.proofs.WriteLaws.{left_start, left_long, left_room, left_step, left_done}
use Rattle.records.proofs.PackLaws.{words_none, words_more}
use Rattle.tokens.proofs.pack.pack_words.Goals as goal

pub loop-k-init : goal.loop-k-init
loop-k-init c = let z : c.args.n - 0 ≡ c.args.n = omega arith in (rw z (left_start _ _ _), c.requires.0, c.requires.1)

pub put-to-requires : goal.put-to-requires
put-to-requires c =
    let i = c.loop-k.invariant in
    rw c.from.ensures (left_room i.0 (packed c.word.result) _ (words_more _ _ _ _ (omega arith) c.word.ensures) i.2)

pub loop-k-preserved : goal.loop-k-preserved
loop-k-preserved c =
    let i = c.loop-k.invariant in
    let k = c.loop-k.k in
    let less : c.args.n - (k + 1) ≡ c.args.n - k - 1 = omega arith in
    let next : 8 + 4 * (k + 1) ≡ 8 + 4 * k + 4 = omega arith in
    (rw (less, next) (left_step i.0 _ _ (words_more _ _ _ _ (omega arith) c.word.ensures) (rw c.from.ensures at c.put-to.ensures)), i.1, i.2)

pub shape_of-out : goal.shape_of-out
shape_of-out c = let i = c.loop-k.invariant in left_long i.0

pub returns : goal.returns
returns c = let i = c.loop-k.invariant in left_done i.0 (words_none _ _ _ (omega arith))
