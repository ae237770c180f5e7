-- `mixed` meets its contract: the last pair, the two first ones after the authority where they stand, and the others in a loop. The
-- invariant: the pairs from here on, mixed into this number, give the whole.
-- Assumes nothing.
use Prim.Native.Nat.{ℕ, ◌+◌, ◌-◌, ◌<◌}
use mathlib.Core.List.{List}
use mathlib.Core.Path.{◌≡◌, sym, ◌∙◌}
use native.Mathlib.Omega.{arith}
use lib.Bits.{bit_xor}
use lib.ListN.{length}
use Rattle.base.specs.Bytes.{u64_at}
use Rattle.seats.specs.Key.{mixed}
use Rattle.seats.proofs.KeyLaws.{Mixing, mixed_short, mixed_start, mixed_more, mixed_end}
use Rattle.seats.proofs.keys.mixed.Goals as goal

-- the last pair and the first one
two : (w : List ℕ) → length w - 8 + 8 ≡ length w → (x y : ℕ) → x ≡ u64_at w (length w - 8) → y ≡ u64_at w 8 → 8 < length w - 8 →
    mixed w ≡ Mixing w (length w - 8) 16 (bit_xor x y)
two w k x y e f h = mixed_start w (length w - 8) k x e ∙ mixed_more w (length w - 8) k 8 x h ∙ rw (f)

pub returns-then-w-lt8 : goal.returns-then-w-lt8
returns-then-w-lt8 c = sym (mixed_short c.args.w.now c.if-w-lt8.true)

pub returns-then-k-le8 : goal.returns-then-k-le8
returns-then-k-le8 c =
    let w = c.args.w.now in
    let k : length w - 8 + 8 ≡ length w = omega (arith, c.if-w-lt8.false) in
    sym (mixed_start w (length w - 8) k c.u64_at-end.result c.u64_at-end.ensures
    ∙ mixed_end w (length w - 8) k 8 c.u64_at-end.result c.if-k-le8.true)

pub returns-then-k-le16 : goal.returns-then-k-le16
returns-then-k-le16 c =
    let w = c.args.w.now in
    let k : length w - 8 + 8 ≡ length w = omega (arith, c.if-w-lt8.false) in
    sym (two w k c.u64_at-end.result c.u64_at.result c.u64_at-end.ensures
    c.u64_at.ensures (omega (arith, c.if-k-le8.false))
    ∙ mixed_end w (length w - 8) k 16 _ c.if-k-le16.true)

pub loop-i-init : goal.loop-i-init
loop-i-init c =
    let w = c.args.w.now in
    let k : length w - 8 + 8 ≡ length w = omega (arith, c.if-w-lt8.false) in
    let more : 16 < length w - 8 = omega (arith, c.if-k-le16.false) in (
      k,
      two w k c.u64_at-end.result c.u64_at.result c.u64_at-end.ensures c.u64_at.ensures (omega arith)
          ∙ mixed_more w (length w - 8) k 16 _ more
          ∙ rw c.u64_at-2.ensures,
    )

pub loop-i-preserved : goal.loop-i-preserved
loop-i-preserved c =
    let w = c.args.w.now in
    let i = c.loop-i.invariant in
    (i.0, i.1 ∙ mixed_more w (length w - 8) i.0 c.loop-i.i c.loop-i.x c.loop-i-test.true ∙ rw c.u64_at-x.ensures)

pub returns-else-k-le16 : goal.returns-else-k-le16
returns-else-k-le16 c =
    let w = c.args.w.now in
    let i = c.loop-i.invariant in
    sym (i.1 ∙ mixed_end w (length w - 8) i.0 c.loop-i.i c.loop-i.x (omega arith))

pub returns-else-k-le16-2 : goal.returns-else-k-le16-2
returns-else-k-le16-2 c =
    let w = c.args.w.now in
    let i = c.loop-i.invariant in
    sym (i.1 ∙ mixed_more w (length w - 8) i.0 c.loop-i.i c.loop-i.x c.loop-i-test.true
    ∙ rw c.u64_at-x.ensures (mixed_end w (length w - 8) i.0 (c.loop-i.i + 8) _ (omega arith)))
