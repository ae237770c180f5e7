-- `put` meets its contract. The loop's invariant: noting the number at `o` is noting the groups that are left at `i` (Packs). The measure
-- is the number that is left. Assumes nothing.
use Prim.Native.Nat.{◌+◌, ◌<◌}
use native.Mathlib.Omega.{arith}
use lib.ListN.{length}
use Rattle.base.specs.Sevens.{packed}
use Rattle.base.proofs.SevensLaws.{packed_length_64}
use Rattle.audit.proofs.NotingLaws.{packs_start, packs_place, packs_room, packs_more, packs_last, noted_long}
use Rattle.audit.proofs.writing.put.Goals as goal

pub loop-n-init : goal.loop-n-init
loop-n-init c = (packs_start c.args.write c.args.out.now c.args.o c.args.v c.ranges.v.fits, c.ranges.v.fits, omega arith)

pub store-requires : goal.store-requires
store-requires c =
    let i = c.loop-n.invariant in
    packs_room i.0 c.requires.1

pub loop-n-preserved : goal.loop-n-preserved
loop-n-preserved c =
    let i = c.loop-n.invariant in
    let y = c.store.ensures in
    let p = packs_more i.0 _ c.loop-n-test.true y in
    let r : c.loop-n.i + 1 < c.args.o + length (packed c.args.v) = packs_place p in
    (p, omega arith, omega (arith, packed_length_64 c.args.v c.ranges.v.fits))

pub store-requires-2 : goal.store-requires-2
store-requires-2 c =
    let i = c.loop-n.invariant in
    packs_room i.0 c.requires.1

pub shape_of-out : goal.shape_of-out
shape_of-out c =
    let i = c.loop-n.invariant in
    noted_long (packs_last i.0 _ c.loop-n-test.false c.store-2.ensures)

pub returns : goal.returns
returns c =
    let i = c.loop-n.invariant in
    packs_last i.0 _ c.loop-n-test.false c.store-2.ensures
