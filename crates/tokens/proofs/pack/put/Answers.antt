-- `put` meets its contract. A number below 128 is its own byte, and one of five groups is written by `put_five`. The loop's invariant:
-- writing the number at `o` is writing the groups that are left at `i` (Writes), where there is room. The measure is the number that is
-- left. Assumes nothing.
use native.Mathlib.Omega.{arith}
use mathlib.Core.Path.{refl}
use lib.ListN.{length-set}
use Rattle.base.proofs.WriteLaws.{writes_start, writes_room, writes_more, writes_last}
use Rattle.tokens.proofs.pack.put.Goals as goal

pub bounds-out-o : goal.bounds-out-o
bounds-out-o c =
    let r = writes_room (writes_start c.args.out.now c.args.o c.args.v c.ranges.v.fits) in
    omega (arith, c.requires)

pub returns-then-v-lt128 : goal.returns-then-v-lt128
returns-then-v-lt128 c = writes_last (writes_start c.args.out.now c.args.o c.args.v c.ranges.v.fits) c.if-v-lt128.true

pub put_five-requires : goal.put_five-requires
put_five-requires c = (c.if-v-ge268435456.true, c.if-v-lt34359738368.true, c.requires)

pub returns-then-v-lt34359738368 : goal.returns-then-v-lt34359738368
returns-then-v-lt34359738368 c = c.put_five.ensures

pub loop-n-init : goal.loop-n-init
loop-n-init c =
    let w = writes_start c.args.out.now c.args.o c.args.v c.ranges.v.fits in
    let r = writes_room w in
    (w, c.ranges.v.fits, refl, omega (arith, c.requires))

pub loop-n-preserved : goal.loop-n-preserved
loop-n-preserved c =
    let i = c.loop-n.invariant in
    let w = writes_more i.0 c.loop-n-test.true in
    let r = writes_room w in
    (w, omega arith, simp length-set i.2, simp length-set (omega (arith, c.requires, i.2)))

pub returns : goal.returns
returns c = writes_last c.loop-n.invariant.0 c.loop-n-test.false
