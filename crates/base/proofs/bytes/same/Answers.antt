-- `same` meets its contract: where eight bytes differ the lists do, and where none do they are the same. Assumes nothing.
use Prim.Native.Nat.{◌+◌, ◌-◌}
use mathlib.Core.Path.{◌≡◌, sym, ◌∙◌}
use native.Mathlib.Omega.{arith}
use lib.ListN.{length}
use Rattle.base.specs.Bytes.{u64_at}
use Rattle.base.proofs.BytesLaws.{same_false_of_length, bytes_of_lt}
use Rattle.base.proofs.EightLaws.{eight_miss, eight_hit, eight_end}
use Rattle.base.proofs.bytes.same.Goals as goal

pub returns-then-a-b : goal.returns-then-a-b
returns-then-a-b c = sym (same_false_of_length _ _ c.if-a-b.true)

pub returns-then-u64_at : goal.returns-then-u64_at
returns-then-u64_at c =
    let ea = c.u64_at.ensures in
    let eb = c.u64_at-2.ensures in
    sym (eight_miss _ _ _ (λ e. c.if-u64_at.true (ea ∙ e ∙ sym eb)))

pub returns-then-u64_at-2 : goal.returns-then-u64_at-2
returns-then-u64_at-2 c =
    let ea = c.u64_at-in-loop-i.ensures in
    let eb = c.u64_at-in-loop-i-2.ensures in
    sym (eight_miss _ _ _ (λ e. c.if-u64_at-2.true (ea ∙ e ∙ sym eb)))

pub loop-i-preserved : goal.loop-i-preserved
loop-i-preserved c =
    let i = c.loop-i.i in
    let a = c.args.a.now in
    let b = c.args.b.now in
    let ba = bytes_of_lt a (λ j l. (c.type_inv.a j).fits) in
    let bb = bytes_of_lt b (λ j l. (c.type_inv.b j).fits) in
    let e : u64_at a i ≡ u64_at b i = omega arith in
    eight_hit a b ba bb c.if-a-b.false i (omega arith) c.loop-i.invariant e

pub returns-else-u64_at : goal.returns-else-u64_at
returns-else-u64_at c =
    let a = c.args.a.now in
    let b = c.args.b.now in
    let k = length a - 8 in
    let ba = bytes_of_lt a (λ j l. (c.type_inv.a j).fits) in
    let bb = bytes_of_lt b (λ j l. (c.type_inv.b j).fits) in
    let e : u64_at a k ≡ u64_at b k = omega arith in
    sym (eight_end a b ba bb c.if-a-b.false c.loop-i.i k (omega arith) (omega arith) c.loop-i.invariant e)

pub returns-else-u64_at-2 : goal.returns-else-u64_at-2
returns-else-u64_at-2 c =
    let i = c.loop-i.i in
    let a = c.args.a.now in
    let b = c.args.b.now in
    let k = length a - 8 in
    let ba = bytes_of_lt a (λ j l. (c.type_inv.a j).fits) in
    let bb = bytes_of_lt b (λ j l. (c.type_inv.b j).fits) in
    let e : u64_at a k ≡ u64_at b k = omega arith in
    let f : u64_at a i ≡ u64_at b i = omega arith in
    let p = eight_hit a b ba bb c.if-a-b.false i (omega arith) c.loop-i.invariant f in
    sym (eight_end a b ba bb c.if-a-b.false (i + 8) k (omega arith) (omega arith) p e)
