-- `longer` meets its contract: the groups that were read stand among those of the number. Assumes nothing.
use Prim.Native.Nat.{◌+◌, ◌-◌}
use mathlib.Core.Path.{sym, ap, ◌∙◌}
use native.Mathlib.Omega.{arith}
use Rattle.base.specs.Sevens.{num_of}
use Rattle.base.proofs.LongerLaws.{within_lt, group_lt, shifted, beside_fits}
use Rattle.base.proofs.LongerLaws.{among_first, among_next, among_cut, among_wide, last_wide, last_zero, last_some}
use Rattle.base.proofs.sevens.longer.Goals as goal

pub loop-place-init : goal.loop-place-init
loop-place-init c =
    let a = c.args in
    let p = c.requires in
    (omega arith, p.0, p.1, among_first a.bits a.s.now a.at c.from-value.result c.from-value.ensures p.2 (omega arith) (omega arith) p.0)

pub within-requires : goal.within-requires
within-requires c = let i = c.loop-place.invariant in omega (arith, i.0, i.1, i.2)

pub returns-in_err-high : goal.returns-in_err-high
returns-in_err-high c =
    let a = c.args in
    let l = c.loop-place in
    c.from_residual.ensures ∙ last_wide a.bits a.s.now a.at l.value l.shift l.place l.invariant.3 c.from-b.result c.from-b.ensures
    (omega arith) c.if-b-lt128.true c.in_err-high.ensures

pub returns-then-high-eq0 : goal.returns-then-high-eq0
returns-then-high-eq0 c =
    let a = c.args in
    let l = c.loop-place in
    last_zero a.bits a.s.now a.at l.value l.shift l.place l.invariant.3 c.from-b.result c.from-b.ensures (omega arith) c.if-b-lt128.true
    c.in_ok-high.high c.in_ok-high.ensures c.if-high-eq0.true

pub overflow_add-result : goal.overflow_add-result
overflow_add-result c =
    let a = c.args in
    let i = c.loop-place.invariant in
    let r = c.in_ok-high.high in
    let w = within_lt (a.bits - c.loop-place.shift) c.from-b.result (c.loop-place.place + 1) r c.in_ok-high.ensures in
    omega (arith, beside_fits a.bits c.loop-place.shift r.value i.2 i.1 w c.loop-place.value i.3.low)

pub returns-then-b-lt128 : goal.returns-then-b-lt128
returns-then-b-lt128 c =
    let a = c.args in
    let l = c.loop-place in
    let i = l.invariant in
    let r = c.in_ok-high.high in
    let w = within_lt (a.bits - l.shift) c.from-b.result (l.place + 1) r c.in_ok-high.ensures in
    let e = shifted a.bits l.shift r.value i.2 i.1 w in
    rw e (last_some a.bits a.s.now a.at l.value l.shift l.place i.3 c.from-b.result c.from-b.ensures (omega arith) c.if-b-lt128.true
    r c.in_ok-high.ensures c.if-high-eq0.false)

pub returns-then-left-le7 : goal.returns-then-left-le7
unfolding num_of
returns-then-left-le7 c =
    let a = c.args in
    let l = c.loop-place in
    sym (ap num_of (among_wide a.bits a.s.now a.at l.value l.shift l.place l.invariant.3 c.from-b.result c.from-b.ensures (omega arith) c.if-b-lt128.false (omega arith)))

pub overflow_add-value : goal.overflow_add-value
overflow_add-value c =
    let a = c.args in
    let i = c.loop-place.invariant in
    let w = group_lt (a.bits - c.loop-place.shift) c.from-b.result (omega arith) c.if-left-le7.false in
    omega (arith, beside_fits a.bits c.loop-place.shift (c.from-b.result - 128) i.2 i.1 w c.loop-place.value i.3.low)

pub loop-place-preserved : goal.loop-place-preserved
loop-place-preserved c =
    let a = c.args in
    let i = c.loop-place.invariant in
    let w = group_lt (a.bits - c.loop-place.shift) c.from-b.result (omega arith) c.if-left-le7.false in
    let e = shifted a.bits c.loop-place.shift (c.from-b.result - 128) i.2 i.1 w in
    let n = among_next a.bits a.s.now a.at c.loop-place.value c.loop-place.shift c.loop-place.place i.3 c.from-b.result c.from-b.ensures
    (omega arith) c.if-b-lt128.false (omega arith) c.if-left-le7.false in
    (omega arith, omega arith, i.2, rw e n)

pub returns : goal.returns
unfolding num_of
returns c =
    let a = c.args in
    let l = c.loop-place in
    sym (ap num_of (among_cut a.bits a.s.now a.at l.value l.shift l.place l.invariant.3 (omega arith)))
