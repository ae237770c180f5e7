-- `is_simple` meets its contract. The loop's invariant: the list is simple where the entries left are. Assumes nothing.
use Prim.Native.Nat.{ℕ}
use mathlib.Core.Path.{sym, ap, ◌∙◌}
use native.Mathlib.Omega.{arith}
use Rattle.base.specs.Bytes.{u16_at}
use Rattle.base.proofs.FoundLaws.{none_found, place_found}
use Rattle.lists.specs.Acl.{head_end}
use Rattle.lists.specs.Simple.{simple_at}
use Rattle.lists.proofs.SimpleLaws.{simple_start, simple_end, simple_none, simple_other, simple_unfit, simple_more}
use Rattle.lists.proofs.acl.is_simple.Goals.{then-l-at-gt1-via-then-l-at-gt1, then-l-at-gt1-via-else-l-at-gt1+then-not-fits}
use Rattle.lists.proofs.acl.is_simple.Goals as goal

pub loop-init : goal.loop-init
loop-init c =
    let a = c.args in
    simple_start a.deep a.l.now ∙ ap (λ (m : ℕ). simple_at a.deep a.l.now m 8) (omega arith)

pub returns-in_default : goal.returns-in_default
returns-in_default c =
    let a = c.args in
    let none = none_found (head_end a.l.now c.loop.at) (sym c.in_default.is ∙ c.head_end.ensures.value) in
    sym (c.loop.invariant ∙ simple_none a.deep a.l.now (u16_at a.l.now 4) c.loop.counter c.loop.at (omega arith) none)

pub returns-then-l-at-gt1 : goal.returns-then-l-at-gt1
returns-then-l-at-gt1 c =
    let a = c.args in
    let p = place_found (head_end a.l.now c.loop.at) c.in-Some.e c.in-Some.ensures.value in
    elim c.then-l-at-gt1.branch [
      | then-l-at-gt1-via-then-l-at-gt1 w ↦ sym (c.loop.invariant ∙ simple_other a.deep a.l.now (u16_at a.l.now 4) c.loop.counter
          c.loop.at c.in-Some.e (sym p.is) p.there (omega arith) w.if-l-at-gt1.true)
      | then-l-at-gt1-via-else-l-at-gt1+then-not-fits w ↦ sym (c.loop.invariant ∙ simple_unfit a.deep a.l.now (u16_at a.l.now 4) c.loop.counter
          c.loop.at c.in-Some.e (sym p.is) p.there (omega arith) w.if-l-at-gt1.false (sym w.fits.ensures ∙ w.if-not-fits.true))
    ]

pub loop-preserved : goal.loop-preserved
loop-preserved c =
    let a = c.args in
    let p = place_found (head_end a.l.now c.loop.at) c.in-Some.e c.in-Some.ensures.value in
    c.loop.invariant ∙ simple_more a.deep a.l.now (u16_at a.l.now 4) c.loop.counter c.loop.at c.in-Some.e (sym p.is) p.there
    (omega arith) c.if-l-at-gt1.false
    (sym c.fits.ensures ∙ c.if-not-fits.false)

pub returns : goal.returns
returns c =
    let a = c.args in
    sym (c.loop.invariant ∙ simple_end a.deep a.l.now (u16_at a.l.now 4) c.loop.counter c.loop.at (omega arith))
