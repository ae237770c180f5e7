-- `sits` meets its contract: the last words are compared first, then the cell's place and its side are tested, then the bytes.
-- Assumes nothing.
use mathlib.Core.Path.{sym, ap, ◌∙◌}
use native.Mathlib.Omega.{arith}
use lib.Dec.{eqb}
use Rattle.passes.specs.Chains.{last_in}
use Rattle.passes.proofs.SitsLaws.{sits_other, sits_out, sits_idle, sits_same}
use Rattle.passes.proofs.search.sits.Goals as goal

pub returns-then-not-ends : goal.returns-then-not-ends
returns-then-not-ends c =
    let a = c.args in
    sym (sits_other a.allow a.listing.now a.x a.w.now
    (ap (eqb (last_in a.x)) (sym c.requires) ∙ sym c.ends.ensures ∙ c.if-not-ends.true))

pub returns-then-listing-to : goal.returns-then-listing-to
returns-then-listing-to c =
    let a = c.args in
    sym (sits_out a.allow a.listing.now a.x a.w.now c.if-listing-to.true)

pub returns-else-ready : goal.returns-else-ready
returns-else-ready c =
    let a = c.args in
    c.if-ready.false ∙ sym (sits_idle a.allow a.listing.now a.x a.w.now (sym c.ready.ensures ∙ c.if-ready.false))

pub returns-then-ready : goal.returns-then-ready
returns-then-ready c =
    let a = c.args in
    c.same.ensures
    ∙ sits_same a.allow a.listing.now a.x a.w.now
    (ap (eqb (last_in a.x)) (sym c.requires)
    ∙ sym c.ends.ensures ∙ c.if-not-ends.false)
    (omega (arith, c.if-listing-to.false))
    (sym c.ready.ensures ∙ c.if-ready.true)
