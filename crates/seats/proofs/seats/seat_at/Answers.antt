-- `seat_at` meets its contract with and without an attribute word, and the seat lies inside the listing.
-- Assumes nothing.
use mathlib.Core.Path.{sym, ap, ◌∙◌}
use native.Mathlib.Omega.{arith}
use borrow.Author.Tests.{ne_eqb}
use Rattle.base.proofs.FoundLaws.{place_found, none_found}
use Rattle.sids.proofs.SidLaws.{sid_end_bounds}
use Rattle.seats.specs.Seats.{allow_word, deny_word}
use Rattle.seats.proofs.SeatsLaws.{seat_at_none, seat_at_plain, seat_at_word}
use Rattle.seats.proofs.seats.seat_at.Goals as goal

pub returns-in_err-to-clause-value : goal.returns-in_err-to-clause-value
returns-in_err-to-clause-value c =
    let a = c.args in
    rw (c.from_residual.ensures, seat_at_none a.s.now a.at a.attrs (none_found _ c.in_err-to.ensures.value))

pub returns-then-not-attrs-clause-value : goal.returns-then-not-attrs-clause-value
returns-then-not-attrs-clause-value c =
    let a = c.args in
    let p = place_found _ c.in_ok-to.to c.in_ok-to.ensures.value in
    rw (
      c.if-not-attrs.true,
      seat_at_plain a.s.now a.at c.in_ok-to.to (sym p.is) p.there c.in_ok-to.ensures.upper_bound,
      ne_eqb c.in_ok-to.to 0 p.there,
    )

pub returns-then-not-attrs-clause-seat_lies : goal.returns-then-not-attrs-clause-seat_lies
returns-then-not-attrs-clause-seat_lies c =
    let p = place_found _ c.in_ok-to.to c.in_ok-to.ensures.value in
    let b = sid_end_bounds c.args.s.now c.args.at (λ z. p.there (sym p.is ∙ z)) in
    (omega (arith, b.0, p.is), (c.in_ok-to.ensures.upper_bound, c.in_ok-to.ensures.upper_bound))

pub returns-clause-value : goal.returns-clause-value
returns-clause-value c =
    let a = c.args in
    let p = place_found _ c.in_ok-to.to c.in_ok-to.ensures.value in
    let w = c.u32_at.ensures in
    let q = seat_at_word a.s.now a.at c.in_ok-to.to (sym p.is) p.there c.onward-next.result c.allows.result c.denies.result
    c.onward-next.ensures.value (c.allows.ensures ∙ ap allow_word w) (c.denies.ensures ∙ ap deny_word w) in
    rw (c.if-not-attrs.false, q, ne_eqb c.in_ok-to.to 0 p.there)

pub returns-clause-seat_lies : goal.returns-clause-seat_lies
returns-clause-seat_lies c =
    let p = place_found _ c.in_ok-to.to c.in_ok-to.ensures.value in
    let b = sid_end_bounds c.args.s.now c.args.at (λ z. p.there (sym p.is ∙ z)) in
    (omega (arith, b.0, p.is), (c.in_ok-to.ensures.upper_bound, c.onward-next.ensures.upper_bound))
