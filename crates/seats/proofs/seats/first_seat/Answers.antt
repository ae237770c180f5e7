-- `first_seat` meets its contract, and the seat lies inside the listing.
-- Assumes nothing.
use mathlib.Core.Path.{sym, ◌∙◌}
use native.Mathlib.Omega.{arith}
use borrow.Author.Tests.{ne_eqb}
use Rattle.base.proofs.FoundLaws.{place_found, none_found}
use Rattle.sids.proofs.SidLaws.{sid_end_bounds}
use Rattle.seats.proofs.SeatsLaws.{first_seat_none, first_seat_some}
use Rattle.seats.proofs.seats.first_seat.Goals as goal

pub returns-in_err-to-clause-value : goal.returns-in_err-to-clause-value
returns-in_err-to-clause-value c =
    rw (c.from_residual.ensures, first_seat_none c.args.s.now c.args.at (none_found _ c.in_err-to.ensures.value))

pub returns-clause-value : goal.returns-clause-value
returns-clause-value c =
    let p = place_found _ c.in_ok-to.to c.in_ok-to.ensures.value in
    rw (first_seat_some c.args.s.now c.args.at c.in_ok-to.to (sym p.is) p.there _ c.onward-next.ensures.value, ne_eqb c.in_ok-to.to 0 p.there)

pub returns-clause-seat_lies : goal.returns-clause-seat_lies
returns-clause-seat_lies c =
    let p = place_found _ c.in_ok-to.to c.in_ok-to.ensures.value in
    let b = sid_end_bounds c.args.s.now c.args.at (λ z. p.there (sym p.is ∙ z)) in
    (omega (arith, b.0, p.is), (c.in_ok-to.ensures.upper_bound, c.onward-next.ensures.upper_bound))
