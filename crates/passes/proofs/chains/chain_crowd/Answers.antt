-- `chain_crowd` meets its contract. The invariant: the seats from here on, chained into the tables as they are, give the whole. Assumes nothing.
use Prim.Native.Nat.{ℕ, ◌+◌, ◌-◌, ◌%◌}
use mathlib.Core.List.{List}
use mathlib.Core.Path.{◌≡◌, refl, sym, ap, ◌∙◌}
use native.Mathlib.Omega.{arith}
use lib.ListN.{set}
use Rattle.seats.specs.Seats.{first_seat, seat_at}
use Rattle.seats.proofs.SeatsLaws.{no_seat_found, some_seat_found}
use Rattle.passes.specs.Chains.{Tables, tables, chained, chains_of}
use Rattle.passes.proofs.LinkSteps.{chains_start, chained_none, chained_many, chained_last, chained_more, linked_made}
use Rattle.passes.proofs.chains.chain_crowd.Goals as goal
use Rattle.passes.proofs.chains.chain_crowd.Goals.{After-seat_at}

-- both tables, from the two together
both : (t : Tables) (heads seats : List ℕ) → t ≡ tables heads seats → (heads ≡ t.heads) × (seats ≡ t.seats)
both t heads seats e = (sym (ap (λ (u : Tables). u.heads) e), sym (ap (λ (u : Tables). u.seats) e))

pub returns-in_default : goal.returns-in_default
returns-in_default c =
    let a = c.args in
    let none = no_seat_found (first_seat a.listing.now a.at) (sym c.in_default.is ∙ c.first_seat.ensures.value) in
    let t = both _ _ _ (chains_start a.attrs a.listing.now a.at _ _ _ refl refl ∙ chained_none a.attrs a.listing.now _ 1 _ _ none) in
    record { heads_after = t.0; seats_after = t.1 }

pub loop-i-init : goal.loop-i-init
loop-i-init c =
    let a = c.args in
    let n = c.u32_at-beside.result in
    let all : n + 1 - 1 ≡ n = omega arith in
    let found = some_seat_found c.in-Some.first _ c.in-Some.ensures.value in
    record {
      from_le_to = c.in-Some.ensures.seat_lies.0;
      inside = c.in-Some.ensures.seat_lies.1.0;
      there = found.there;
      few = omega arith;
      whole = rw all (chains_start a.attrs a.listing.now a.at n c.in-Some.first _ found.is c.u32_at-beside.ensures);
    }

pub returns-then-beside-i : goal.returns-then-beside-i
returns-then-beside-i c =
    let a = c.args in
    let t = both _ _ _ (c.loop-i.invariant.whole
    ∙ chained_last a.attrs a.listing.now _ c.loop-i.i c.loop-i.seat _ c.loop-i.invariant.there
    (omega (arith, c.loop-i-test.true, c.loop-i.auto.seats))
    (omega (arith, c.if-beside-i.true))
    ∙ linked_made a.listing.now _ _ c.loop-i.i c.key-k.result c.last.result c.cell.result c.loop-i.seat c.key-k.ensures.value c.last.ensures
    c.cell.ensures) in
    record { heads_after = t.0; seats_after = t.1 }

-- one seat linked, and the seats from the next one on
after : (c : After-seat_at) →
    let a = c.args in
    let i = c.loop-i.i in
    chains_of a.attrs a.listing.now a.at (tables a.heads.now a.seats.now)
    ≡ chained a.attrs a.listing.now (tables (set c.loop-i.heads c.key-k.result (i % 65536)) (set c.loop-i.seats i c.cell.result)) (i + 1)
    (c.u32_at-beside.result + 1 - (i + 1)) (seat_at a.attrs a.listing.now c.loop-i.seat.next)
after c =
    let a = c.args in
    let n = c.u32_at-beside.result in
    let i = c.loop-i.i in
    c.loop-i.invariant.whole
    ∙ chained_more a.attrs a.listing.now _ i c.loop-i.seat _ c.loop-i.invariant.there (omega (arith, c.loop-i-test.true, c.loop-i.auto.seats))
    (n + 1 - (i + 1)) _ (omega (arith, c.if-beside-i.false)) refl
    ∙ ap (λ (t : Tables). chained a.attrs a.listing.now t (i + 1) (n + 1 - (i + 1)) (seat_at a.attrs a.listing.now c.loop-i.seat.next))
    (linked_made a.listing.now _ _ i c.key-k.result c.last.result c.cell.result c.loop-i.seat c.key-k.ensures.value c.last.ensures c.cell.ensures)

pub returns-in_default-seat_at : goal.returns-in_default-seat_at
returns-in_default-seat_at c =
    let a = c.args in
    let none = no_seat_found (seat_at a.attrs a.listing.now c.loop-i.seat.next) (sym c.in_default-seat_at.is ∙ c.seat_at.ensures.value) in
    let t = both _ _ _ (after (goal.at.returns-in_default-seat_at c).After-seat_at ∙ chained_none a.attrs a.listing.now _ _ _ _ none) in
    record { heads_after = t.0; seats_after = t.1 }

pub loop-i-preserved : goal.loop-i-preserved
loop-i-preserved c =
    let a = c.args in
    let found = some_seat_found c.in-Some-seat_at.after _ c.in-Some-seat_at.ensures.value in
    record {
      from_le_to = c.in-Some-seat_at.ensures.seat_lies.0;
      inside = c.in-Some-seat_at.ensures.seat_lies.1.0;
      there = found.there;
      few = omega (arith, c.if-beside-i.false);
      whole = rw found.is (after (goal.at.loop-i-preserved c).After-seat_at);
    }

pub returns : goal.returns
returns c =
    let a = c.args in
    let t = both _ _ _ (c.loop-i.invariant.whole
    ∙ chained_many a.attrs a.listing.now _ c.loop-i.i c.loop-i.seat _ (omega (arith, c.loop-i-test.false, c.loop-i.auto.seats))) in
    record { heads_after = t.0; seats_after = t.1 }
