-- `search_row` meets its contract. The invariant of both loops: the row from this number down has the SID where the whole row has it; the
-- measure is the number. Assumes nothing.
use Prim.Native.Nat.{ℕ, ◌+◌, ◌-◌}
use mathlib.Core.Bool.{Bool, ◌||◌}
use mathlib.Core.List.{List}
use mathlib.Core.Path.{◌≡◌, refl, sym, ap, ◌∙◌}
use native.Mathlib.Omega.{arith}
use lib.Dec.{eqb}
use lib.ListN.{get_or}
use Rattle.passes.specs.Chains.{last_in}
use Rattle.passes.proofs.RowLaws.{row_none, row_hit, row_more, row_four}
use Rattle.passes.proofs.search.search_row.Goals as goal

-- one of the four seats from a number down has the word
abbrev any_of : List ℕ → ℕ → ℕ → Bool
any_of seats n word =
    (eqb (last_in (get_or seats n 0)) word || eqb (last_in (get_or seats (n - 1) 0)) word)
    || (eqb (last_in (get_or seats (n - 2) 0)) word || eqb (last_in (get_or seats (n - 3) 0)) word)

pub fours-init : goal.fours-init
fours-init c = (c.requires, refl)

pub fours-preserved : goal.fours-preserved
fours-preserved c =
    let a = c.args in (
      omega (arith, c.fours.invariant.0),
      c.fours.invariant.1
          ∙ row_four a.allow a.seats.now a.listing.now a.w.now c.fours.n c.fours-test.true
          (ap (λ (v : ℕ). any_of a.seats.now c.fours.n v) (sym c.last-word.ensures)
          ∙ sym c.one_ends.ensures ∙ c.if-one_ends.false),
    )

pub loop-i-init : goal.loop-i-init
loop-i-init c =
    let same : c.fours.n + 1 - 1 ≡ c.fours.n = omega arith in
    (omega arith, (omega arith, rw same c.fours.invariant.1))

pub sits-requires : goal.sits-requires
sits-requires c = c.last-word.ensures

pub returns-then-sits : goal.returns-then-sits
returns-then-sits c =
    let a = c.args in
    sym (c.loop-i.invariant.1.1
    ∙ row_hit a.allow a.seats.now a.listing.now a.w.now (c.loop-i.i - 1) (c.loop-i.i - 1 - 1) _ (omega (arith, c.loop-i-test.true)) refl
    (sym c.sits.ensures ∙ c.if-sits.true))

pub loop-i-preserved : goal.loop-i-preserved
loop-i-preserved c =
    let a = c.args in
    let last = c.loop-i.auto.i in (
      omega (arith, c.loop-i-test.true),
      (
        omega (arith, last),
        c.loop-i.invariant.1.1
            ∙ row_more a.allow a.seats.now a.listing.now a.w.now (c.loop-i.i - 1) (c.loop-i.i - 1 - 1) _ (omega (
              arith,
              c.loop-i-test.true,
            )) refl (sym c.sits.ensures ∙ c.if-sits.false),
      ),
    )

pub returns : goal.returns
returns c =
    let a = c.args in
    sym (c.loop-i.invariant.1.1 ∙ row_none a.allow a.seats.now a.listing.now a.w.now (c.loop-i.i - 1) (omega (arith, c.loop-i-test.false)))
