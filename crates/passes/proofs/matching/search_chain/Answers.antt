-- `search_chain` meets its contract. The invariant: the chain from this number on, or the row from it down, has the SID where the chain
-- from the first seat on has it; the measure is the number. Assumes nothing.
use Prim.Native.Nat.{ℕ, suc, ◌-◌}
use mathlib.Core.Bool.{Bool, true, false, cond, ◌||◌, or-true, or-false}
use mathlib.Core.List.{List}
use mathlib.Core.Path.{◌≡◌, refl, sym, ap, ◌∙◌}
use native.Mathlib.Omega.{arith}
use lib.ListN.{get_or}
use Rattle.base.proofs.BoolLaws.{neither}
use Rattle.passes.specs.Chains.{next_in, sits_in, near, row, chain}
use Rattle.passes.specs.Matching.{among}
use Rattle.passes.proofs.ChainsLaws.{chain_none, chain_hit, chain_near, chain_more, far_below}
use Rattle.passes.proofs.RowLaws.{row_none, row_hit, row_more}
use Rattle.passes.proofs.matching.search_chain.Goals as goal
use Rattle.passes.proofs.matching.search_chain.Goals.{Joined-is_near, then-is_near, else-is_near}

-- ---- one seat, whether it is of a chain or of the row
module _ (allow : Bool) (seats s w : List ℕ) (n : ℕ) where
  abbrev Left : Bool → Bool
  Left down = among allow (cond down (row seats s n) (chain seats s n n)) w

  none : (down : Bool) → n ≡ 0 → Left down ≡ false
  none true z = row_none allow seats s w n z
  none false z = chain_none allow seats s w n z

  module _ (less x : ℕ) (one : n ≡ suc less) (here : x ≡ get_or seats n 0) where
    hit : (down : Bool) → sits_in allow s x w ≡ true → Left down ≡ true
    hit true e = row_hit allow seats s w n less x one here e
    hit false e = chain_hit allow seats s w n less x one here e

    miss : (down by : Bool) (after : ℕ) → sits_in allow s x w ≡ false → after ≡ next_in x → by ≡ near n after →
        Left down ≡ among allow (cond (down || by) (row seats s less) (chain seats s after after)) w
    miss true by after e p q = row_more allow seats s w n less x one here e
    miss false true after e p q = chain_near allow seats s w n less x one here e (ap (near n) (sym p) ∙ sym q)
    miss false false after e p q = chain_more allow seats s w n less x one here after e p (sym q)

-- down the row: before, or from here on
turned : (c : Joined-is_near) → c.if-is_near.down ≡ (c.loop-n.down || c.is_near.result)
turned c =
    elim c.if-is_near.branch [
      | then-is_near w ↦ w.down-is ∙ sym (ap (λ (b : Bool). c.loop-n.down || b) w.if-is_near.true ∙ or-true c.loop-n.down)
      | else-is_near w ↦ w.down-is ∙ sym (ap (λ (b : Bool). c.loop-n.down || b) w.if-is_near.false ∙ or-false c.loop-n.down)
    ]

-- the seat is not the SID's
stepped : (c : Joined-is_near) (down : Bool) → c.if-is_near.down ≡ down →
    let a = c.args in
    let n = c.loop-n.n in
    let after = c.next-after.result in
    among a.allow (chain a.seats.now a.listing.now a.first a.first) a.w.now
    ≡ among a.allow (cond down (row a.seats.now a.listing.now (n - 1))
    (chain a.seats.now a.listing.now after after)) a.w.now
stepped c down e =
    let a = c.args in
    let after = c.next-after.result in
    c.loop-n.invariant.1
    ∙ miss a.allow a.seats.now a.listing.now a.w.now c.loop-n.n (c.loop-n.n - 1) _
    (omega (arith, c.if-n-eq0.false)) refl
    c.loop-n.down c.is_near.result after
    (sym c.sits.ensures ∙ c.if-sits.false)
    c.next-after.ensures.0 c.is_near.ensures
    ∙ ap (λ (b : Bool). among a.allow (cond b (row a.seats.now a.listing.now (c.loop-n.n - 1))
    (chain a.seats.now a.listing.now after after)) a.w.now) (sym (turned c) ∙ e)

pub loop-n-init : goal.loop-n-init
loop-n-init c = (c.requires, refl)

pub returns-then-n-eq0 : goal.returns-then-n-eq0
returns-then-n-eq0 c =
    let a = c.args in
    sym (c.loop-n.invariant.1 ∙ none a.allow a.seats.now a.listing.now a.w.now c.loop-n.n c.loop-n.down c.if-n-eq0.true)

pub returns-then-sits : goal.returns-then-sits
returns-then-sits c =
    let a = c.args in
    sym (c.loop-n.invariant.1 ∙ hit a.allow a.seats.now a.listing.now a.w.now c.loop-n.n (c.loop-n.n - 1) _
    (omega (arith, c.if-n-eq0.false)) refl c.loop-n.down (sym c.sits.ensures ∙ c.if-sits.true))

pub loop-n-preserved-then-down : goal.loop-n-preserved-then-down
loop-n-preserved-then-down c =
    let a = c.args in (
      omega (arith, c.loop-n.invariant.0),
      stepped (goal.at.loop-n-preserved-then-down c).Joined-is_near true c.if-down.true
          ∙ ap (Left a.allow a.seats.now a.listing.now a.w.now (c.loop-n.n - 1)) (sym c.if-down.true),
    )

pub loop-n-smaller : goal.loop-n-smaller
loop-n-smaller c =
    far_below c.loop-n.n c.next-after.result c.if-n-eq0.false
    (sym c.is_near.ensures ∙ (neither c.loop-n.down c.is_near.result (sym (turned (goal.at.loop-n-smaller c).Joined-is_near) ∙ c.if-down.false)).1)

pub loop-n-preserved : goal.loop-n-preserved
loop-n-preserved c =
    let less = far_below c.loop-n.n c.next-after.result c.if-n-eq0.false
    (sym c.is_near.ensures ∙ (neither c.loop-n.down c.is_near.result (sym (turned (goal.at.loop-n-preserved c).Joined-is_near) ∙ c.if-down.false)).1) in
    let a = c.args in (
      omega (arith, less, c.loop-n.invariant.0),
      stepped (goal.at.loop-n-preserved c).Joined-is_near false c.if-down.false
          ∙ ap (Left a.allow a.seats.now a.listing.now a.w.now c.next-after.result)
          (sym c.if-down.false),
    )
