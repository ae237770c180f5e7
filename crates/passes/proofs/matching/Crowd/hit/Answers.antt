-- `hit` meets its contract: an empty SID, a virtual one and one whose chain is empty stand for nobody, any other as it is
-- in its chain.
-- Assumes nothing.
use mathlib.Core.Bool.{Bool, true, false}
use mathlib.Core.Path.{◌≡◌, refl, sym, ap₂, ◌∙◌}
use Rattle.passes.specs.Chains.{chain}
use Rattle.passes.specs.Crowds.{shown_in}
use Rattle.passes.specs.Matching.{among, stands, hit_by}
use Rattle.passes.proofs.ChainsLaws.{among_start, chain_none}
use Rattle.passes.proofs.matching.Crowd.hit.Goals as goal
use Rattle.passes.proofs.matching.Crowd.hit.Goals.{then-is_empty-via-then-is_empty, then-is_empty-via-else-is_empty+then-is_virtual}

pub returns-then-is_empty : goal.returns-then-is_empty
unfolding stands
returns-then-is_empty c =
    elim c.then-is_empty.branch [
      | then-is_empty-via-then-is_empty w ↦ rw (sym c.is_empty.ensures ∙ w.if-is_empty.true) refl
      | then-is_empty-via-else-is_empty+then-is_virtual w ↦
          rw (sym c.is_empty.ensures ∙ w.if-is_empty.false, sym w.is_virtual.ensures ∙ w.if-is_virtual.true) refl
    ]

pub returns-then-n-eq0 : goal.returns-then-n-eq0
unfolding stands
returns-then-n-eq0 c =
    let a = c.args in
    let none : (allow : Bool) → among allow (shown_in a.self) a.w.now ≡ false =
    λ allow.
    among_start allow a.self.heads.now a.self.seats.now a.self.listing.now a.w.now c.head-n.result c.head-n.ensures.value
    ∙ chain_none allow a.self.seats.now a.self.listing.now a.w.now c.head-n.result c.if-n-eq0.true
    in
    rw (
      sym c.is_empty.ensures ∙ c.if-is_empty.false,
      sym c.is_virtual.ensures
          ∙ c.if-is_virtual.false,
      none true,
      none false,
    ) refl

pub returns : goal.returns
unfolding stands
returns c =
    let a = c.args in
    let found : (allow : Bool) → among allow (shown_in a.self) a.w.now
    ≡ among allow (chain a.self.seats.now a.self.listing.now c.head-n.result c.head-n.result) a.w.now =
    λ allow. among_start allow a.self.heads.now a.self.seats.now a.self.listing.now a.w.now c.head-n.result c.head-n.ensures.value
    in
    rw (
      sym c.is_empty.ensures ∙ c.if-is_empty.false,
      sym c.is_virtual.ensures
          ∙ c.if-is_virtual.false,
      found true,
      found false,
    ) (ap₂ hit_by c.search_chain.ensures c.search_chain-2.ensures)
