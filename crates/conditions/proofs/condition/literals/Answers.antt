-- `literals` meets its contract. The loop's invariant: the composite comes to what its bytes from `at` on come to, in some number of steps
-- that is enough for them. The measure is what is left. Assumes nothing.
use mathlib.Core.Path.{sym, ap, ◌∙◌}
use native.Mathlib.Omega.{arith}
use Rattle.conditions.specs.Condition.{literal_end}
use Rattle.conditions.specs.Scanning.{scan_result}
use Rattle.conditions.proofs.OperandLaws.{listing_start, listing_end, listing_stray, listing_broken, listing_more}
use Rattle.base.proofs.FoundLaws.{none_found, place_found}
use Rattle.conditions.proofs.condition.literals.Goals as goal

pub loop-at-init : goal.loop-at-init
loop-at-init c = (omega arith, listing_start c.args.c.now)

pub returns-then-c-at-ne81 : goal.returns-then-c-at-ne81
returns-then-c-at-ne81 c =
    let l = c.args.c.now in
    c.stray.ensures ∙ sym (ap scan_result (listing_stray l c.loop-at.at c.loop-at.invariant.1 (omega arith) c.if-c-at-ne81.true))

pub returns-in_default : goal.returns-in_default
returns-in_default c =
    let l = c.args.c.now in
    let none = none_found (literal_end l c.loop-at.at) (sym c.in_default.is ∙ c.literal_end.ensures.value) in
    sym (ap scan_result (listing_broken l c.loop-at.at c.loop-at.invariant.1 (omega arith) (omega arith) none))

pub loop-at-preserved : goal.loop-at-preserved
loop-at-preserved c =
    let l = c.args.c.now in
    let e = c.in-Some.e in
    let k = place_found (literal_end l c.loop-at.at) e c.in-Some.ensures.value in
    (omega (arith, c.in-Some.ensures.inside.1), listing_more l c.loop-at.at e c.loop-at.invariant.1 (omega arith) (omega arith) (sym k.is) k.there)

pub returns : goal.returns
returns c = sym (ap scan_result (listing_end c.args.c.now c.loop-at.at c.loop-at.invariant.1 (omega arith)))
