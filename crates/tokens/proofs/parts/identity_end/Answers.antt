-- `identity_end` meets its contract: an identity that stands whole ends after its head and its words. Assumes nothing.
use native.Mathlib.Omega.{arith}
use Rattle.sids.proofs.SidLaws.{SidAt, sid_at}
use Rattle.tokens.proofs.parts.identity_end.Goals as goal

pub overflow_add-result : goal.overflow_add-result
overflow_add-result c =
    let a : SidAt c.args.s.now c.args.at = sid_at c.args.s.now c.args.at c.requires in
    record { fits = omega arith }

pub overflow_add-at : goal.overflow_add-at
overflow_add-at c =
    let a : SidAt c.args.s.now c.args.at = sid_at c.args.s.now c.args.at c.requires in
    record { fits = omega arith }

pub bounds-s-at : goal.bounds-s-at
bounds-s-at c =
    let a : SidAt c.args.s.now c.args.at = sid_at c.args.s.now c.args.at c.requires in
    omega arith

pub overflow_add-result-2 : goal.overflow_add-result-2
overflow_add-result-2 c =
    let a : SidAt c.args.s.now c.args.at = sid_at c.args.s.now c.args.at c.requires in
    record { fits = omega arith }

pub returns : goal.returns
returns c =
    let a : SidAt c.args.s.now c.args.at = sid_at c.args.s.now c.args.at c.requires in
    record { value = omega (arith, c.from.ensures); upper_bound = omega (arith, c.from.ensures) }
