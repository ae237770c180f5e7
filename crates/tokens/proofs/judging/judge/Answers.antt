-- `judge` meets its contract: heading and flags first, then the people.
-- Assumes nothing.
use mathlib.Core.Path.{sym}
use native.Mathlib.Omega.{arith}
use Rattle.tokens.specs.Judging.{judged_of}
use Rattle.tokens.proofs.JudgePeople.{listing_cut, listing_flags, listing_people}
use Rattle.tokens.proofs.judging.judge.Goals as goal

pub returns-then-s-lt12-clause-value : goal.returns-then-s-lt12-clause-value
unfolding judged_of
returns-then-s-lt12-clause-value c = rw (listing_cut _ c.if-s-lt12.true)

pub returns-then-flags-gt3-clause-value : goal.returns-then-flags-gt3-clause-value
unfolding judged_of
returns-then-flags-gt3-clause-value c = rw (listing_flags c.args.s.now c.if-s-lt12.false (omega (arith, c.u32_at-flags.ensures)))

pub returns-clause-value : goal.returns-clause-value
returns-clause-value c =
    let l = listing_people c.args.s.now c.if-s-lt12.false (omega (arith, c.u32_at-flags.ensures)) in
    rw (l, sym c.u32_at-flags.ensures) (c.judge_people.ensures.by_index _)
