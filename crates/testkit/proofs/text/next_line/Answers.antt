-- `next_line` meets its contract: the first line end of what is left decides.
-- Assumes nothing.
use Rattle.std.proofs.Common.{arith, sym, length, drop, length-drop}
use Rattle.testkit.proofs.TextLaws.{next_past, next_in_lem, line_found, line_open, whole_rest}
use Rattle.testkit.proofs.text.next_line.Goals as goal

pub returns-then-text-at-clause-value : goal.returns-then-text-at-clause-value
returns-then-text-at-clause-value c = sym (next_past c.args.text.now c.args.at (omega arith))

pub returns-in-Some-clause-value : goal.returns-in-Some-clause-value
returns-in-Some-clause-value c =
    let s = c.args.text.now in
    let at = c.args.at in
    omega (arith, next_in_lem s at (omega arith), line_found (drop at s) c.in-Some.k (rw (whole_rest at s) at c.in-Some.ensures))

pub returns-in-None-clause-value : goal.returns-in-None-clause-value
returns-in-None-clause-value c =
    let s = c.args.text.now in
    let at = c.args.at in
    omega (
      arith,
      next_in_lem s at (omega arith),
      line_open (drop at s) (rw (whole_rest at s) at c.in-None.ensures),
      length-drop at s,
    )
