-- `authority` meets its contract: six bytes inside a SID are the number that `u48_be_at` says. Assumes nothing.
use native.Mathlib.Omega.{arith}
use Rattle.base.proofs.WordsLaws.{u48_be_at_in}
use Rattle.tokens.proofs.parts.authority.Goals as goal

pub returns : goal.returns
returns c =
    let u = u48_be_at_in c.args.w.now 2 c.requires in
    omega (arith, u, c.from_be_bytes.ensures)
