-- `word` meets its contract: four bytes that stand there are the number that `u32_at` says. Assumes nothing.
use native.Mathlib.Omega.{arith}
use Rattle.base.proofs.WordsLaws.{u32_at_in}
use Rattle.tokens.proofs.parts.word.Goals as goal

pub returns : goal.returns
returns c =
    let u = u32_at_in c.args.w.now c.args.at c.requires in
    omega (arith, u, c.from_le_bytes.ensures)
