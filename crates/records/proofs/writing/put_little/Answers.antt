-- `put_little` writes the first of a number's eight bytes, lowest first.
-- Assumes nothing.
use Prim.Native.Nat.{ℕ}
use mathlib.Core.List.{List}
use mathlib.Core.Path.{ap, ◌∙◌}
use native.Mathlib.Omega.{arith}
use lib.ListN.{take}
use Rattle.base.proofs.ValueLaws.{length_little}
use Rattle.records.proofs.HeadLaws.{put_part, little_first}
use Rattle.records.proofs.writing.put_little.Goals as goal

pub returns : goal.returns
returns c =
    put_part c.args.out.now c.args.o _ _ _ (c.copy_from_slice.ensures.after ∙ ap (λ (l : List ℕ). take c.args.n l) c.to_le_bytes.ensures ∙ little_first c.args.n c.args.v (omega arith))
    (omega (arith, length_little c.args.n c.args.v)) (omega arith)
