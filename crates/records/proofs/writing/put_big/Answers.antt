-- `put_big` writes the last six of a number's eight bytes, highest first.
-- Assumes nothing.
use Prim.Native.Nat.{ℕ}
use mathlib.Core.List.{List}
use mathlib.Core.Path.{ap, ◌∙◌}
use native.Mathlib.Omega.{arith}
use lib.ListN.{take, drop}
use Rattle.base.proofs.ValueLaws.{length_big}
use Rattle.records.proofs.HeadLaws.{put_part, big_last}
use Rattle.records.proofs.writing.put_big.Goals as goal

pub returns : goal.returns
returns c =
    put_part c.args.out.now c.args.o _ _ _ (c.copy_from_slice.ensures.after ∙ ap (λ (l : List ℕ). take 6 (drop 2 l)) c.to_be_bytes.ensures ∙ big_last c.args.v)
    (omega (arith, length_big 6 c.args.v)) (omega arith)
