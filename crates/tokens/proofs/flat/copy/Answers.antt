-- `copy`: the front of the buffer is what was copied.
-- Assumes nothing.
use mathlib.Core.Path.{refl}
use native.Mathlib.Omega.{arith}
use lib.ListN.{length}
use Rattle.records.proofs.HeadLaws.{put_part}
use Rattle.tokens.proofs.flat.copy.Goals as goal

pub returns : goal.returns
returns c = put_part c.args.out.now 0 (length c.args.from.now) _ c.args.from.now c.copy_from_slice.ensures.after refl (omega arith)
