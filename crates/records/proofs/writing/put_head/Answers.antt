-- `put_head` writes the head of a SID: eight bytes that are those of one number, or one after the other.
-- Assumes nothing.
use mathlib.Core.Path.{ap, ◌∙◌}
use native.Mathlib.Numerals.{add-one}
use native.Mathlib.Omega.{arith}
use lib.ListN.{length, length-set}
use lib.Seq.{sets, length-sets}
use Rattle.base.proofs.WriteLaws.{add_two}
use Rattle.records.proofs.HeadLaws.{head_little}
use Rattle.records.proofs.writing.put_head.Goals as goal

pub returns-then-v-lt256 : goal.returns-then-v-lt256
returns-then-v-lt256 c = c.put_little.ensures ∙ ap (sets _ _) (head_little _ _ c.requires.1 c.if-v-lt256.true)

pub bounds-out-o-2 : goal.bounds-out-o-2
bounds-out-o-2 c = simp length-set (omega arith)

pub put_big-requires : goal.put_big-requires
put_big-requires c = simp length-set (omega arith)

pub shape_of-out : goal.shape_of-out
shape_of-out c = ap length c.put_big.ensures ∙ simp (length-sets, length-set)

pub returns : goal.returns
returns c = c.put_big.ensures ∙ simp (add-one, add_two)
