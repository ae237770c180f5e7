-- `is_single` meets its contract: a length or a number that differs is another identity's, and the last number compared decides.
-- Assumes nothing.
use Prim.Native.Nat.{ℕ}
use mathlib.Core.Path.{◌≡◌, sym, ap, ◌∙◌}
use native.Mathlib.Omega.{arith}
use lib.Dec.{eqb}
use Rattle.base.specs.Bytes.{u32_at}
use Rattle.base.proofs.BytesLaws.{bytes_of_lt}
use Rattle.sids.proofs.SingleLaws.{single_authority, single_word, single_long, single_miss, single_test}
use Rattle.sids.proofs.sid.is_single.Goals as goal
use Rattle.sids.proofs.sid.is_single.Goals.{then-w-ne12-via-then-w-ne12, then-w-ne12-via-else-w-ne12+then-u32_at-word, then-w-ne12-via-else-w-ne12+else-u32_at-word+then-u32_at-authority}

pub returns-then-w-ne12 : goal.returns-then-w-ne12
returns-then-w-ne12 c =
    let a = c.args in
    let p = single_word a.authority a.word (omega arith) in
    let q = single_authority a.authority a.word (omega arith) in
    elim c.then-w-ne12.branch [
      | then-w-ne12-via-then-w-ne12 w ↦ sym (single_long _ _ _ w.if-w-ne12.true)
      | then-w-ne12-via-else-w-ne12+then-u32_at-word w ↦ sym (single_miss a.w.now a.authority a.word 8 a.word p (λ e. omega arith))
      | then-w-ne12-via-else-w-ne12+else-u32_at-word+then-u32_at-authority w ↦
          sym (single_miss a.w.now a.authority a.word 4 a.authority q (λ e. omega arith))
    ]

pub returns : goal.returns
returns c =
    let a = c.args in
    let w = a.w.now in
    let b = bytes_of_lt w (λ i l. (c.type_inv.w i).fits) in
    let second : u32_at w 4 ≡ a.authority = omega arith in
    let third : u32_at w 8 ≡ a.word = omega arith in
    ap (λ (x : ℕ). eqb x 257) c.u32_at-2.ensures
    ∙ single_test w a.authority a.word b c.if-w-ne12.false second third
