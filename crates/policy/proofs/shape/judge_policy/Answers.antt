-- `policy::shape::judge_policy` meets its contract: one law for each way out. Assumes nothing.
use Prim.Native.Nat.{ℕ}
use mathlib.Core.Path.{◌≡◌, sym, ap, ◌∙◌}
use mathlib.Core.Bool.{false}
use native.Mathlib.Omega.{arith}
use lib.ListN.{length}
use borrow.Author.Tests.{eqb-true, eqb-false}
use Rattle.policy.specs.Standing.{judged}
use Rattle.policy.proofs.PolicySteps.{Left, standing_empty, standing_long, standing_short, standing_other}
use Rattle.policy.proofs.PolicySteps.{standing_many, standing_rules}
use Rattle.policy.proofs.shape.judge_policy.Goals as goal
use Rattle.policy.proofs.shape.judge_policy.Goals.{then-s-gt262144-via-then-s-gt262144, then-s-gt262144-via-else-s-gt262144+then-s-lt5}
use Rattle.policy.proofs.shape.judge_policy.Goals.{then-s-gt262144-via-else-s-gt262144+else-s-lt5+then-s-ne1}

pub returns-then-is_empty : goal.returns-then-is_empty
returns-then-is_empty c = rw (standing_empty c.args.s.now (eqb-true _ _ (sym c.is_empty.ensures ∙ c.if-is_empty.true)))

pub returns-then-s-gt262144 : goal.returns-then-s-gt262144
returns-then-s-gt262144 c =
    let s = c.args.s.now in
    let f : length s ≡ 0 → ⊥ = eqb-false _ _ (sym c.is_empty.ensures ∙ c.if-is_empty.false) in
    elim c.then-s-gt262144.branch [
      | then-s-gt262144-via-then-s-gt262144 w ↦ rw (standing_long s (omega arith))
      | then-s-gt262144-via-else-s-gt262144+then-s-lt5 w ↦ rw (standing_short s (omega arith) f (omega arith))
      | then-s-gt262144-via-else-s-gt262144+else-s-lt5+then-s-ne1 w ↦ rw (standing_other s (omega arith) (omega arith) (omega arith))
    ]

pub returns-then-n-gt256 : goal.returns-then-n-gt256
returns-then-n-gt256 c =
    let s = c.args.s.now in
    rw (standing_many s (omega arith) (omega arith) (omega arith) (omega arith))

pub returns : goal.returns
returns c =
    let s = c.args.s.now in
    c.judge_rules.ensures
    ∙ ap (λ (n : ℕ). judged (Left s false n 5)) c.u32_at-n.ensures
    ∙ ap judged (sym (standing_rules s (omega arith) (omega arith) (omega arith) (omega arith)))
