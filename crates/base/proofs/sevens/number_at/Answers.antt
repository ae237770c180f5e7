-- `number_at` meets its contract: nothing beyond the end, a number of one byte by itself, a longer one by `longer`.
-- Assumes nothing.
use Prim.Native.Nat.{ℕ, ◌+◌, ◌<◌}
use mathlib.Core.Path.{◌≡◌, sym, ap, ◌∙◌}
use native.Mathlib.Omega.{arith}
use lib.ListN.{length, get_or}
use borrow.Author.Tests.{ltb-true, ltb-false}
use Rattle.std.proofs.lemmas.Grind.{get_or_default_zero}
use Rattle.base.specs.Bytes.Read.{some}
use Rattle.base.specs.Sevens.{num_of}
use Rattle.base.proofs.SevensSteps.{number_out, number_alone, num_answer}
use Rattle.base.proofs.sevens.number_at.Goals as goal

pub returns-in_err-get-clause-value : goal.returns-in_err-get-clause-value
unfolding num_of
returns-in_err-get-clause-value c =
    let a = c.args in
    c.from_residual.ensures ∙ sym (ap num_of (number_out a.bits a.s.now a.at (ltb-false _ _ (sym c.in_err-get.ensures.lookup.0))))

pub returns-then-first-lt128 : goal.returns-then-first-lt128
returns-then-first-lt128 c =
    let a = c.args in
    let i : a.at < length a.s.now = ltb-true _ _ (sym c.in_ok-get.ensures.lookup.0) in
    let w : c.from-first.result ≡ get_or a.s.now a.at 0 = c.from-first.ensures ∙ c.in_ok-get.ensures.lookup.1 ∙ get_or_default_zero a.s.now a.at _ i in
    let e = number_alone a.bits a.s.now a.at i (omega arith) (omega arith) in
    let whole = num_answer a.bits a.s.now a.at _ (c.alone.ensures ∙ ap (λ (v : ℕ). num_of (some v (a.at + 1))) w ∙ sym (ap num_of e)) in
    record { value = whole.0; value_bound = whole.1 }

pub returns-clause-value_bound : goal.returns-clause-value_bound
returns-clause-value_bound c = let a = c.args in (num_answer a.bits a.s.now a.at _ c.longer.ensures).1
