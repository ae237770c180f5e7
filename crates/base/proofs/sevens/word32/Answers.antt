-- `word32` meets its contract: nothing beyond the end, a larger number by `large32`, a number of one byte by itself.
-- Assumes nothing.
use Prim.Native.Nat.{ℕ, ◌+◌, ◌<◌}
use mathlib.Core.Path.{◌≡◌, sym, ap, ◌∙◌}
use native.Mathlib.Omega.{arith}
use lib.ListN.{length, get_or}
use borrow.Author.Tests.{ltb-true, ltb-false}
use Rattle.std.proofs.lemmas.Grind.{get_or_default_zero}
use Rattle.base.specs.Bytes.Read.{some}
use Rattle.base.specs.Sevens.{num_of}
use Rattle.base.proofs.SevensSteps.{number_out, number_alone, num_answer}
use Rattle.base.proofs.sevens.word32.Goals as goal

pub returns-in_err-get-clause-value : goal.returns-in_err-get-clause-value
unfolding num_of
returns-in_err-get-clause-value c =
    let a = c.args in
    c.from_residual.ensures ∙ sym (ap num_of (number_out 32 a.s.now a.at (ltb-false _ _ (sym c.in_err-get.ensures.lookup.0))))

pub returns : goal.returns
returns c =
    let a = c.args in
    let i : a.at < length a.s.now = ltb-true _ _ (sym c.in_ok-get.ensures.lookup.0) in
    let w : c.from-first.result ≡ get_or a.s.now a.at 0 = c.from-first.ensures ∙ c.in_ok-get.ensures.lookup.1 ∙ get_or_default_zero a.s.now a.at _ i in
    let e = number_alone 32 a.s.now a.at i (omega arith) (omega arith) in
    let whole = num_answer 32 a.s.now a.at _ (c.alone.ensures ∙ ap (λ (v : ℕ). num_of (some v (a.at + 1))) w ∙ sym (ap num_of e)) in
    record { value = whole.0; value_bound = whole.1 }

pub returns-then-first-gt127-clause-value_bound : goal.returns-then-first-gt127-clause-value_bound
returns-then-first-gt127-clause-value_bound c = let a = c.args in (num_answer 32 a.s.now a.at _ c.large32.ensures).1
