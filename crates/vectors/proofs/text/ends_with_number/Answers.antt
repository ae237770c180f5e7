-- `ends_with_number` meets its contract: the words that it looks for are the digits that the number takes. Where they do not stand, no line end
-- stands behind them.
-- Assumes nothing.
use Rattle.std.proofs.Common.{◌≡◌, ℕ, ◌-◌, not, eqb, [], ◌∷◌, sym, ap, ◌∙◌, arith}
use Rattle.testkit.specs.Text.{no_place, after}
use Rattle.testkit.proofs.TextLaws.{found_none, after_none}
use Rattle.vectors.proofs.text.ends_with_number.Goals as goal

pub returns-in_default : goal.returns-in_default
returns-in_default c =
    let a = c.args in
    let e : c.decimal-k.result - 0 ≡ c.decimal-k.result = omega arith in
    let n = c.from.ensures in
    let h = rw (e, c.decimal-k.ensures.digits, n) at (found_none _ c.in_default.ensures) in
    record {
      places = c.decimal-k.result;
      fewest = rw n at c.decimal-k.ensures.len;
      ends =
          sym (ap (λ (x : ℕ). not (eqb x no_place))
          (ap (λ (x : ℕ). after a.text.now x (10 ∷ [])) h ∙ after_none a.text.now (10 ∷ []) (omega arith)));
    }
