-- Numbers in a line.
use Rattle.std.specs.Prelude.{◌≡◌, ℕ, Bool, not, List, [], ◌∷◌, ◌==◌}
use Rattle.io.specs.Digits.{last_digits, IsDigitCount}
use Rattle.testkit.specs.Text.{no_place, after}

-- whether words and a line end stand at a place
abbrev pub ends_with : List ℕ → ℕ → List ℕ → Bool
ends_with text at words = not (after text (after text at words) (10 ∷ []) == no_place)

-- r tells whether a number's decimal digits, of which there are k, no more than it takes, and a line end stand at a place
pub record NumberLine (text : List ℕ) (at n : ℕ) (r : Bool) : Type 0 where
  pub places : ℕ
  pub fewest : IsDigitCount 10 1 n places
  pub ends : r ≡ ends_with text at (last_digits 10 places n)
