-- What follows where a test both holds and fails, where neither of two holds, and where both do. The other laws of `not`, `&&` and `||` are
-- the kit's, `mathlib.Core.Bool`.
-- Assumes nothing.
use mathlib.Core.Bool.{Bool, true, false, ◌&&◌, ◌||◌, false≢true}
use mathlib.Core.Path.{◌≡◌, refl, sym}

pub true_false : {A : Type 0} {a b : A} → ◌≡◌ {A = Bool} true false → a ≡ b
true_false e = absurd (false≢true (sym e))

pub neither : (a b : Bool) → (a || b) ≡ false → (a ≡ false) × (b ≡ false)
neither true b e = absurd (false≢true (sym e))
neither false b e = (refl, e)

pub both : (a b : Bool) → (a && b) ≡ true → (a ≡ true) × (b ≡ true)
both true b e = (refl, e)
both false b e = absurd (false≢true e)
