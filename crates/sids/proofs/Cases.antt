-- The definitions tried on small inputs, by computation. Assumes nothing.
use Prim.Native.Nat.{ℕ}
use mathlib.Core.Path.{◌≡◌, refl}
use mathlib.Core.List.{List, [], ◌∷◌}
use mathlib.Core.Bool.{true, false}
use Rattle.base.specs.Bytes.{same}
use Rattle.sids.specs.Sid.{sid_end, is_sid}

-- "U is S-1-5-0-7, W is S-1-5-7"
u : List ℕ
u = 1 ∷ 2 ∷ 0 ∷ 0 ∷ 0 ∷ 0 ∷ 0 ∷ 5 ∷ 0 ∷ 0 ∷ 0 ∷ 0 ∷ 7 ∷ 0 ∷ 0 ∷ 0 ∷ []

w : List ℕ
w = 1 ∷ 1 ∷ 0 ∷ 0 ∷ 0 ∷ 0 ∷ 0 ∷ 5 ∷ 7 ∷ 0 ∷ 0 ∷ 0 ∷ []

-- both are identities, and not the same: neither their last words nor the words that are not 0 tell
identities : (is_sid u ≡ true) × (is_sid w ≡ true) × (same u w ≡ false)
unfolding is_sid sid_end same u w
identities = (refl, refl, refl)

-- an identity of no words, one of a count too many, and one with a byte after it
counts : (is_sid (1 ∷ 0 ∷ 0 ∷ 0 ∷ 0 ∷ 0 ∷ 0 ∷ 5 ∷ []) ≡ true) × (is_sid (1 ∷ 1 ∷ 0 ∷ 0 ∷ 0 ∷ 0 ∷ 0 ∷ 5 ∷ []) ≡ false)
    × (is_sid (1 ∷ 0 ∷ 0 ∷ 0 ∷ 0 ∷ 0 ∷ 0 ∷ 5 ∷ 0 ∷ []) ≡ false)
unfolding is_sid sid_end
counts = (refl, refl, refl)
