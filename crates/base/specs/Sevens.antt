-- "Numbers are groups of seven bits, lowest first, top bit set on all but the last; shortest form only, within the field's width."
use Rattle.std.specs.Prelude.{ℕ, zero, suc, ◌+◌, ◌-◌, ◌*◌, ◌^◌, ◌/◌, ◌%◌, List, [], ◌∷◌, cond, drop, ltb, eqb, Option, None, Some}
use Rattle.base.specs.Bytes.{Read}
use Rattle.base.specs.Bytes.Read.{none, some}
use Rattle.base.specs.declared.sevens.Num.{Num}

-- the group g below the number that follows: shortest form only, so what follows may not be 0. A reading here counts the bytes taken
unfoldable pub more : ℕ → Read ℕ → Read ℕ
more g none = none
more g (some v n) = cond (eqb v 0) none (some (g + 128 * v) (n + 1))

-- the groups at the front of the bytes
unfoldable pub groups : List ℕ → Read ℕ
groups [] = none
groups (b ∷ s) = let high = more (b - 128) (groups s) in cond (ltb b 128) (some b 1) high

-- within the field's width
unfoldable pub within : ℕ → Read ℕ → Read ℕ
within bits none = none
within bits (some v n) = cond (ltb v (2 ^ bits)) (some v n) none

-- a reading from the front of what stands at a place, as one of the whole: the place after it
unfoldable pub placed : ℕ → Read ℕ → Read ℕ
placed at none = none
placed at (some v n) = some v (at + n)

-- the number at a place, in at most so many bits
unfoldable pub number : ℕ → List ℕ → ℕ → Read ℕ
number bits s at = placed at (within bits (groups (drop at s)))

-- a reading as the code answers it
unfoldable pub num_of : Read ℕ → Option Num
num_of none = None
num_of (some v n) = Some (record { value = v; next = n })

-- a number below 128 ^ (k + 1) in sevens
unfoldable pub sevens : ℕ → ℕ → List ℕ
sevens zero v = v ∷ []
sevens (suc k) v = let r = (128 + v % 128) ∷ sevens k (v / 128) in cond (ltb v 128) (v ∷ []) r

-- a number of at most 64 bits takes at most ten groups
abbrev pub packed : ℕ → List ℕ
packed v = sevens 9 v
