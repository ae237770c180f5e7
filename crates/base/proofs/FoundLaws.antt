-- A place as the code answers it: some place is the one that was found and not 0 (place_found), none says 0 (none_found), and a place that
-- is not 0, or 0, is answered so (found_at, found_none). Assumes nothing.
use Prim.Native.Nat.{ℕ}
use mathlib.Core.Path.{◌≡◌, refl, ◌∙◌}
use mathlib.Core.Bool.{Bool, true, false, cond}
use lib.Dec.{eqb}
use borrow.Author.Tests.{eq-eqb, ne_eqb, eqb-true, eqb-false}
use Rattle.std.specs.Prelude.{None, Some}
use Rattle.base.specs.Bytes.{found}

-- a place that was found
pub record Place (n e : ℕ) : Type 0 where
  pub is : n ≡ e
  pub there : e ≡ 0 → ⊥

pub place_found : (n e : ℕ) → Some e ≡ found n → Place n e
unfolding found
place_found n e p = go (eqb n 0) refl p
  where
    go : (t : Bool) → eqb n 0 ≡ t → Some e ≡ cond t None (Some n) → Place n e
    go true q p = cc
    go false q p = let i : n ≡ e = cc in record { is = i; there = λ z. eqb-false n 0 q (i ∙ z) }

pub none_found : (n : ℕ) → None ≡ found n → n ≡ 0
unfolding found
none_found n p = go (eqb n 0) refl p
  where
    go : (t : Bool) → eqb n 0 ≡ t → None ≡ cond t None (Some n) → n ≡ 0
    go true q p = eqb-true n 0 q
    go false q p = cc

pub found_at : (n e : ℕ) → n ≡ e → (e ≡ 0 → ⊥) → Some e ≡ found n
unfolding found
found_at n e p h = rw (p, ne_eqb e 0 h)

pub found_none : (n : ℕ) → n ≡ 0 → None ≡ found n
unfolding found
found_none n h = rw (eq-eqb n 0 h)
