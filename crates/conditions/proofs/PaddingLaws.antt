-- Laws of padding: zeros as a test of each byte (zeros_all), from a place (zeros_hit -miss -end), and a part up to the end (part_rest).
-- Assumes nothing.
use Prim.Native.Nat.{ℕ, ◌+◌, ◌<◌, ◌≤◌}
use mathlib.Core.Path.{◌≡◌, refl, sym, ap, ◌∙◌}
use mathlib.Core.List.{List, [], ◌∷◌}
use mathlib.Core.Bool.{Bool, true, false, cond, ◌&&◌}
use native.Mathlib.Numerals.{add-one}
use lib.Dec.{eqb}
use lib.ListN.{length, get_or, take, drop, length-drop, drop_of_length-le}
use lib.Seq.{drop-cons, take-length}
use borrow.Author.Tests.{eq-eqb, ne_eqb}
use Rattle.base.specs.Bytes.{byte_at, part}
use Rattle.std.specs.List.{list_all}
use Rattle.conditions.specs.Condition.{zeros}

pub zeros_all : (s : List ℕ) → list_all (λ x. eqb x 0) s ≡ zeros s
unfolding zeros
zeros_all [] = refl
zeros_all (x ∷ s) = rw (zeros_all s) (go (eqb x 0) (zeros s))
  where
    go : (t u : Bool) → (t && u) ≡ cond t u false
    go true u = refl
    go false u = refl

module _ (s : List ℕ) (i : ℕ) where
  pub zeros_hit : i < length s → byte_at s i ≡ 0 → zeros (drop i s) ≡ zeros (drop (i + 1) s)
  unfolding zeros
  zeros_hit h e = rw (add-one, drop-cons s i 0, eq-eqb (get_or s i 0) 0 e)

  pub zeros_miss : i < length s → (byte_at s i ≡ 0 → ⊥) → zeros (drop i s) ≡ false
  unfolding zeros
  zeros_miss h e = rw (drop-cons s i 0, ne_eqb (get_or s i 0) 0 e)

  pub zeros_end : length s ≤ i → zeros (drop i s) ≡ true
  unfolding zeros
  zeros_end h = rw (drop_of_length-le s h)

pub part_rest : (s : List ℕ) (at : ℕ) → part s at (length s) ≡ drop at s
part_rest s at = ap (λ (n : ℕ). take n (drop at s)) (sym (length-drop at s)) ∙ take-length (drop at s)
