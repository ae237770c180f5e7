-- Laws of buffers. In order: `untouched_all`, the test of each byte; `puts_more puts_full puts_done`, a part from a
-- place on.
-- Assumes nothing.
use Prim.Native.Nat.{ℕ, ◌+◌, ◌≤◌, ◌<◌}
use mathlib.Core.Path.{◌≡◌, refl}
use mathlib.Core.List.{List, [], ◌∷◌}
use mathlib.Core.Bool.{Bool, true, false, cond}
use lib.Dec.{eqb}
use Rattle.std.specs.Prelude.{◌==◌, ◌&&◌}
use Rattle.std.specs.List.{list_all}
use native.Mathlib.Numerals.{add-one}
use borrow.Author.Tests.{le-leb, lt-leb}
use lib.ListN.{length, drop, get_or, set, drop_of_length-le}
use lib.Seq.{drop-cons}
use Rattle.converts.specs.Buffers.{untouched, build, puts}

pub untouched_all : (s : List ℕ) → list_all (λ b. b == 170) s ≡ untouched s
unfolding untouched
untouched_all [] = refl
untouched_all (b ∷ s) = go (eqb b 170) (untouched_all s)
  where
    go : (v : Bool) → list_all (λ b. b == 170) s ≡ untouched s → (v && list_all (λ b. b == 170) s) ≡ cond v (untouched s) false
    go true h = h
    go false h = refl

module _ (part out : List ℕ) (i to : ℕ) where
  pub puts_more :
      i < length part → to < length out
      → puts (drop i part) (build out to) ≡ puts (drop (i + 1) part) (build (set out to (get_or part i 0)) (to + 1))
  unfolding puts
  puts_more h l = rw (add-one i, drop-cons part i 0 h, lt-leb (length out) to l)

  pub puts_full : i < length part → length out ≤ to → puts (drop i part) (build out to) ≡ build out to
  unfolding puts
  puts_full h l = rw (drop-cons part i 0 h, le-leb (length out) to l)

  pub puts_done : length part ≤ i → puts (drop i part) (build out to) ≡ build out to
  unfolding puts
  puts_done h = rw (drop_of_length-le part h)
