-- How many seats the crowds of a listing need (specs: Evaluating): no more than the counts in it say (few_seatable).
-- Assumes nothing.
use Prim.Native.Nat.{ℕ, zero, suc, ◌+◌, ◌≤◌}
use mathlib.Core.Bool.{Bool, true, false, cond}
use mathlib.Core.List.{List, [], ◌∷◌}
use mathlib.Core.Path.{◌≡◌, refl, sym, ◌∙◌}
use native.Mathlib.Omega.{arith}
use borrow.Author.Tests.{ltb-true, eqb-true}
use lib.Dec.{ltb, eqb}
use lib.ListN.{length}
use Rattle.base.proofs.BoolLaws.{both}
use Rattle.std.specs.Prelude.{Option, None, Some}
use Rattle.std.specs.Option.{unwrap_or}
use Rattle.base.specs.Bytes.{part, found}
use Rattle.sids.specs.Sid.{sid_end}
use Rattle.records.specs.Crowd.{plain, width, member_at, members_at, crowd_at, user_place}
use Rattle.access.specs.Evaluating.{beside, few, Seatable}

-- a place that is answered as an option, or 0
pub place_or_front : (n e : ℕ) (p : Option ℕ) → p ≡ found n → e ≡ unwrap_or p 0 → e ≡ n
unfolding found
place_or_front n e p q r = r ∙ rw q (go (eqb n 0) refl)
  where
    go : (t : Bool) → eqb n 0 ≡ t → unwrap_or (cond t None (Some n)) 0 ≡ n
    go true z = sym (eqb-true n 0 z)
    go false z = refl

members_few : (attrs : Bool) (s : List ℕ) (n at : ℕ) → length (members_at attrs s n at) ≤ n
unfolding members_at
members_few attrs s zero at = omega arith
members_few attrs s (suc n) at = go (eqb (sid_end s at) 0) (members_few attrs s n (sid_end s at + width attrs))
  where
    go : (b : Bool) → length (members_at attrs s n (sid_end s at + width attrs)) ≤ n →
        length (cond b [] (member_at attrs s at (sid_end s at) ∷ members_at attrs s n (sid_end s at + width attrs))) ≤ suc n
    go true h = omega arith
    go false h = omega arith

crowd_beside : (attrs : Bool) (s : List ℕ) (at : ℕ) → length (crowd_at attrs s at) ≤ suc (beside s at)
unfolding crowd_at
crowd_beside attrs s at = go (eqb (sid_end s at) 0) (members_few attrs s (beside s at) (sid_end s at + 4))
  where
    go : (b : Bool) → length (members_at attrs s (beside s at) (sid_end s at + 4)) ≤ beside s at →
        length (cond b [] (plain (part s at (sid_end s at)) ∷ members_at attrs s (beside s at) (sid_end s at + 4))) ≤ suc (beside s at)
    go true h = omega arith
    go false h = omega arith

-- the first identity of each crowd, and fewer than n beside it
pub few_seatable : (l : List ℕ) (at n : ℕ) → length l ≤ 32768 → n ≤ 510 → few l at n ≡ true → Seatable l at (n + 1)
few_seatable l at n short small e =
    let f = both (ltb (beside l user_place) n) (ltb (beside l at) n) e in
    let a = ltb-true (beside l user_place) n f.0 in
    let b = ltb-true (beside l at) n f.1 in
    let p = crowd_beside true l user_place in
    let q = crowd_beside false l at in
    (short, (omega arith, (omega arith, omega arith)))
