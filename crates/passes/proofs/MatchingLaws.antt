-- Which SIDs match: a virtual identity is answered by the hits, any other by the crowd; no owner or self that is itself virtual or empty
-- stands for anybody.
-- Assumes nothing.
use Prim.Native.Nat.{ℕ}
use mathlib.Core.Bool.{Bool, true, false, cond, ◌||◌}
use mathlib.Core.List.{List}
use mathlib.Core.Path.{◌≡◌, refl, sym}
use borrow.Author.Tests.{eq-eqb}
use lib.Dec.{eqb}
use lib.ListN.{length}
use Rattle.base.specs.Bytes.{same}
use Rattle.sids.specs.Sid.{owner_rights, principal_self, virtual}
use Rattle.records.specs.Crowd.{Member}
use Rattle.passes.specs.Matching.{among, stands, side, matches}
use Rattle.passes.specs.OneWalk.{virtual_matches}
use Rattle.passes.specs.declared.matching.Hits.{Hits}
use Rattle.base.proofs.BoolLaws.{true_false}

first_of : {A : Type 0} (p q : Bool) (a b c : A) → (p || q) ≡ true → cond p a (cond q b c) ≡ cond p a b
first_of true q a b c e = refl
first_of false true a b c e = refl
first_of false false a b c e = true_false (sym e)

neither_of : {A : Type 0} (p q : Bool) (a b c : A) → (p || q) ≡ false → cond p a (cond q b c) ≡ c
neither_of false false a b c e = refl
neither_of false true a b c e = true_false e
neither_of true q a b c e = true_false e

either : (b : Bool) → cond b false false ≡ false
either true = refl
either false = refl

module _ (allow : Bool) (ms : List Member) (w : List ℕ) where
  pub matches_virtual : (h : Hits) → virtual w ≡ true → matches allow ms h w ≡ virtual_matches allow h w
  unfolding matches
  matches_virtual h v = first_of (same w owner_rights) (same w principal_self) (side allow h.owner) (side allow h.me)
      (among allow ms w) v

  pub matches_among : (h : Hits) → virtual w ≡ false → matches allow ms h w ≡ among allow ms w
  unfolding matches
  matches_among h v = neither_of (same w owner_rights) (same w principal_self) (side allow h.owner) (side allow h.me)
      (among allow ms w) v

  pub stands_virtual : virtual w ≡ true → stands allow ms w ≡ false
  unfolding stands
  stands_virtual v = rw v (either (eqb (length w) 0))

  pub stands_empty : length w ≡ 0 → stands allow ms w ≡ false
  unfolding stands
  stands_empty z = rw (eq-eqb (length w) 0 z)
