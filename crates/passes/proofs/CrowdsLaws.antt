-- Two crowds among whom the same SIDs match answer alike: owner and self identity (hits_alike), conditions (admits_alike), a walk over any
-- entries (walked_alike), and normal evaluation (normal_alike). So the order of a crowd does not matter, nor whom a listing has twice.
-- Assumes nothing.
use Prim.Native.Nat.{ℕ}
use mathlib.Core.Bool.{Bool, true, false, cond, ◌&&◌}
use mathlib.Core.List.{List, [], ◌∷◌}
use mathlib.Core.Path.{◌≡◌, refl, ap, ap₂, ◌∙◌}
use Rattle.base.specs.Bits.{or}
use Rattle.conditions.specs.Membership.{admits}
use Rattle.lists.specs.Acl.{Entry}
use Rattle.records.specs.Crowd.{Member}
use Rattle.masks.specs.KindsAndMasks.{all_bits}
use Rattle.masks.specs.TheTally.{emptied}
use Rattle.masks.specs.declared.tally.Tally.{Tally}
use Rattle.passes.specs.Matching.{among, stands, hits_of, matches}
use Rattle.passes.specs.NormalEvaluation.{Dacl, names_owner, owner_gives, privileges_give, normal_of}
use Rattle.passes.specs.OnePass.{allows, member, speaks, taken, run}
use Rattle.passes.specs.OneWalk.{walked_by, walked_of}
use Rattle.passes.specs.declared.matching.Hits.{Hits}

-- the same SIDs match, for allow and for deny
abbrev pub Alike : List Member → List Member → Type 0
Alike ms ns = (allow : Bool) (w : List ℕ) → among allow ms w ≡ among allow ns w

module _ (ms ns : List Member) (same : Alike ms ns) where
  stands_alike : (allow : Bool) (w : List ℕ) → stands allow ms w ≡ stands allow ns w
  unfolding stands
  stands_alike allow w = rw (same allow w)

  pub hits_alike : (owner self : List ℕ) → hits_of ms owner self ≡ hits_of ns owner self
  unfolding hits_of
  hits_alike owner self = rw (stands_alike true owner, stands_alike false owner, stands_alike true self, stands_alike false self)

  pub matches_alike : (allow : Bool) (h : Hits) (w : List ℕ) → matches allow ms h w ≡ matches allow ns h w
  unfolding matches
  matches_alike allow h w = rw (same allow w)

  -- so the same SIDs are members, and the same conditions admit
  pub admits_alike : (h : Hits) (c : List ℕ) → admits (member ms h) c ≡ admits (member ns h) c
  admits_alike h c = ap (λ (f : List ℕ → Bool). admits f c) (λ i w. matches_alike true h w i)

  speaks_alike : (h : Hits) (x : Entry) → speaks ms h x ≡ speaks ns h x
  speaks_alike h x = ap₂ (λ (a b : Bool). a && b) (matches_alike (allows x) h x.sid) (admits_alike h x.condition)

  taken_alike : (kind : ℕ) (h : Hits) (t : Tally) (x : Entry) → taken kind ms h t x ≡ taken kind ns h t x
  unfolding taken
  taken_alike kind h t x = rw (speaks_alike h x)

  run_alike : (kind : ℕ) (h : Hits) (es : List Entry) (t : Tally) → run kind ms h t es ≡ run kind ns h t es
  unfolding run
  run_alike kind h [] t = refl
  run_alike kind h (x ∷ es) t =
      ap (λ (u : Tally). run kind ms h u es) (taken_alike kind h t x) ∙ run_alike kind h es (taken kind ns h t x)

  pub walked_alike : (kind : ℕ) (h : Hits) (es : List Entry) → walked_of kind ms h es ≡ walked_of kind ns h es
  walked_alike kind h es = ap (λ (t : Tally). walked_by t (names_owner es)) (run_alike kind h es emptied)

  pub normal_alike : (kind : ℕ) (h : Hits) (p : ℕ) (d : Dacl) → normal_of kind ms h p d ≡ normal_of kind ns h p d
  unfolding normal_of
  normal_alike kind h p d =
      ap
      (λ (t : Tally). or (cond d.present t.allowed.0 (all_bits kind)) (or (owner_gives h (names_owner d.entries))
      (privileges_give p)))
      (run_alike kind h d.entries emptied)
