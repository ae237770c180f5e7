-- Laws of the evaluation over a listing (specs: Evaluating). `found_listed`: over the listing of a token it finds what the rules say of the
-- token. `privileges_low`: the two privileges that are read stand in the lower word of the enabled privileges.
-- Assumes nothing.
use Prim.Native.Nat.{ℕ, ◌%◌, ◌^◌, ◌<◌}
use mathlib.Core.Path.{◌≡◌, refl, sym, ap, ◌∙◌}
use mathlib.Core.List.{List, [], ◌∷◌}
use mathlib.Core.Bool.{Bool, true, false, cond, not, ◌&&◌}
use native.Mathlib.Nat.{mod-eq_of_lt, lt_of_le_of_lt}
use native.Mathlib.Omega.{arith}
use lib.Bits.{and_mod, and_le_r}
use Rattle.base.specs.Bits.{and}
use Rattle.records.specs.Token.{Token, confined, exempt}
use Rattle.records.specs.Shaped.{Shaped}
use Rattle.records.specs.FlatListing.{listing_of}
use Rattle.records.specs.Crowd.{Member, crowd_at, crowd_of, confined_of, confined_place}
use Rattle.records.proofs.CrowdLaws.{flags_listed, privileges_listed, crowd_listed, confined_listed}
use Rattle.passes.specs.Matching.{hits_of}
use Rattle.passes.specs.NormalEvaluation.{Dacl, privileges_give, list_gives, normal_of}
use Rattle.passes.specs.Confinement.{everything, confinement_of}
use Rattle.passes.specs.declared.matching.Hits.{Hits}
use Rattle.policy.specs.Rules.{Lists, unruled, narrowed_by, judged_by, ruled_from}
use Rattle.policy.specs.declared.rules.Ruled.{Ruled}
use Rattle.access.specs.Evaluated.{found_of}
use Rattle.access.specs.Evaluating.{confinement_in, found_in}

-- ---- privileges

-- a bit below 2 ^ 32 is one of the lower word
low_and : (p b : ℕ) → b < 2 ^ 32 → and (p % 2 ^ 32) b ≡ and p b
low_and p b k =
    ap (λ (x : ℕ). and (p % 2 ^ 32) x) (sym (mod-eq_of_lt k)) ∙ sym (and_mod p b 32) ∙ mod-eq_of_lt (lt_of_le_of_lt (and_le_r p b) k)

pub privileges_low : (p : ℕ) → privileges_give (p % 2 ^ 32) ≡ privileges_give p
privileges_low p = rw (low_and p 0x200 (omega arith), low_and p 0x100 (omega arith))

pub normal_low : (kind : ℕ) (ms : List Member) (h : Hits) (p : ℕ) (d : Dacl) → normal_of kind ms h (p % 2 ^ 32) d ≡ normal_of kind ms h p d
unfolding normal_of
normal_low kind ms h p d = rw (privileges_low p)

judged_low : (kind : ℕ) (ms : List Member) (h : Hits) (p : ℕ) (st : Ruled) (r : Lists) →
    judged_by kind ms h (p % 2 ^ 32) st r ≡ judged_by kind ms h p st r
unfolding judged_by narrowed_by
judged_low kind ms h p st r = simp (normal_low kind ms h p)

pub ruled_low : (kind : ℕ) (ms : List Member) (h : Hits) (p : ℕ) (st : Ruled) (rs : List Lists) →
    ruled_from kind ms h (p % 2 ^ 32) st rs ≡ ruled_from kind ms h p st rs
unfolding ruled_from
ruled_low kind ms h p st [] = refl
ruled_low kind ms h p st (r ∷ rs) = rw (judged_low kind ms h p st r) (ruled_low kind ms h p (judged_by kind ms h p st r) rs)

-- ---- the whole

module _ (kind : ℕ) (t : Token) (owner self : List ℕ) (d : Dacl) where
  pub confinement_listed : Shaped t → confinement_in kind (listing_of t) (confined_place t) owner self d ≡ confinement_of kind t owner self d
  unfolding confinement_in confinement_of
  confinement_listed o = rw (flags_listed t o) (go (confined t.flags) refl)
    where
      go : (b : Bool) → confined t.flags ≡ b →
          cond (b && not (exempt t.flags))
          (list_gives kind (crowd_at false (listing_of t) (confined_place t))
          (hits_of (crowd_at false (listing_of t) (confined_place t)) owner self) d)
          everything
          ≡ cond (b && not (exempt t.flags)) (list_gives kind (confined_of t) (hits_of (confined_of t) owner self) d) everything
      go true e = rw (confined_listed t o e)
      go false e = refl

  pub found_listed : (rules : List Lists) → Shaped t →
      found_in kind (listing_of t) (confined_place t) owner self d rules ≡ found_of kind t owner self d rules
  unfolding found_in found_of
  found_listed rules o =
      rw (
        confinement_listed o,
        crowd_listed t o,
        privileges_listed t,
        normal_low kind (crowd_of t) (hits_of (crowd_of t) owner self) t.privileges d,
        ruled_low kind (crowd_of t) (hits_of (crowd_of t) owner self) t.privileges unruled rules,
      )
