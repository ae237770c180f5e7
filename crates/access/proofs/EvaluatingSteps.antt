-- The steps of the evaluation over a listing (specs: Evaluating): whom the chains of a crowd show, what a walk with them comes to, and what
-- is found of it all.
-- Assumes nothing.
use Prim.Native.Nat.{ℕ, zero, suc, ◌<◌, ◌≤◌}
use mathlib.Core.Path.{◌≡◌, refl, sym, ap, ap₂, ◌∙◌}
use mathlib.Core.List.{List}
use mathlib.Core.Bool.{Bool, true, false}
use lib.Bits.{bit_and}
use lib.ListN.{length, get_or, replicate, length-replicate}
use Rattle.lists.specs.ByLength.{entries_by_length}
use Rattle.lists.specs.declared.acl.Rights.{Rights}
use Rattle.records.specs.Crowd.{Member, crowd_at}
use Rattle.passes.specs.Matching.{among, hits_of}
use Rattle.passes.specs.NormalEvaluation.{list_gives, normal_of}
use Rattle.passes.specs.Confinement.{confines, everything}
use Rattle.passes.specs.Chains.{shown, Tables, tables, chains_of}
use Rattle.passes.specs.OneWalk.{walked_of, listed_by, normal_by}
use Rattle.passes.specs.Crowds.{shown_in}
use Rattle.passes.specs.declared.matching.Crowd.{Crowd}
use Rattle.passes.specs.declared.matching.Hits.{Hits}
use Rattle.passes.specs.declared.walk.Walked.{Walked}
use Rattle.passes.proofs.CrowdsLaws.{Alike, hits_alike, walked_alike}
use Rattle.passes.proofs.ChainedLaws.{chains_say}
use Rattle.passes.proofs.EvaluationLaws.{listed_is, normal_is}
use Rattle.policy.specs.Rules.{Lists, unruled, ruled_by}
use Rattle.policy.specs.declared.rules.Ruled.{Ruled}
use Rattle.policy.proofs.RulesLaws.{ruled_alike}
use Rattle.access.specs.Evaluating.{crowd_in, flags_in, privileges_in, dacl_as, confinement_in, found_in}
use Rattle.answers.specs.declared.answer.Found.{Found}

-- ---- the chains of a crowd show the crowd

zeros : (n k : ℕ) → ◌≡◌ {A = ℕ} (get_or (replicate n 0) k 0) 0
zeros zero k = refl
zeros (suc n) zero = refl
zeros (suc n) (suc k) = zeros n k

module _ (attrs : Bool) (l : List ℕ) (at : ℕ) (h0 s0 heads seats : List ℕ) (short : length l ≤ 32768) (narrow : length s0 ≤ 512)
    (few : length (crowd_at attrs l at) < length s0) (clear : h0 ≡ replicate 512 0)
    (first : heads ≡ (chains_of attrs l at (tables h0 s0)).heads) (second : seats ≡ (chains_of attrs l at (tables h0 s0)).seats) where
  abbrev made : Tables
  made = chains_of attrs l at (tables h0 s0)

  pub crowd_shown : Alike (shown heads seats l) (crowd_at attrs l at)
  crowd_shown allow w =
      ap₂ (λ (h s : List ℕ). among allow (shown h s l) w) first second
      ∙ chains_say h0 s0 (λ k. ap (λ (h : List ℕ). get_or h k 0) clear ∙ zeros 512 k) (ap length clear ∙ length-replicate {A = ℕ} 512 0)
      narrow attrs l at short few made refl allow w

-- the crowd that they make, with its hits
module _ (ms ns : List Member) (same : Alike ms ns) (owner self : List ℕ) (c : Crowd) (shows : shown_in c ≡ ms)
    (hits : c.hits ≡ hits_of ms owner self) where
  pub crowd_alike : Alike (shown_in c) ns
  crowd_alike allow w = ap (λ (m : List Member). among allow m w) shows ∙ same allow w

  pub crowd_hits : c.hits ≡ hits_of (shown_in c) owner self
  crowd_hits = hits ∙ ap (λ (m : List Member). hits_of m owner self) (sym shows)

-- ---- those whom the tables show answer as the crowd does

module _ (kind : ℕ) (ms ns : List Member) (same : Alike ms ns) (owner self : List ℕ) where
  abbrev hits : Hits
  hits = hits_of ms owner self

  -- normal evaluation, from the walk over the entries
  pub normal_walked : (present : Bool) (p : ℕ) (l : List ℕ) (h : Hits) (w : Walked) → h ≡ hits → w ≡ walked_of kind ms h
      (entries_by_length l) →
      normal_by kind present w h p ≡ normal_of kind ns (hits_of ns owner self) p (dacl_as present l)
  normal_walked present p l h w e f =
      normal_is kind ns h (dacl_as present l) w (f ∙ walked_alike ms ns same kind h (entries_by_length l)) p
      ∙ ap (λ (x : Hits). normal_of kind ns x p (dacl_as present l)) (e ∙ hits_alike ms ns same owner self)

  -- what the list alone gives
  pub listed_walked : (present : Bool) (l : List ℕ) (h : Hits) (w : Walked) → h ≡ hits → w ≡ walked_of kind ms h (entries_by_length l) →
      listed_by kind present w ≡ list_gives kind ns (hits_of ns owner self) (dacl_as present l)
  listed_walked present l h w e f =
      listed_is kind ns h (dacl_as present l) w (f ∙ walked_alike ms ns same kind h (entries_by_length l))
      ∙ ap (λ (x : Hits). list_gives kind ns x (dacl_as present l)) (e ∙ hits_alike ms ns same owner self)

  -- what all rules leave
  pub rules_shown : (p : ℕ) (rs : List Lists) (h : Hits) (r : Ruled) → h ≡ hits → r ≡ ruled_by kind ms h p rs →
      r ≡ ruled_by kind ns (hits_of ns owner self) p rs
  rules_shown p rs h r e f =
      f
      ∙ ruled_alike ms ns same kind h p unruled rs
      ∙ ap (λ (x : Hits). ruled_by kind ns x p rs) (e ∙ hits_alike ms ns same owner self)

-- ---- confinement, and what is found of it all

module _ (kind : ℕ) (l : List ℕ) (at : ℕ) (owner self : List ℕ) (present : Bool) (list : List ℕ) where
  pub not_confined : confines (flags_in l) ≡ false → confinement_in kind l at owner self (dacl_as present list) ≡ everything
  unfolding confinement_in
  not_confined e = rw e

  pub is_confined : confines (flags_in l) ≡ true → confinement_in kind l at owner self (dacl_as present list)
      ≡ list_gives kind (crowd_at false l at) (hits_of (crowd_at false l at) owner self) (dacl_as present list)
  unfolding confinement_in
  is_confined e = rw e

  pub found_made : (rules : List Lists) (n c : Rights) (r : Ruled) →
      n.0 ≡ normal_of kind (crowd_in l) (hits_of (crowd_in l) owner self) (privileges_in l) (dacl_as present list) →
      c.0 ≡ confinement_in kind l at owner self (dacl_as present list) →
      r ≡ ruled_by kind (crowd_in l) (hits_of (crowd_in l) owner self) (privileges_in l) rules →
      ◌≡◌ {A = Found}
      (record {
        normal = n;
        confined = record { 0 = bit_and n.0 c.0 };
        ruled = record { 0 = bit_and (bit_and n.0 c.0) r.left.0 };
        differ = r.differ;
        has_sacl = r.has_sacl;
        has_staged_sacl = r.has_staged_sacl;
      })
      (found_in kind l at owner self (dacl_as present list) rules)
  unfolding found_in
  found_made rules n c r e f g = rw (← e, ← f, ← g)
