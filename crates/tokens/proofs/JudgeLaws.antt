-- Laws of the judge's walks: what is told of what is read, step by step.
-- In order: an identity and a word of a listing at a place, an identity and a count, things in a row, groups, capabilities, what is told
-- of a reading and a place that is found, as the code answers them. Not here: confinement, people and the whole listing, JudgePeople. Assumes nothing.
use Prim.Native.Nat.{ℕ, zero, suc, ◌+◌, ◌-◌, ◌<◌, ◌≤◌}
use mathlib.Core.Path.{◌≡◌, refl, sym, ap, ap₂, ◌∙◌}
use mathlib.Core.List.{List, ◌∷◌}
use mathlib.Core.Bool.{Bool, true, false, cond, ◌||◌}
use native.Mathlib.Omega.{arith}
use borrow.Author.Tests.{eq-eqb, ne_eqb, le-ltb, lt-ltb}
use lib.ListN.{length}
use Rattle.std.specs.Prelude.{Some, None}
use Rattle.base.specs.Bytes.{Read, bind, found, part, u32_at, same}
use Rattle.base.proofs.FoundLaws.{place_found}
use Rattle.base.specs.Bytes.Read.{none, some}
use Rattle.sids.specs.Sid.{sid_end, virtual}
use Rattle.sids.proofs.SidLaws.{sid_end_bounds}
use Rattle.records.specs.Token.{Group}
use Rattle.records.specs.Fields.{many, group_at}
use Rattle.records.specs.FlatListing.{word, flat_identity, flat_reader}
use Rattle.records.specs.TokenRules.{virtual_group, virtual_in, lists, all_restricted}
use Rattle.tokens.specs.Judging.{told, walked, seen_by, Seen, seen_of}
use Rattle.tokens.specs.declared.judging.Walk.{Walk}
use Rattle.tokens.specs.declared.judging.Capabilities.{Capabilities}

-- ---- an identity and a word of a listing at a place

module _ (s : List ℕ) (at : ℕ) where
  pub identity_none : sid_end s at ≡ 0 → flat_identity s at ≡ none
  unfolding flat_identity
  identity_none h = rw (eq-eqb (sid_end s at) 0 h)

  pub identity_some : (e : ℕ) → e ≡ sid_end s at → (e ≡ 0 → ⊥) → flat_identity s at ≡ some (part s at e) e
  unfolding flat_identity
  identity_some e h k = rw (sym h, ne_eqb e 0 k)

  pub identity_after : (e : ℕ) → e ≡ sid_end s at → (e ≡ 0 → ⊥) → at + 8 ≤ e
  identity_after e h k =
      let b : (at + 8 ≤ sid_end s at) × (sid_end s at ≤ length s) = sid_end_bounds s at (λ z. k (h ∙ z)) in
      omega arith

  pub word_none : length s < at + 4 → word s at ≡ none
  unfolding word
  word_none h = rw (lt-ltb (length s) (at + 4) h)

  pub word_some : at + 4 ≤ length s → word s at ≡ some (u32_at s at) (at + 4)
  unfolding word
  word_some h = rw (le-ltb (length s) (at + 4) h)

-- ---- an identity and a count, as both stand before groups and capabilities

pub record Headed (s : List ℕ) (at e n : ℕ) : Type 0 where
  pub is : e ≡ sid_end s at
  pub found : e ≡ 0 → ⊥
  pub whole : e + 4 ≤ length s
  pub count : n ≡ u32_at s e

module _ {s : List ℕ} {at e n : ℕ} (h : Headed s at e n) where
  pub headed_identity : flat_identity s at ≡ some (part s at e) e
  headed_identity = identity_some s at e h.is h.found

  pub headed_word : word s e ≡ some n (e + 4)
  headed_word = word_some s e h.whole ∙ ap (λ (m : ℕ). some m (e + 4)) (sym h.count)

-- ---- either

or-false : (a : Bool) → a || false ≡ a
or-false true = refl
or-false false = refl

-- what was met, and what is met among one and the rest
or_cons : (a b c : Bool) → a || cond b true c ≡ a || b || c
or_cons true b c = refl
or_cons false true c = refl
or_cons false false c = refl

-- ---- things in a row

-- what is told of one more thing, where telling goes on with a step
module _ {A B : Type 0} (f : List ℕ → ℕ → Read A) (g h : List A → B) (s : List ℕ) (at : ℕ) where
  pub told_stop : (n : ℕ) → 0 < n → f s at ≡ none → told g (many f n s at) ≡ none
  unfolding many
  told_stop zero p e = absurd (omega arith)
  told_stop (suc n) p e = rw e

  pub told_step : (n : ℕ) (a : A) (b : ℕ) → 0 < n → f s at ≡ some a b → ((l : List A) → g (a ∷ l) ≡ h l) →
      told g (many f n s at) ≡ told h (many f (n - 1) s b)
  unfolding many
  told_step zero a b p e k = absurd (omega arith)
  told_step (suc n) a b p e k =
      let x : n ≡ suc n - 1 = omega arith in
      rw e (last (many f n s b) ∙ ap (λ (m : ℕ). told h (many f m s b)) x)
    where
      last : (q : Read (List A)) → told g (bind q (λ rest end. some (a ∷ rest) end)) ≡ told h q
      last none = refl
      last (some l end) = ap (λ (b : B). some b end) (k l)

-- ---- groups

group_stop : (s : List ℕ) (at : ℕ) → sid_end s at ≡ 0 → group_at flat_reader s at ≡ none
unfolding group_at
group_stop s at h = rw (identity_none s at h)

group_cut : (s : List ℕ) (at e : ℕ) → e ≡ sid_end s at → (e ≡ 0 → ⊥) → length s < e + 4 → group_at flat_reader s at ≡ none
unfolding group_at
group_cut s at e h k l = rw (identity_some s at e h k, word_none s e l)

group_step : (s : List ℕ) (at e : ℕ) → e ≡ sid_end s at → (e ≡ 0 → ⊥) → e + 4 ≤ length s →
    group_at flat_reader s at ≡ some (record { sid = part s at e; attributes = u32_at s e }) (e + 4)
unfolding group_at
group_step s at e h k l = rw (identity_some s at e h k, word_some s e l)

-- what the walk has met, or what is still to come breaks a rule
abbrev pub groups_on : Bool → List Group → Bool
groups_on b gs = b || virtual_group gs

module _ (s : List ℕ) (at n : ℕ) (b : Bool) where
  pub groups_none : n ≡ 0 → told (groups_on b) (many (group_at flat_reader) n s at) ≡ some b at
  unfolding many virtual_group
  groups_none h = rw (h, or-false b)

  module _ (more : 0 < n) where
    pub groups_stop : sid_end s at ≡ 0 → told (groups_on b) (many (group_at flat_reader) n s at) ≡ none
    groups_stop h = told_stop (group_at flat_reader) (groups_on b) (groups_on b) s at n more (group_stop s at h)

    module _ (e : ℕ) (is : e ≡ sid_end s at) (found : e ≡ 0 → ⊥) where
      pub groups_cut : length s < e + 4 → told (groups_on b) (many (group_at flat_reader) n s at) ≡ none
      groups_cut h = told_stop (group_at flat_reader) (groups_on b) (groups_on b) s at n more (group_cut s at e is found h)

      pub groups_step : e + 4 ≤ length s →
          told (groups_on b) (many (group_at flat_reader) n s at)
          ≡ told (groups_on (b || virtual (part s at e))) (many (group_at flat_reader) (n - 1) s (e + 4))
      unfolding virtual_group
      groups_step h =
          told_step (group_at flat_reader) (groups_on b) (groups_on (b || virtual (part s at e))) s at n _ (e + 4) more
          (group_step s at e is found h)
          (λ l. or_cons b (virtual (part s at e)) (virtual_group l))

-- ---- capabilities

abbrev pub seen_on : Bool → Bool → List (List ℕ) → Seen
seen_on b l ws = record { breaks = b || virtual_in ws; listed = l || lists all_restricted ws }

module _ (s : List ℕ) (at n : ℕ) (b l : Bool) where
  pub capabilities_none : n ≡ 0 → told (seen_on b l) (many flat_identity n s at) ≡ some (record { breaks = b; listed = l }) at
  unfolding many virtual_in lists
  capabilities_none h = rw (h, or-false b, or-false l)

  module _ (more : 0 < n) where
    pub capabilities_stop : sid_end s at ≡ 0 → told (seen_on b l) (many flat_identity n s at) ≡ none
    capabilities_stop h = told_stop flat_identity (seen_on b l) (seen_on b l) s at n more (identity_none s at h)

    pub capabilities_step : (e : ℕ) → e ≡ sid_end s at → (e ≡ 0 → ⊥) →
        told (seen_on b l) (many flat_identity n s at)
        ≡ told (seen_on (b || virtual (part s at e)) (l || same (part s at e) all_restricted)) (many flat_identity (n - 1) s e)
    unfolding virtual_in lists
    capabilities_step e is found =
        let w = part s at e in
        told_step flat_identity (seen_on b l) (seen_on (b || virtual w) (l || same w all_restricted)) s at n w e more
        (identity_some s at e is found)
        (λ ws. ap₂ (λ (x y : Bool). record { breaks = x; listed = y }) (or_cons b (virtual w) (virtual_in ws))
        (or_cons l (same w all_restricted) (lists all_restricted ws)))

-- ---- what is told of a reading, as the code answers it

-- what was read, where something is told of it
pub record Told {A B : Type 0} (f : A → B) (q : Read A) (b : B) (end : ℕ) : Type 0 where
  pub a : A
  pub read : q ≡ some a end
  pub tells : f a ≡ b

told_none : {A B : Type 0} (f : A → B) (q : Read A) → told f q ≡ none → q ≡ none
told_none f none e = refl
told_none f (some a end) e = cc

told_some : {A B : Type 0} (f : A → B) (q : Read A) (b : B) (end : ℕ) → told f q ≡ some b end → Told f q b end
told_some f none b end e = let z : ◌≡◌ {A = ℕ} 0 1 = cc in absurd (omega arith)
told_some f (some a c) b end e = record { a = a; read = let k : c ≡ end = cc in ap (some a) k; tells = cc }

module _ {A : Type 0} (f : A → Bool) (q : Read A) where
  pub walk_none : walked None ≡ told f q → q ≡ none
  walk_none is = told_none f q (sym is)

  pub walk_some : (w : Walk) → walked (Some w) ≡ told f q → Told f q w.breaks w.next
  walk_some w is = told_some f q w.breaks w.next (sym is)

module _ (q : Read (List (List ℕ))) where
  pub seen_none : seen_by None ≡ told seen_of q → q ≡ none
  seen_none is = told_none seen_of q (sym is)

  pub seen_some : (r : Capabilities) → seen_by (Some r) ≡ told seen_of q →
      Told seen_of q (record { breaks = r.breaks; listed = r.listed }) r.next
  seen_some r is = told_some seen_of q (record { breaks = r.breaks; listed = r.listed }) r.next (sym is)

-- ---- a place that is found, as the code answers it

-- an identity from a place up to another
pub record Stands (s : List ℕ) (at e : ℕ) : Type 0 where
  pub is : e ≡ sid_end s at
  pub found : e ≡ 0 → ⊥
  pub past : at + 8 ≤ e
  pub inside : e ≤ length s

pub stands : (s : List ℕ) (at e : ℕ) → Some e ≡ found (sid_end s at) → Stands s at e
stands s at e h =
    let p = place_found (sid_end s at) e h in
    let b = sid_end_bounds s at (λ z. p.there (sym p.is ∙ z)) in
    let y : e ≡ sid_end s at = sym p.is in
    record { is = y; found = p.there; past = omega (arith, b.0); inside = omega (arith, b.1) }
