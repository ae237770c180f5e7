-- One turn of the pass, by the way that it takes: no entry stands, it changes nothing, or it steps the tally on.
-- Assumes nothing.
use Prim.Native.Nat.{ℕ, suc, ◌-◌}
use mathlib.Core.Bool.{Bool, true, false, cond, ◌&&◌, ◌||◌, or-false, and-false}
use mathlib.Core.List.{List, [], ◌∷◌}
use mathlib.Core.Path.{◌≡◌, refl, sym, ap, ap₂, ◌∙◌}
use native.Mathlib.Omega.{arith}
use borrow.Author.Tests.{eq-eqb, ne_eqb}
use Rattle.base.specs.Bits.{has, covers}
use Rattle.base.specs.Bytes.{same, part, u16_at}
use Rattle.std.specs.Prelude.{Some}
use Rattle.lists.specs.Acl.{Entry, entry_of, stands}
use Rattle.lists.specs.ByLength.{ace_by_length, entries_by_length_at, entries_by_length}
use Rattle.sids.specs.Sid.{owner_rights, principal_self, virtual}
use Rattle.lists.specs.declared.acl.Ace.{Ace}
use Rattle.records.specs.Crowd.{Member}
use Rattle.masks.specs.KindsAndMasks.{all_bits, entry_mask}
use Rattle.passes.specs.Matching.{matches}
use Rattle.passes.specs.NormalEvaluation.{counts, names_owner}
use Rattle.masks.specs.TheTally.{emptied, allowing, denying, stepped, idle}
use Rattle.passes.specs.OnePass.{skipped, allows, speaks, taken, run}
use Rattle.passes.specs.OneWalk.{walked_by, walked_from, walked_of}
use Rattle.passes.specs.declared.matching.Hits.{Hits}
use Rattle.masks.specs.declared.tally.Tally.{Tally}
use Rattle.lists.proofs.EntrySteps.{stands_is}
use Rattle.base.proofs.BitsLaws.{within_covers}
use Rattle.base.proofs.BoolLaws.{neither}
use Rattle.masks.proofs.MasksLaws.{entry_mask_within}
use Rattle.masks.proofs.TallyLaws.{allowing_decided, denying_decided}

-- ---- the tally

pub taken_idle : (kind : ℕ) (ms : List Member) (h : Hits) (t : Tally) (x : Entry) → idle t x.flags (entry_mask kind x.mask) ≡ true →
    taken kind ms h t x ≡ t
unfolding taken
taken_idle kind ms h t x e = go (has x.flags 0x08) (speaks ms h x) (allows x) e
  where
    m : ℕ
    m = entry_mask kind x.mask

    go : (skip hit allow : Bool) → cond skip true (covers t.decided.0 m) ≡ true →
        cond skip t (cond hit (cond allow (allowing t m) (denying t m)) t) ≡ t
    go true hit allow e = refl
    go false true true e = allowing_decided t m e
    go false true false e = denying_decided t m e
    go false false allow e = refl

-- an entry that is for children only, or that nobody matches
pub taken_skipped : (kind : ℕ) (ms : List Member) (h : Hits) (t : Tally) (x : Entry) → skipped x ≡ true → taken kind ms h t x ≡ t
unfolding taken
taken_skipped kind ms h t x e = rw e

pub taken_missed : (kind : ℕ) (ms : List Member) (h : Hits) (t : Tally) (x : Entry) → matches (allows x) ms h x.sid ≡ false →
    taken kind ms h t x ≡ t
unfolding taken
taken_missed kind ms h t x e = rw e (either (skipped x) t)
  where
    either : (b : Bool) (t : Tally) → cond b t t ≡ t
    either true t = refl
    either false t = refl

-- where all bits are decided no entry changes anything
pub taken_full : (kind : ℕ) (ms : List Member) (h : Hits) (t : Tally) (x : Entry) → t.decided.0 ≡ all_bits kind → taken kind ms h t x ≡ t
taken_full kind ms h t x e = taken_idle kind ms h t x (go (has x.flags 0x08))
  where
    m : ℕ
    m = entry_mask kind x.mask

    go : (skip : Bool) → cond skip true (covers t.decided.0 m) ≡ true
    go true = refl
    go false = rw e (within_covers (all_bits kind) m (entry_mask_within kind x.mask))

pub taken_by : (kind : ℕ) (ms : List Member) (h : Hits) (t : Tally) (x : Entry) (hit : Bool) (m : ℕ) → m ≡ entry_mask kind x.mask →
    skipped x ≡ false → hit ≡ speaks ms h x → stepped t hit (allows x) m ≡ taken kind ms h t x
unfolding taken
taken_by kind ms h t x hit m e i p = rw (i, ← p, ← e)

-- ---- the walk

names_step : (n b r : Bool) → (n || cond b true r) ≡ ((n || b) || r)
names_step true b r = refl
names_step false true r = refl
names_step false false r = refl

pub walked_end : (kind : ℕ) (ms : List Member) (h : Hits) (t : Tally) (named : Bool) →
    walked_from kind ms h t named [] ≡ walked_by t named
unfolding run names_owner
walked_end kind ms h t named = rw (or-false named)

pub walked_step : (kind : ℕ) (ms : List Member) (h : Hits) (t : Tally) (named : Bool) (x : Entry) (es : List Entry) →
    walked_from kind ms h t named (x ∷ es) ≡ walked_from kind ms h (taken kind ms h t x) (named || (counts x && same x.sid owner_rights)) es
unfolding run names_owner
walked_step kind ms h t named x es = rw (names_step named (counts x && same x.sid owner_rights) (names_owner es))

-- ---- the entries, where n are left and a stands at the place

pub entry_stands : (a b : Ace) → Some a ≡ stands b → a.next ≡ 0 → ⊥
entry_stands a b q z = let s = stands_is a b q in s.1 (sym (ap (λ (x : Ace). x.next) s.0) ∙ z)

pub entries_end : (list : List ℕ) (n at : ℕ) → n ≡ 0 → entries_by_length_at list n at ≡ []
unfolding entries_by_length_at
entries_end list n at z = rw z

module _ (list : List ℕ) (n less at : ℕ) (a : Ace) (here : a ≡ ace_by_length list at) (one : n ≡ suc less) where
  pub entries_bad : a.next ≡ 0 → entries_by_length_at list n at ≡ []
  unfolding entries_by_length_at
  entries_bad z = rw (one, ← here, eq-eqb a.next 0 z)

  entries_on : (a.next ≡ 0 → ⊥) → entries_by_length_at list n at ≡ entry_of list a ∷ entries_by_length_at list less a.next
  unfolding entries_by_length_at
  entries_on k = rw (one, ← here, ne_eqb a.next 0 k)

  -- one entry on, with the tally and the naming that it leaves
  pub walk_on : (kind : ℕ) (ms : List Member) (h : Hits) (t t2 : Tally) (named named2 : Bool) → (a.next ≡ 0 → ⊥) →
      named2 ≡ (named || (counts (entry_of list a) && same (part list a.from a.to) owner_rights)) →
      t2 ≡ taken kind ms h t (entry_of list a) →
      walked_from kind ms h t named (entries_by_length_at list n at) ≡ walked_from kind ms h t2 named2 (entries_by_length_at list less a.next)
  walk_on kind ms h t t2 named named2 k p q =
      ap (λ (es : List Entry). walked_from kind ms h t named es) (entries_on k)
      ∙ walked_step kind ms h t named (entry_of list a) (entries_by_length_at list less a.next)
      ∙ sym (ap₂ (λ (u : Tally) (b : Bool). walked_from kind ms h u b (entries_by_length_at list less a.next)) q p)

-- ---- whether S-1-3-4 was named before, or is by the entry

module _ (named : Bool) (x : Entry) where
  pub names_skipped : skipped x ≡ true → named ≡ (named || (counts x && same x.sid owner_rights))
  names_skipped e = rw (e, or-false named)

  pub names_other : virtual x.sid ≡ false → named ≡ (named || (counts x && same x.sid owner_rights))
  names_other v = rw ((neither (same x.sid owner_rights) (same x.sid principal_self) v).0, and-false (counts x), or-false named)

  pub names_counted : skipped x ≡ false → (named || same x.sid owner_rights) ≡ (named || (counts x && same x.sid owner_rights))
  names_counted e = rw e

pub walk_start : (kind : ℕ) (ms : List Member) (h : Hits) (list : List ℕ) (n : ℕ) (t : Tally) → n ≡ u16_at list 4 → t ≡ emptied →
    walked_of kind ms h (entries_by_length list) ≡ walked_from kind ms h t false (entries_by_length_at list (n - 0) 8)
unfolding entries_by_length
walk_start kind ms h list n t p q = let z : n - 0 ≡ n = omega arith in rw (z, p, q)

pub walk_end : (kind : ℕ) (ms : List Member) (h : Hits) (t : Tally) (named : Bool) (es : List Entry) → es ≡ [] →
    walked_from kind ms h t named es ≡ walked_by t named
walk_end kind ms h t named es e = ap (λ (l : List Entry). walked_from kind ms h t named l) e ∙ walked_end kind ms h t named
