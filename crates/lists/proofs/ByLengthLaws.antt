-- Laws of entries found by their lengths (specs: ByLength). In order: the entry by each test (by_length_short, -cut, -past, -made); a well
-- shaped entry with a SID is found as it is (by_length_is); so are all entries of a list that was found plain (entries_by_length_lem), of an
-- empty one (entries_by_none), and so of an accepted descriptor's (dacl_by_length).
-- Assumes nothing.
use Prim.Native.Nat.{ℕ, zero, suc, ◌+◌, ◌*◌, ◌<◌, ◌≤◌}
use mathlib.Core.Path.{◌≡◌, refl, sym, ap, ◌∙◌}
use mathlib.Core.List.{List, ◌∷◌}
use mathlib.Core.Bool.{Bool, true, false}
use native.Mathlib.Omega.{arith}
use lib.ListN.{length}
use borrow.Author.Tests.{lt-ltb, le-ltb, ne_eqb}
use Rattle.base.specs.Bytes.{byte_at, u16_at, u32_at}
use Rattle.base.proofs.WordsLaws.{u16_at_out}
use Rattle.lists.specs.Acl.{head_end, named, entry_end, scan_of, Entry, no_ace, ace_at, entry_of, entries_at, entries_of}
use Rattle.lists.specs.ByLength.{ace_by_length, entries_by_length_at, entries_by_length}
use Rattle.lists.specs.Descriptor.{parts_of, dacl_of}
use Rattle.lists.specs.declared.acl.Ace.{Ace}
use Rattle.conditions.specs.Scanning.Scan.{Plain}
use Rattle.lists.specs.Descriptor.Verdict.{Whole}
use Rattle.sids.proofs.SidLaws.{SidAt, sid_at}
use Rattle.lists.proofs.AclSteps.{HeadAt, head_at}
use Rattle.lists.proofs.EntrySteps.{entry_end_is, entry_end_bounds, entry_end_sid, entry_end_fits, ace_at_some}
use Rattle.lists.proofs.AclLaws.{Plainly, plain_of_scan, plain_more, ace_found}
use Rattle.lists.proofs.DescriptorLaws.{whole_dacl, whole_null}

-- ---- the entry, by each test

module _ (l : List ℕ) (at : ℕ) where
  pub by_length_short : length l < at + 16 → ace_by_length l at ≡ no_ace
  unfolding ace_by_length
  by_length_short h = rw (lt-ltb (length l) (at + 16) h)

  module _ (next : ℕ) (size : next ≡ at + u16_at l (at + 2)) (long : at + 16 ≤ length l) where
    pub by_length_cut : length l < next → ace_by_length l at ≡ no_ace
    unfolding ace_by_length
    by_length_cut h = rw (← size, le-ltb (length l) (at + 16) long, lt-ltb (length l) next h)

    module _ (to : ℕ) (words : to ≡ at + 16 + 4 * byte_at l (at + 9)) (inside : next ≤ length l) where
      pub by_length_past : next < to → ace_by_length l at ≡ no_ace
      unfolding ace_by_length
      by_length_past h = rw (← size, ← words, le-ltb (length l) (at + 16) long, le-ltb (length l) next inside, lt-ltb next to h)

      pub by_length_made : (m : ℕ) → m ≡ u32_at l (at + 4) → to ≤ next →
          ◌≡◌
          {A = Ace}
          (record {
            kind = byte_at l at;
            flags = byte_at l (at + 1);
            mask = record { 0 = m };
            from = at + 8;
            to = to;
            next = next;
          })
          (ace_by_length l at)
      unfolding ace_by_length
      by_length_made m p h =
          rw (← size, ← words, p, le-ltb (length l) (at + 16) long, le-ltb (length l) next inside, le-ltb next to h)

-- ---- a well shaped entry is found as it is

pub by_length_is : (l : List ℕ) (at : ℕ) → named (byte_at l at) ≡ true → (entry_end true l at ≡ 0 → ⊥) → ace_by_length l at ≡ ace_at l at
by_length_is l at n h =
    let e : entry_end true l at ≡ head_end l at = entry_end_is true l at h in
    let g : HeadAt l at = head_at l at (λ q. h (e ∙ q)) in
    let z : head_end l at ≡ at + u16_at l (at + 2) = g.ends in
    let b : entry_end true l at ≤ length l = (entry_end_bounds true l at h).1 in
    let s : SidAt l (at + 8) = sid_at l (at + 8) (entry_end_sid l at n h) in
    let f = entry_end_fits l at n h in
    let p : at + 8 + 1 ≡ at + 9 = omega arith in
    let c : byte_at l (at + 8 + 1) ≡ byte_at l (at + 9) = ap (byte_at l) p in
    let k = s.ends in
    let i = s.whole in
    sym (by_length_made l at (entry_end true l at) (e ∙ z) (omega arith) _ (omega arith) b (u32_at l (at + 4)) refl f)
    ∙ sym (ace_at_some l at n h)

by_length_all : (l : List ℕ) (n at : ℕ) → Plainly l n at → entries_by_length_at l n at ≡ entries_at l n at
unfolding entries_by_length_at entries_at
by_length_all l zero at p = refl
by_length_all l (suc n) at p =
    let m = plain_more l n at p in
    let f = ace_found l at m.some in
    rw (by_length_is l at f.0 f.1, ne_eqb (ace_at l at).next 0 m.some)
    (ap (λ (r : List Entry). entry_of l (ace_at l at) ∷ r) (by_length_all l n (ace_at l at).next m.rest))

-- the entries of a list that was found plain
pub entries_by_length_lem : (l : List ℕ) → scan_of true l ≡ Plain → entries_by_length l ≡ entries_of l
unfolding entries_by_length entries_of
entries_by_length_lem l h = by_length_all l (u16_at l 4) 8 (plain_of_scan l h)

-- and those of no bytes at all, which are none
pub entries_by_none : (l : List ℕ) → length l ≡ 0 → entries_by_length l ≡ entries_of l
unfolding entries_by_length entries_of entries_by_length_at entries_at
entries_by_none l e = rw (u16_at_out l 4 (omega arith))

-- so those of the access list of an accepted descriptor, which is plain or empty
pub dacl_by_length : (d : List ℕ) → (parts_of d).verdict ≡ Whole → entries_by_length (dacl_of d) ≡ entries_of (dacl_of d)
dacl_by_length d whole = go (parts_of d).null refl
  where
    go : (b : Bool) → (parts_of d).null ≡ b → entries_by_length (dacl_of d) ≡ entries_of (dacl_of d)
    go true e = entries_by_none (dacl_of d) (ap length (whole_null d whole e))
    go false e = entries_by_length_lem (dacl_of d) (whole_dacl d whole e).0
