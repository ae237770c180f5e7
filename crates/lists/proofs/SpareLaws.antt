-- Entries with spare bytes or without (request 101): which entries with a SID are well shaped (long_enough, and in a SACL
-- audit_enough), the heading of one
-- (entry_head), where the next begins and where it lies (ace_next, ace_bounds, read_fits, ace_past), and what the entries of an accepted
-- list say (entries_said).
-- Not here: that nothing else is read, AlikeLaws. Assumes nothing.
use Prim.Native.Nat.{ℕ, zero, suc, ◌+◌, ◌<◌, ◌≤◌}
use mathlib.Core.Path.{◌≡◌, refl, ap, ap₂, ◌∙◌}
use mathlib.Core.List.{List, [], ◌∷◌}
use mathlib.Core.Bool.{Bool, true, false, cond}
use mathlib.Core.Logic.{◌↔◌}
use native.Mathlib.Omega.{arith}
use lib.ListN.{length}
use Rattle.base.specs.Bytes.{byte_at, u16_at, part}
use Rattle.sids.specs.Sid.{sid_end}
use Rattle.lists.specs.Acl.{callback, head_end, named, audits, judges, entry_end, scan_of, Entry, ace_at, entry_of, entries_at, entries_of}
use Rattle.lists.specs.Spare.{LongEnough, said_at, read_to}
use Rattle.lists.specs.declared.acl.Ace.{Ace}
use Rattle.conditions.specs.Scanning.Scan.{Plain}
use Rattle.sids.proofs.SidLaws.{sid_end_bounds}
use Rattle.lists.proofs.AclSteps.{HeadAt, head_at, head_end_short, head_end_whole}
use Rattle.lists.proofs.TypeLaws.{judges_deep, judges_shallow}
use Rattle.lists.proofs.EntrySteps.{holds_inside, entry_end_none, entry_end_is, entry_end_judged, entry_end_bounds, judged_sid, judged_fits}
use Rattle.lists.proofs.EntrySteps.{entry_end_sid, entry_end_fits}
use Rattle.lists.proofs.EntrySteps.{shown, ace_at_none, ace_at_some}
use Rattle.lists.proofs.AclLaws.{ace_found, entries_more, Plainly, plain_of_scan, plain_more}

-- ---- which entries are well shaped, and where the next one begins

-- the heading of an entry that is well shaped
pub entry_head : (l : List ℕ) (at : ℕ) → (entry_end true l at ≡ 0 → ⊥) → HeadAt l at
entry_head l at h = head_at l at (λ z. h (entry_end_is true l at h ∙ z))

module _ (deep : Bool) (l : List ℕ) (at : ℕ) (n : judges deep (byte_at l at) ≡ true) where
  long_of_shaped : (entry_end deep l at ≡ 0 → ⊥) → LongEnough l at
  long_of_shaped h =
      let e : entry_end deep l at ≡ head_end l at = entry_end_is deep l at h in
      let a : HeadAt l at = head_at l at (λ z. h (e ∙ z)) in
      let f : sid_end l (at + 8) ≤ entry_end deep l at = judged_fits deep l at n h in
      let b = sid_end_bounds l (at + 8) (judged_sid deep l at n h) in
      record { sid = judged_sid deep l at n h; size = omega (arith, b.0); four = a.four; inside = a.whole }

  shaped_of_long : LongEnough l at → entry_end deep l at ≡ 0 → ⊥
  shaped_of_long w z =
      let b = sid_end_bounds l (at + 8) w.sid in
      let b0 : at + 8 + 8 ≤ sid_end l (at + 8) = b.0 in
      let m : 4 ≤ u16_at l (at + 2) = omega (arith, w.size) in
      let e : head_end l at ≡ at + u16_at l (at + 2) = head_end_whole l at w.four m w.inside in
      let k : sid_end l (at + 8) ≤ head_end l at = omega (arith, w.size) in
      let q : entry_end deep l at ≡ head_end l at =
      entry_end_judged deep l at n ∙ rw (holds_inside l at (head_end l at) w.sid k) refl in
      omega arith

  -- an entry that is judged is well shaped exactly when its size is 8 plus its SID's length or more, a multiple of 4, and inside the list
  long_judged : (entry_end deep l at ≡ 0 → ⊥) ↔ LongEnough l at
  long_judged = (long_of_shaped, shaped_of_long)

-- in a DACL allow and deny entries and their callback kin, in a SACL audit entries
pub long_enough : (l : List ℕ) (at : ℕ) → named (byte_at l at) ≡ true → (entry_end true l at ≡ 0 → ⊥) ↔ LongEnough l at
long_enough l at n = long_judged true l at (judges_deep (byte_at l at) ∙ n)

pub audit_enough : (l : List ℕ) (at : ℕ) → audits (byte_at l at) ≡ true → (entry_end false l at ≡ 0 → ⊥) ↔ LongEnough l at
audit_enough l at n = long_judged false l at (judges_shallow (byte_at l at) ∙ n)

-- the next entry begins where the size says
pub ace_next : (l : List ℕ) (at : ℕ) → ((ace_at l at).next ≡ 0 → ⊥) → (ace_at l at).next ≡ at + u16_at l (at + 2)
ace_next l at h =
    let f = ace_found l at h in
    ap (λ (x : Ace). x.next) (ace_at_some l at f.0 f.1) ∙ entry_end_is true l at f.1 ∙ (entry_head l at f.1).ends

-- where an entry lies: its SID behind its place and inside it, and it inside the list
pub record AceLies (l : List ℕ) (at : ℕ) : Type 0 where
  pub sid : at + 16 ≤ (ace_at l at).to
  pub fits : (ace_at l at).to ≤ (ace_at l at).next
  pub past : at < (ace_at l at).next
  pub inside : (ace_at l at).next ≤ length l

pub ace_bounds : (l : List ℕ) (at : ℕ) → ((ace_at l at).next ≡ 0 → ⊥) → AceLies l at
ace_bounds l at h =
    let f = ace_found l at h in
    let i : ace_at l at ≡ shown l at = ace_at_some l at f.0 f.1 in
    let t : (ace_at l at).to ≡ sid_end l (at + 8) = ap (λ (x : Ace). x.to) i in
    let n : (ace_at l at).next ≡ entry_end true l at = ap (λ (x : Ace). x.next) i in
    let s = sid_end_bounds l (at + 8) (entry_end_sid l at f.0 f.1) in
    let s0 : at + 8 + 8 ≤ sid_end l (at + 8) = s.0 in
    let k : sid_end l (at + 8) ≤ entry_end true l at = entry_end_fits l at f.0 f.1 in
    let b = entry_end_bounds true l at f.1 in
    let b1 : entry_end true l at ≤ length l = b.1 in
    record { sid = omega arith; fits = omega arith; past = omega arith; inside = omega arith }

-- no byte behind it is read
pub read_fits : (l : List ℕ) (at : ℕ) → ((ace_at l at).next ≡ 0 → ⊥) → read_to (ace_at l at) ≤ (ace_at l at).next
read_fits l at h = go (callback (ace_at l at).kind) (ace_bounds l at h).fits
  where
    go : (t : Bool) → (ace_at l at).to ≤ (ace_at l at).next → cond t (ace_at l at).next (ace_at l at).to ≤ (ace_at l at).next
    go true f = omega arith
    go false f = f

-- no entry stands at the end of a list, or behind it
pub ace_past : (l : List ℕ) (at : ℕ) → length l ≤ at → (ace_at l at).next ≡ 0
ace_past l at h =
    ap (λ (x : Ace). x.next) (ace_at_none l at (entry_end_none true l at (head_end_short l at (omega arith))))

-- ---- what the entries of an accepted list say

-- an entry says its type, flags, mask, SID and condition, whatever its size
entry_said : (l : List ℕ) (n at : ℕ) → ((ace_at l at).next ≡ 0 → ⊥) →
    entry_of l (ace_at l at) ∷ said_at l n (ace_at l at).next ≡ said_at l (suc n) at
unfolding said_at
entry_said l n at h =
    let f = ace_found l at h in
    ap₂
    (λ (a : Ace) (e : ℕ). record {
      kind = a.kind;
      flags = a.flags;
      mask = a.mask.0;
      sid = part l a.from a.to;
      condition = cond (callback a.kind) (part l a.to e) [];
    } ∷ said_at l n e)
    (ace_at_some l at f.0 f.1)
    (ace_next l at h)

plain_said : (l : List ℕ) (n at : ℕ) → Plainly l n at → entries_at l n at ≡ said_at l n at
unfolding entries_at said_at
plain_said l zero at p = refl
plain_said l (suc n) at p =
    let o = plain_more l n at p in
    entries_more l n at o.some
    ∙ ap (λ (r : List Entry). entry_of l (ace_at l at) ∷ r) (plain_said l n (ace_at l at).next o.rest)
    ∙ entry_said l n at o.some

pub entries_said : (l : List ℕ) → scan_of true l ≡ Plain → entries_of l ≡ said_at l (u16_at l 4) 8
unfolding entries_of
entries_said l p = plain_said l (u16_at l 4) 8 (plain_of_scan l p)
