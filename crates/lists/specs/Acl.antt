-- "ACL: revision 2 or 4, a byte, size u16, count u16, two bytes. Size is at least 8 and fits. The entries follow back to back."
use Rattle.std.specs.Prelude.{ℕ, zero, suc, ◌+◌, ◌%◌, List, [], ◌∷◌, Bool, true, false, cond, ◌&&◌, ◌||◌, length, ltb, leb, eqb, Option, None, Some}
use Rattle.base.specs.Bytes.{byte_at, u16_at, u32_at, part}
use Rattle.sids.specs.Sid.{sid_end}
use Rattle.conditions.specs.Scanning.{is_broken, is_foreign}
use Rattle.conditions.specs.Condition.{shape}
use Rattle.lists.specs.declared.acl.Ace.{Ace}
use Rattle.conditions.specs.Scanning.{Scan}
use Rattle.conditions.specs.Scanning.Scan.{Broken, Foreign, Plain}

-- ---- the list

-- the place after the ACL whose heading stands at a place; 0 where the heading is misshapen or the size does not fit
unfoldable pub acl_end : List ℕ → ℕ → ℕ
acl_end s at =
    let n = u16_at s (at + 2) in
    cond (ltb (length s) (at + 8)) 0
    (cond (eqb (byte_at s at) 2 || eqb (byte_at s at) 4)
    (cond (ltb n 8) 0
    (cond (ltb (length s) (at + n)) 0 (at + n)))
    0)

-- ---- an entry, at a place of its list's own bytes

-- "type, flags, size u16 (a multiple of 4, at least 4, inside the ACL)": the place after the entry; 0 where it is misshapen
unfoldable pub head_end : List ℕ → ℕ → ℕ
head_end l at =
    let n = u16_at l (at + 2) in
    cond (ltb (length l) (at + 4)) 0
    (cond (eqb (n % 4) 0)
    (cond (ltb n 4) 0
    (cond (ltb (length l) (at + n)) 0 (at + n)))
    0)

-- "callback entries (types 9 and 10)" (request 103): allow and deny with a condition behind the SID
unfoldable pub callback : ℕ → Bool
callback t = eqb t 9 || eqb t 10

-- "Types 0 (allow) and 1 (deny) hold a u32 mask and one SID"; so do callback entries
unfoldable pub named : ℕ → Bool
named t = ltb t 2 || callback t

-- "audit entries (type 2, ..)" (request 105) hold a u32 mask and one SID too
unfoldable pub audits : ℕ → Bool
audits t = eqb t 2

-- which types are judged by request 101's rule: in a DACL (deep) allow and deny entries with their callback kin, in a SACL audit entries
unfoldable pub judges : Bool → ℕ → Bool
judges deep t = cond deep (named t) (audits t)

-- "Accept a size of 8 plus the SID's length or more" (request 101): the SID ends inside its own entry. In an allow or deny entry the bytes
-- from there to the entry's end are spare: nothing reads them (Spare.antt). In a callback entry they are its condition
abbrev pub fitting : ℕ → ℕ → Bool
fitting sid-end entry-end = leb sid-end entry-end

-- the entry from a place to its end holds a mask and one SID, and maybe more bytes
unfoldable pub holds : List ℕ → ℕ → ℕ → Bool
holds l at e = let k = sid_end l (at + 8) in cond (eqb k 0) false (fitting k e)

-- "This last rule is of shape, and applies in DACLs; in SACLs only headers and sizes are read", and "Audit entries get 101's shape rule"
-- (request 105): deep is true in a DACL
unfoldable pub entry_end : Bool → List ℕ → ℕ → ℕ
entry_end deep l at = let e = head_end l at in cond (judges deep (byte_at l at)) (cond (holds l at e) e 0) e

-- "Broken expressions give 6 or 9, other tokens 8 or 10": what the entry from a place to its end holds. A type other than 0, 1, 9 and 10 is
-- foreign; in a DACL a condition is judged, whomever the entry names and whatever its flags
unfoldable pub content_of : Bool → List ℕ → ℕ → ℕ → Scan
content_of deep l at e =
    let c = shape (part l (sid_end l (at + 8)) e) in
    cond (named (byte_at l at)) (cond (deep && callback (byte_at l at)) c Plain) Foreign

-- ---- all entries

-- n entries stand back to back from a place, and no condition is broken
unfoldable pub shaped : Bool → List ℕ → ℕ → ℕ → Bool
shaped deep l zero at = true
shaped deep l (suc n) at =
    let e = entry_end deep l at in
    let r = cond (is_broken (content_of deep l at e)) false (shaped deep l n e) in
    cond (eqb e 0) false r

-- one of them has a type other than 0, 1, 9 and 10, or an other token in its condition
unfoldable pub foreign : Bool → List ℕ → ℕ → ℕ → Bool
foreign deep l zero at = false
foreign deep l (suc n) at =
    let e = entry_end deep l at in
    let r = foreign deep l n e in
    cond (is_foreign (content_of deep l at e)) true r

-- what a list's own bytes hold: misshapen entries, something foreign, or plain entries only
abbrev pub scanned : Bool → Bool → Scan
scanned whole alien = cond whole (cond alien Foreign Plain) Broken

unfoldable pub scan_of : Bool → List ℕ → Scan
scan_of deep l = scanned (shaped deep l (u16_at l 4) 8) (foreign deep l (u16_at l 4) 8)

-- ---- what the entries of an accepted list say

-- "Lists read the same if their entries agree in order in type, flags, mask and SID", and "only with equal condition bytes" (request 103):
-- so these are what an entry is. An allow or deny entry has no condition
pub record Entry : Type 0 where
  pub kind : ℕ
  pub flags : ℕ
  pub mask : ℕ
  pub sid : List ℕ
  pub condition : List ℕ

-- the entry as the code reads it: where its SID stands, and the place after the entry; all 0 where no entry with a SID stands
abbrev pub no_ace : Ace
no_ace = record { kind = 0; flags = 0; mask = record { 0 = 0 }; from = 0; to = 0; next = 0 }

-- what the code answers: the entry, or none
abbrev pub stands : Ace → Option Ace
stands a = cond (eqb a.next 0) None (Some a)

unfoldable pub ace_at : List ℕ → ℕ → Ace
ace_at l at =
    let e = entry_end true l at in
    let plain : Ace =
    record {
      kind = byte_at l at;
      flags = byte_at l (at + 1);
      mask = record { 0 = u32_at l (at + 4) };
      from = at + 8;
      to = sid_end l (at + 8);
      next = e;
    } in
    cond (named (byte_at l at)) (cond (eqb e 0) no_ace plain) no_ace

-- all bytes behind the SID of a callback entry are its condition, zero padding too
abbrev pub condition_of : List ℕ → Ace → List ℕ
condition_of l a = cond (callback a.kind) (part l a.to a.next) []

abbrev pub entry_of : List ℕ → Ace → Entry
entry_of l a =
    record { kind = a.kind; flags = a.flags; mask = a.mask.0; sid = part l a.from a.to; condition = condition_of l a }

-- the n entries from a place, in stored order
unfoldable pub entries_at : List ℕ → ℕ → ℕ → List Entry
entries_at l zero at = []
entries_at l (suc n) at =
    let a = ace_at l at in
    let r = entry_of l a ∷ entries_at l n a.next in
    cond (eqb a.next 0) [] r

unfoldable pub entries_of : List ℕ → List Entry
entries_of l = entries_at l (u16_at l 4) 8
