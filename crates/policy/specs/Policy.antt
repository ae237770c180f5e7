-- "Policy (source 004): at most 262,144 bytes; version 1; rule count u32, at most 256; per rule five sections with a u32 length:
-- applies_to (at most 65,536), effective DACL (not empty), effective SACL, staged DACL, staged SACL. An ACL section's length equals its
-- ACL's size. Nothing follows. An empty policy means none."
use Rattle.std.specs.Prelude.{ℕ, zero, suc, ◌+◌, ◌≤◌, List, Bool, true, false, cond, ◌||◌, length, ltb, eqb, Option, None, Some, Result, Ok, Err}
use Rattle.base.specs.Bytes.{byte_at, u32_at, part}
use Rattle.conditions.specs.Scanning.{is_broken, is_foreign}
use Rattle.conditions.specs.Condition.{shape}
use Rattle.conditions.specs.declared.fault.Fault.{Fault}
use Rattle.conditions.specs.declared.fault.Fault.TheVariants as fault
use Rattle.lists.specs.Acl.{acl_end, scan_of}
use Rattle.conditions.specs.Scanning.{Scan}
use Rattle.conditions.specs.Scanning.Scan.{Broken, Plain}
use Rattle.lists.specs.declared.descriptor.Extent.{Extent}
use Rattle.policy.specs.declared.one_rule.Rule.{Rule}
use Rattle.policy.specs.Standing.{Standing}
use Rattle.policy.specs.Standing.Standing.{Sound, Misshapen, Unread}

-- the page's number for each standing
unfoldable pub number_of : Standing → ℕ
number_of Sound = 0
number_of Misshapen = 9
number_of Unread = 10

-- ---- sections

-- the bytes of a section stand from `from` to `to`; both 0 where the length or the bytes do not fit
abbrev pub section : ℕ → ℕ → Extent
section a e = record { from = a; to = e }

unfoldable pub section_at : List ℕ → ℕ → Extent
section_at s at =
    let n = u32_at s at in
    cond (ltb (length s) (at + 4)) (section 0 0) (cond (ltb (length s) (at + 4 + n)) (section 0 0) (section (at + 4) (at + 4 + n)))

abbrev pub bytes_of : List ℕ → Extent → List ℕ
bytes_of s x = part s x.from x.to

-- a section lies within the bytes
abbrev pub Lies : List ℕ → Extent → Type 0
Lies s x = (x.from ≤ x.to) × (x.to ≤ length s)

-- "An ACL section's length equals its ACL's size."
unfoldable pub acl_section : Bool → List ℕ → Scan
acl_section deep l = let e = acl_end l 0 in cond (eqb e 0) Broken (cond (eqb e (length l)) (scan_of deep l) Broken)

-- a section that may be empty
unfoldable pub maybe_acl : Bool → List ℕ → Scan
maybe_acl deep l = cond (eqb (length l) 0) Plain (acl_section deep l)

-- "applies_to (at most 65,536)": no bytes, or an expression in request 103's profile
unfoldable pub applies_section : List ℕ → Scan
applies_section l = cond (eqb (length l) 0) Plain (cond (ltb 65536 (length l)) Broken (shape l))

-- ---- a rule

-- misshapen: the place after it is 0
abbrev pub no_rule : Rule
no_rule =
    record {
      next = 0;
      unread = false;
      applies = section 0 0;
      effective = section 0 0;
      sacl = section 0 0;
      staged = section 0 0;
      staged_sacl = section 0 0;
    }

-- a rule lies within the bytes, misshapen or not
abbrev pub Placed : List ℕ → Rule → Type 0
Placed s r =
    (r.next ≤ length s)
    × (Lies s r.applies × (Lies s r.effective × (Lies s r.sacl × (Lies s r.staged × Lies s r.staged_sacl))))

-- five sections; "Broken expressions give 6 or 9, other tokens 8 or 10" (request 103), in applies_to as in the lists
unfoldable pub rule_of : List ℕ → Extent → Extent → Extent → Extent → Extent → Rule
rule_of s applies dacl sacl staged staged_sacl =
    let applies_scan = applies_section (bytes_of s applies) in
    let effective_scan = acl_section true (bytes_of s dacl) in
    let staged_scan = maybe_acl true (bytes_of s staged) in
    cond (eqb applies.to 0) no_rule
    (cond (is_broken applies_scan) no_rule
    (cond (eqb dacl.to 0) no_rule
    (cond (is_broken effective_scan) no_rule
    (cond (eqb sacl.to 0) no_rule
    (cond (is_broken (maybe_acl false (bytes_of s sacl))) no_rule
    (cond (eqb staged.to 0) no_rule
    (cond (is_broken staged_scan) no_rule
    (cond (eqb staged_sacl.to 0) no_rule
    (cond (is_broken (maybe_acl false (bytes_of s staged_sacl))) no_rule
    (record {
      next = staged_sacl.to;
      unread = is_foreign applies_scan || is_foreign effective_scan || is_foreign staged_scan;
      applies = applies;
      effective = dacl;
      sacl = sacl;
      staged = staged;
      staged_sacl = staged_sacl;
    }))))))))))

unfoldable pub rule_at : List ℕ → ℕ → Rule
rule_at s at =
    let applies = section_at s at in
    let dacl = section_at s applies.to in
    let sacl = section_at s dacl.to in
    let staged = section_at s sacl.to in
    rule_of s applies dacl sacl staged (section_at s staged.to)

-- ---- what the code answers

-- a section, where it fits
abbrev pub fitting : Extent → Option Extent
fitting x = cond (eqb x.to 0) None (Some x)

-- whether something foreign was found, where nothing is broken
abbrev pub alien : Result Unit Fault → Option Bool
alien (Ok u) = Some false
alien (Err fault.Foreign) = Some true
alien (Err fault.Broken) = None

-- a rule, where it is not misshapen
abbrev pub found : Rule → Option Rule
found r = cond (eqb r.next 0) None (Some r)

-- ---- the whole policy

-- n rules stand back to back from a place, and nothing follows
unfoldable pub rules_shaped : List ℕ → ℕ → ℕ → Bool
rules_shaped s zero at = eqb at (length s)
rules_shaped s (suc n) at = let r = rule_at s at in let q = rules_shaped s n r.next in cond (eqb r.next 0) false q

-- number 10: "a rule's effective or staged DACL an entry type other than 0 or 1", 9 or 10 since request 103, or an other token in a
-- condition of these or in an applies_to. (An applies_to is no longer 10 by itself.)
unfoldable pub rules_unread : List ℕ → ℕ → ℕ → Bool
rules_unread s zero at = false
rules_unread s (suc n) at = let r = rule_at s at in let q = rules_unread s n r.next in cond r.unread true q

abbrev pub standing : Bool → Bool → Standing
standing shaped unread = cond shaped (cond unread Unread Sound) Misshapen

unfoldable pub standing_of : List ℕ → Standing
standing_of s =
    let n = u32_at s 1 in
    cond (eqb (length s) 0) Sound
    (cond (ltb 262144 (length s)) Misshapen
    (cond (ltb (length s) 5) Misshapen
    (cond (eqb (byte_at s 0) 1)
    (cond (ltb 256 n) Misshapen (standing (rules_shaped s n 5) (rules_unread s n 5)))
    Misshapen)))
