-- "Read audit entries (type 2, flags 0x40 success and 0x80 failure) from the descriptor's SACL and each applying rule's effective SACL. Write
-- one event per entry that lacks flag 0x08, matches the token for deny, covers an explicit bit and has the flag for the final allowed
-- answer: source (0 descriptor, else rule number from 1), entry number from 0 and mask as stored" (request 105).
use Rattle.std.specs.Prelude.{ℕ, zero, suc, ◌+◌, List, [], ◌∷◌, ◌++◌, Bool, true, false, cond, not, ◌&&◌, ◌||◌, eqb}
use Rattle.base.specs.Bytes.{byte_at, u16_at, u32_at, part, same}
use Rattle.base.specs.Bits.{has}
use Rattle.sids.specs.Sid.{sid_end}
use Rattle.lists.specs.Acl.{audits, entry_end}
use Rattle.records.specs.Crowd.{Member}
use Rattle.masks.specs.KindsAndMasks.{entry_mask}
use Rattle.passes.specs.Matching.{matches}
use Rattle.passes.specs.declared.matching.Hits.{Hits}
use Rattle.policy.specs.Rules.{Lists, there, applies_to}
use Rattle.audit.specs.Spot.{Spot}
use Rattle.audit.specs.declared.firing.Sought.{Sought}

-- ---- the entries of a SACL

-- an entry of a SACL: whether it is an audit entry, and then its flags, its mask as stored and whom it names
pub record Audit : Type 0 where
  pub audits : Bool
  pub flags : ℕ
  pub mask : ℕ
  pub sid : List ℕ

-- the entry as the code reads it, with the place after it; that place is 0 where no entry stands. Of another type nothing more is read
abbrev pub other_spot : ℕ → Spot
other_spot e = record { audits = false; flags = 0; mask = record { 0 = 0 }; from = 0; to = 0; next = e }

unfoldable pub spot_at : List ℕ → ℕ → Spot
spot_at l at =
    let e = entry_end false l at in
    let x : Spot =
    record {
      audits = true;
      flags = byte_at l (at + 1);
      mask = record { 0 = u32_at l (at + 4) };
      from = at + 8;
      to = sid_end l (at + 8);
      next = e;
    } in
    cond (eqb e 0) (other_spot 0) (cond (audits (byte_at l at)) x (other_spot e))

abbrev pub audit_of : List ℕ → Spot → Audit
audit_of l x = record { audits = x.audits; flags = x.flags; mask = x.mask.0; sid = part l x.from x.to }

-- the n entries from a place, in stored order, of any type
unfoldable pub audits_at : List ℕ → ℕ → ℕ → List Audit
audits_at l zero at = []
audits_at l (suc n) at =
    let x = spot_at l at in
    let r = audit_of l x ∷ audits_at l n x.next in
    cond (eqb x.next 0) [] r

-- an absent SACL has no bytes, and no entries
unfoldable pub audits_of : List ℕ → List Audit
audits_of l = audits_at l (u16_at l 4) 8

-- ---- which of them fire

-- "the flag for the final allowed answer"
abbrev pub flag_for : Bool → ℕ
flag_for allowed = cond allowed 0x40 0x80

-- an entry fires: it "lacks flag 0x08", it "has the flag for the final allowed answer", it "covers an explicit bit" and it "matches the
-- token for deny". Sought are the kind, the explicit bits and the allowed answer
unfoldable pub fires : Sought → List Member → Hits → Audit → Bool
fires s ms h a =
    a.audits
    && (not (has a.flags 0x08)
    && (has a.flags (flag_for s.allowed)
    && (has (entry_mask s.kind a.mask) s.bits.0
    && matches false ms h a.sid)))

-- ---- the events

pub record Event : Type 0 where
  pub source : ℕ
  pub entry : ℕ
  pub mask : ℕ

abbrev pub event : ℕ → ℕ → ℕ → Event
event source entry mask = record { source = source; entry = entry; mask = mask }

-- of a source's entries, the first of which has a number
unfoldable pub events_from : Sought → List Member → Hits → ℕ → ℕ → List Audit → List Event
events_from s ms h source n [] = []
events_from s ms h source n (a ∷ xs) =
    let r = events_from s ms h source (n + 1) xs in
    cond (fires s ms h a) (event source n a.mask ∷ r) r

-- of a SACL's bytes, "entry number from 0"
abbrev pub events_in : Sought → List Member → Hits → ℕ → List ℕ → List Event
events_in s ms h source l = events_from s ms h source 0 (audits_of l)

-- of the rule with a number: "each applying rule's effective SACL"
abbrev pub rule_events : Sought → List Member → Hits → ℕ → Lists → List Event
rule_events s ms h i r = cond (applies_to ms h r) (events_in s ms h i r.sacl) []

-- of the rules from a number on
unfoldable pub rules_events : Sought → List Member → Hits → ℕ → List Lists → List Event
rules_events s ms h i [] = []
rules_events s ms h i (r ∷ rs) = rule_events s ms h i r ++ rules_events s ms h (i + 1) rs

-- "source (0 descriptor, else rule number from 1)", "in stored order"
abbrev pub events_of : Sought → List Member → Hits → List ℕ → List Lists → List Event
events_of s ms h sacl rules = events_in s ms h 0 sacl ++ rules_events s ms h 1 rules

-- ---- staging

-- events of one SACL, "entry numbers aside"
unfoldable pub masks_in : List Event → List ℕ
masks_in [] = []
masks_in (e ∷ es) = e.mask ∷ masks_in es

-- the masks of a SACL's events
abbrev pub masks_of : Sought → List Member → Hits → List ℕ → List ℕ
masks_of s ms h l = masks_in (events_in s ms h 0 l)

-- two SACLs whose events differ
abbrev pub audits_differ : Sought → List Member → Hits → List ℕ → List ℕ → Bool
audits_differ s ms h l k = not (same (masks_of s ms h l) (masks_of s ms h k))

-- "A staged SACL now raises the staging flag when its events would differ from the effective SACL's, entry numbers aside": that of a rule that
-- applies
abbrev pub rule_stages : Sought → List Member → Hits → Lists → Bool
rule_stages s ms h r = there r.staged_sacl && (applies_to ms h r && audits_differ s ms h r.sacl r.staged_sacl)

unfoldable pub stages_audit : Sought → List Member → Hits → List Lists → Bool
stages_audit s ms h [] = false
stages_audit s ms h (r ∷ rs) = let q = stages_audit s ms h rs in rule_stages s ms h r || q
