-- "Normal evaluation: a null DACL grants the kind's all bits, otherwise what the pass allows."
use Rattle.std.specs.Prelude.{ℕ, List, [], ◌∷◌, Bool, true, false, cond, not, ◌&&◌}
use Rattle.base.specs.Bytes.{same}
use Rattle.base.specs.Bits.{or, has}
use Rattle.sids.specs.Sid.{owner_rights}
use Rattle.lists.specs.Acl.{Entry}
use Rattle.records.specs.Crowd.{Member}
use Rattle.masks.specs.KindsAndMasks.{all_bits, system_security}
use Rattle.passes.specs.OnePass.{skipped, passed}
use Rattle.passes.specs.declared.matching.Hits.{Hits}

-- a list that is there, or a null DACL, which has no entries
pub record Dacl : Type 0 where
  pub present : Bool
  pub entries : List Entry

abbrev pub null_dacl : Dacl
null_dacl = record { present = false; entries = [] }

abbrev pub listed : List Entry → Dacl
listed es = record { present = true; entries = es }

-- "Only entries without flag 0x08 count" (request 102), of those that name S-1-3-4: allow or deny, any mask, matching or not; "a callback
-- entry naming S-1-3-4 counts whatever its condition" (request 103)
abbrev pub counts : Entry → Bool
counts e = not (skipped e)

-- "some entry of the DACL names S-1-3-4": one that counts
unfoldable pub names_owner : List Entry → Bool
names_owner [] = false
names_owner (e ∷ es) = let r = names_owner es in cond (counts e && same e.sid owner_rights) true r

-- what the list alone gives
abbrev pub list_gives : ℕ → List Member → Hits → Dacl → ℕ
list_gives kind ms h d = cond d.present (passed kind ms h d.entries) (all_bits kind)

-- "An owner that matches for allow also has 0x20000 and 0x40000, denied or not, unless some entry of the DACL names S-1-3-4."
abbrev pub owner_gives : Hits → Bool → ℕ
owner_gives h named = cond (h.owner.allow && not named) 0x60000 0

-- "SeTakeOwnership adds 0x80000; SeSecurity adds 0x01000000." Bits 9 and 8 of the enabled privileges
abbrev pub privileges_give : ℕ → ℕ
privileges_give p = or (cond (has p 0x200) 0x80000 0) (cond (has p 0x100) system_security 0)

unfoldable pub normal_of : ℕ → List Member → Hits → ℕ → Dacl → ℕ
normal_of kind ms h p d = or (list_gives kind ms h d) (or (owner_gives h (names_owner d.entries)) (privileges_give p))
