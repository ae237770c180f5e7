-- The definitions tried on small inputs, by computation: the descriptor D of the bench cards, sizes of an entry, and types in a SACL.
-- Assumes nothing.
use Prim.Native.Nat.{ℕ}
use mathlib.Core.Path.{◌≡◌, refl}
use mathlib.Core.List.{List, [], ◌∷◌}
use mathlib.Core.Bool.{true, false}
use lib.ListN.{drop}
use Rattle.base.specs.Bytes.{u16_at, u32_at}
use Rattle.sids.specs.Sid.{sid_end}
use Rattle.lists.specs.Acl.{acl_end, head_end, callback, named, audits, judges, holds, entry_end, content_of, shaped, foreign, scan_of, ace_at}
use Rattle.lists.specs.Acl.{entries_at, entries_of}
use Rattle.conditions.specs.Scanning.Scan.{Broken, Foreign, Plain}
use Rattle.lists.specs.Descriptor.{number_of, heading, sid_piece, acl_piece, judged, parts_of, owner_of, group_of, sacl_of, dacl_of}

-- "U is S-1-5-0-7, W is S-1-5-7"
u : List ℕ
u = 1 ∷ 2 ∷ 0 ∷ 0 ∷ 0 ∷ 0 ∷ 0 ∷ 5 ∷ 0 ∷ 0 ∷ 0 ∷ 0 ∷ 7 ∷ 0 ∷ 0 ∷ 0 ∷ []

w : List ℕ
w = 1 ∷ 1 ∷ 0 ∷ 0 ∷ 0 ∷ 0 ∷ 0 ∷ 5 ∷ 7 ∷ 0 ∷ 0 ∷ 0 ∷ []

-- "Descriptor D (64 bytes)"
d : List ℕ
d =
    1 ∷ 0 ∷ 4 ∷ 128 ∷ 20 ∷ 0 ∷ 0 ∷ 0 ∷ 0 ∷ 0 ∷ 0 ∷ 0 ∷ 0 ∷ 0 ∷ 0 ∷ 0 ∷ 32 ∷ 0 ∷ 0 ∷ 0
    ∷ 1 ∷ 1 ∷ 0 ∷ 0 ∷ 0 ∷ 0 ∷ 0 ∷ 5 ∷ 7 ∷ 0 ∷ 0 ∷ 0
    ∷ 2 ∷ 0 ∷ 32 ∷ 0 ∷ 1 ∷ 0 ∷ 0 ∷ 0
    ∷ 0 ∷ 0 ∷ 24 ∷ 0 ∷ 0 ∷ 0 ∷ 0 ∷ 128 ∷ 1 ∷ 2 ∷ 0 ∷ 0 ∷ 0 ∷ 0 ∷ 0 ∷ 5 ∷ 0 ∷ 0 ∷ 0 ∷ 0 ∷ 7 ∷ 0 ∷ 0 ∷ 0 ∷ []

-- D is accepted and owned by W; it has no group and no SACL
card : (number_of (parts_of d).verdict ≡ 0) × ((parts_of d).null ≡ false) × (owner_of d ≡ w) × (group_of d ≡ []) × (sacl_of d ≡ [])
unfolding number_of parts_of heading judged sid_piece acl_piece sid_end acl_end head_end callback named judges holds entry_end content_of shaped foreign
    scan_of u16_at u32_at w d
card = (refl, refl, refl, refl, refl)

-- the DACL of D
a : List ℕ
a = drop 32 d

-- its DACL is handed out as its very bytes
handed : dacl_of d ≡ a
unfolding parts_of heading judged sid_piece acl_piece sid_end acl_end head_end callback named judges holds entry_end content_of shaped foreign scan_of
    u16_at u32_at d a
handed = refl

-- and allows U all reading
allows : entries_of a ≡ record { kind = 0; flags = 0; mask = 0x80000000; sid = u; condition = [] } ∷ []
unfolding sid_end head_end callback named judges holds entry_end ace_at entries_at entries_of u16_at u32_at u d a
allows = refl

-- "8 plus the SID's length or more, still a multiple of 4": an entry of a size, and 32 bytes in all, that allows S-1-5, of 8 bytes
sized : ℕ → List ℕ
sized n =
    0 ∷ 0 ∷ n ∷ 0 ∷ 1 ∷ 0 ∷ 0 ∷ 0 ∷ 1 ∷ 0 ∷ 0 ∷ 0 ∷ 0 ∷ 0 ∷ 0 ∷ 5
    ∷ 0 ∷ 0 ∷ 0 ∷ 0 ∷ 0 ∷ 0 ∷ 0 ∷ 0 ∷ 0 ∷ 0 ∷ 0 ∷ 0 ∷ 0 ∷ 0 ∷ 0 ∷ 0 ∷ []

sizes : (entry_end true (sized 12) 0 ≡ 0) × (entry_end true (sized 16) 0 ≡ 16) × (entry_end true (sized 18) 0 ≡ 0)
    × (entry_end true (sized 20) 0 ≡ 20) × (entry_end true (sized 32) 0 ≡ 32) × (entry_end true (sized 36) 0 ≡ 0)
unfolding sized sid_end head_end callback named judges holds entry_end u16_at
sizes = (refl, refl, refl, refl, refl, refl)

-- "Audit entries get 101's shape rule": a list of that entry alone, of a type
listed : ℕ → ℕ → List ℕ
listed t n = 2 ∷ 0 ∷ 40 ∷ 0 ∷ 1 ∷ 0 ∷ 0 ∷ 0 ∷ t ∷ drop 1 (sized n)

-- in a SACL type 2 holds its SID, and other types are not judged; in a DACL type 2 is foreign, whatever it holds
audited : (scan_of false (listed 2 12) ≡ Broken) × (scan_of false (listed 2 16) ≡ Foreign) × (scan_of false (listed 3 12) ≡ Foreign)
    × (scan_of false (listed 0 12) ≡ Plain) × (scan_of true (listed 2 12) ≡ Foreign)
unfolding listed sized sid_end head_end callback named audits judges holds entry_end content_of shaped foreign scan_of u16_at
audited = (refl, refl, refl, refl, refl)
