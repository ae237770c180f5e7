-- "Descriptor: 20 to 65,535 bytes; revision 1; control bit 0x8000 set; offsets of owner, group, SACL, DACL at 4, 8, 12, 16."
use Rattle.std.specs.Prelude.{ℕ, ◌≤◌, List, [], Bool, true, false, cond, length, ltb, eqb}
use Rattle.base.specs.Bytes.{byte_at, u16_at, u32_at, part}
use Rattle.base.specs.Bits.{has}
use Rattle.sids.specs.Sid.{sid_end}
use Rattle.lists.specs.Acl.{acl_end, scan_of}
use Rattle.conditions.specs.Scanning.{Scan as scan}
use Rattle.conditions.specs.Scanning.{Scan}
use Rattle.lists.specs.declared.descriptor.Extent.{Extent}

-- what a descriptor is
pub data Verdict : Type 0 where
  Whole : Verdict
  Misshapen : Verdict
  Ownerless : Verdict
  ForeignEntry : Verdict

-- a part that an offset names: misshapen, not there, there from a place to another, or a list with something foreign
pub data Piece : Type 0 where
  Bad : Piece
  Absent : Piece
  At : ℕ → ℕ → Piece
  Alien : ℕ → ℕ → Piece

-- the verdict and where each part stands; null: the DACL is absent
pub record Parts : Type 0 where
  pub verdict : Verdict
  pub null : Bool
  pub owner : Extent
  pub group : Extent
  pub sacl : Extent
  pub dacl : Extent

-- the page's number for each verdict
unfoldable pub number_of : Verdict → ℕ
number_of Whole = 0
number_of Misshapen = 6
number_of Ownerless = 7
number_of ForeignEntry = 8

-- "20 to 65,535 bytes; revision 1; control bit 0x8000 set"
unfoldable pub heading : List ℕ → Bool
heading d =
    cond (ltb (length d) 20) false
    (cond (ltb 65535 (length d)) false
    (cond (eqb (byte_at d 0) 1) (has (u16_at d 2) 0x8000) false))

-- "A nonzero owner or group offset is at least 20 and points at a whole SID."
unfoldable pub sid_piece : List ℕ → ℕ → Piece
sid_piece d off =
    let e = sid_end d off in
    cond (eqb off 0) Absent (cond (ltb off 20) Bad (cond (eqb e 0) Bad (At off e)))

abbrev pub piece_of : ℕ → ℕ → Scan → Piece
piece_of a e scan.Broken = Bad
piece_of a e scan.Foreign = Alien a e
piece_of a e scan.Plain = At a e

-- "Bit 0x0004 clear: null DACL, offset not followed. Set: the offset is at least 20 and points at an ACL.
-- Bit 0x0010 likewise for the SACL."
unfoldable pub acl_piece : Bool → List ℕ → Bool → ℕ → Piece
acl_piece deep d followed off =
    let e = acl_end d off in
    let r = piece_of off e (scan_of deep (part d off e)) in
    cond followed (cond (ltb off 20) Bad (cond (eqb e 0) Bad r)) Absent

abbrev pub owner_piece : List ℕ → Piece
owner_piece d = sid_piece d (u32_at d 4)

abbrev pub group_piece : List ℕ → Piece
group_piece d = sid_piece d (u32_at d 8)

abbrev pub sacl_piece : List ℕ → Piece
sacl_piece d = acl_piece false d (has (u16_at d 2) 0x0010) (u32_at d 12)

abbrev pub dacl_piece : List ℕ → Piece
dacl_piece d = acl_piece true d (has (u16_at d 2) 0x0004) (u32_at d 16)

-- ---- what a piece is

abbrev pub bad : Piece → Bool
bad Bad = true
bad Absent = false
bad (At a e) = false
bad (Alien a e) = false

abbrev pub absent : Piece → Bool
absent Bad = false
absent Absent = true
absent (At a e) = false
absent (Alien a e) = false

abbrev pub alien : Piece → Bool
alien Bad = false
alien Absent = false
alien (At a e) = false
alien (Alien a e) = true

-- where it begins and ends: 0 and 0 where it is absent
abbrev pub start_of : Piece → ℕ
start_of Bad = 0
start_of Absent = 0
start_of (At a e) = a
start_of (Alien a e) = a

abbrev pub end_of : Piece → ℕ
end_of Bad = 0
end_of Absent = 0
end_of (At a e) = e
end_of (Alien a e) = e

abbrev pub place_of : Piece → Extent
place_of p = record { from = start_of p; to = end_of p }

-- ---- the whole

-- a refused read hands out empty parts
abbrev pub refused_parts : Verdict → Parts
refused_parts v =
    record {
      verdict = v;
      null = false;
      owner = record { from = 0; to = 0 };
      group = record { from = 0; to = 0 };
      sacl = record { from = 0; to = 0 };
      dacl = record { from = 0; to = 0 };
    }

abbrev pub whole_parts : Piece → Piece → Piece → Piece → Parts
whole_parts o g s a =
    record {
      verdict = Whole;
      null = absent a;
      owner = place_of o;
      group = place_of g;
      sacl = place_of s;
      dacl = place_of a;
    }

-- shape over the whole part first; then 7, "owner offset is 0"; then 8, "DACL holds an entry type other than 0 or 1" (9 and 10 too since
-- request 103), or an other token. Parts may overlap
unfoldable pub judged : Piece → Piece → Piece → Piece → Parts
judged o g s a =
    cond (bad o) (refused_parts Misshapen)
    (cond (bad g) (refused_parts Misshapen)
    (cond (bad s) (refused_parts Misshapen)
    (cond (bad a) (refused_parts Misshapen)
    (cond (absent o) (refused_parts Ownerless)
    (cond (alien a) (refused_parts ForeignEntry) (whole_parts o g s a))))))

unfoldable pub parts_of : List ℕ → Parts
parts_of d = let r = judged (owner_piece d) (group_piece d) (sacl_piece d) (dacl_piece d) in cond (heading d) r (refused_parts Misshapen)

-- "handed out as the very bytes of the lent descriptor": the bytes of each part; none where it is absent or the read refused
abbrev pub owner_of : List ℕ → List ℕ
owner_of d = part d (parts_of d).owner.from (parts_of d).owner.to

abbrev pub group_of : List ℕ → List ℕ
group_of d = part d (parts_of d).group.from (parts_of d).group.to

abbrev pub sacl_of : List ℕ → List ℕ
sacl_of d = part d (parts_of d).sacl.from (parts_of d).sacl.to

abbrev pub dacl_of : List ℕ → List ℕ
dacl_of d = part d (parts_of d).dacl.from (parts_of d).dacl.to

-- ---- places that lie inside

-- an extent of n bytes
abbrev pub LiesIn : ℕ → Extent → Type 0
LiesIn n x = (x.from ≤ x.to) × (x.to ≤ n)

-- each part lies inside the n bytes of its descriptor, refused or not
pub record Inside (n : ℕ) (p : Parts) : Type 0 where
  pub owner : LiesIn n p.owner
  pub group : LiesIn n p.group
  pub sacl : LiesIn n p.sacl
  pub dacl : LiesIn n p.dacl

-- the bytes from place a up to place e; none where these do not lie inside
unfoldable pub part_in : List ℕ → ℕ → ℕ → List ℕ
part_in d a e = cond (ltb e a) [] (cond (ltb (length d) e) [] (part d a e))
