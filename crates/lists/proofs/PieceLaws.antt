-- What an offset of a descriptor names: an identity or a list, nothing, or something misshapen.
-- In order: the cases (SidPiece, sid_piece_cases, AclPiece, acl_piece_cases); a piece lies inside (sid_piece_within, acl_piece_within); the
-- list that stands there (Listed, piece_listed); nothing (absent_nothing).
-- Not here: the tests one by one, DescriptorSteps. Assumes nothing.
use Prim.Native.Nat.{ℕ, ◌≤◌}
use mathlib.Core.Path.{◌≡◌, refl, sym, ap, ◌∙◌}
use mathlib.Core.List.{List, []}
use mathlib.Core.Bool.{Bool, true, false}
use native.Mathlib.Omega.{arith}
use lib.ListN.{length}
use lib.Dec.{ltb, eqb}
use borrow.Author.Tests.{ltb-true, ltb-false, eqb-true, eqb-false}
use Rattle.base.specs.Bytes.{part}
use Rattle.base.proofs.BytesLaws.{part_empty}
use Rattle.sids.specs.Sid.{sid_end}
use Rattle.lists.specs.Acl.{acl_end, scanned, scan_of}
use Rattle.lists.specs.Descriptor.{sid_piece, acl_piece, piece_of, bad, absent, alien, start_of, end_of, place_of, LiesIn}
use Rattle.conditions.specs.Scanning.{Scan as scan}
use Rattle.conditions.specs.Scanning.{Scan}
use Rattle.lists.specs.Descriptor.{Piece}
use Rattle.lists.specs.Descriptor.Piece.{Bad, Absent, At, Alien}
use Rattle.sids.proofs.SidLaws.{sid_end_bounds}
use Rattle.lists.proofs.AclSteps.{acl_end_bounds}
use Rattle.lists.proofs.AclLaws.{acl_of_part}
use Rattle.lists.proofs.DescriptorSteps.{sid_piece_absent, sid_piece_low, sid_piece_bad, sid_piece_at}
use Rattle.lists.proofs.DescriptorSteps.{acl_piece_absent, acl_piece_low, acl_piece_bad, acl_piece_of}

-- ---- what an offset names

-- nothing, by the offset 0; a SID at the offset; or it is misshapen
pub data SidPiece (d : List ℕ) (off : ℕ) : Type 0 where
  misshapen : sid_piece d off ≡ Bad → SidPiece d off
  nothing : off ≡ 0 → sid_piece d off ≡ Absent → SidPiece d off
  stands : 20 ≤ off → (sid_end d off ≡ 0 → ⊥) → sid_piece d off ≡ At off (sid_end d off) → SidPiece d off

pub sid_piece_cases : (d : List ℕ) (off : ℕ) → SidPiece d off
sid_piece_cases d off = go (eqb off 0) refl (ltb off 20) refl (eqb (sid_end d off) 0) refl
  where
    go : (t : Bool) → eqb off 0 ≡ t → (u : Bool) → ltb off 20 ≡ u → (v : Bool) → eqb (sid_end d off) 0 ≡ v → SidPiece d off
    go true e u f v g = nothing (eqb-true _ _ e) (sid_piece_absent d off (eqb-true _ _ e))
    go false e true f v g = misshapen (sid_piece_low d off (eqb-false _ _ e) (ltb-true _ _ f))
    go false e false f true g = misshapen (sid_piece_bad d off (ltb-false _ _ f) (eqb-true _ _ g))
    go false e false f false g =
        stands (ltb-false _ _ f) (eqb-false _ _ g) (sid_piece_at d off (ltb-false _ _ f) (eqb-false _ _ g))

-- nothing, by the clear bit; a list at the offset, with what its entries are; or it is misshapen
pub data AclPiece (deep : Bool) (d : List ℕ) (followed : Bool) (off : ℕ) : Type 0 where
  misshapen : acl_piece deep d followed off ≡ Bad → AclPiece deep d followed off
  nothing : followed ≡ false → acl_piece deep d followed off ≡ Absent → AclPiece deep d followed off
  stands : followed ≡ true → 20 ≤ off → (acl_end d off ≡ 0 → ⊥) →
      acl_piece deep d followed off ≡ piece_of off (acl_end d off) (scan_of deep (part d off (acl_end d off))) → AclPiece deep d followed off

pub acl_piece_cases : (deep : Bool) (d : List ℕ) (followed : Bool) (off : ℕ) → AclPiece deep d followed off
acl_piece_cases deep d false off = nothing refl (acl_piece_absent deep d off)
acl_piece_cases deep d true off = go (ltb off 20) refl (eqb (acl_end d off) 0) refl
  where
    go : (u : Bool) → ltb off 20 ≡ u → (v : Bool) → eqb (acl_end d off) 0 ≡ v → AclPiece deep d true off
    go true f v g = misshapen (acl_piece_low deep d off (ltb-true _ _ f))
    go false f true g = misshapen (acl_piece_bad deep d off (ltb-false _ _ f) (eqb-true _ _ g))
    go false f false g =
        stands refl (ltb-false _ _ f) (eqb-false _ _ g) (acl_piece_of deep d off (ltb-false _ _ f) (eqb-false _ _ g))

-- ---- a piece lies inside

pub sid_piece_within : (d : List ℕ) (off : ℕ) → LiesIn (length d) (place_of (sid_piece d off))
sid_piece_within d off = go (sid_piece_cases d off)
  where
    go : SidPiece d off → LiesIn (length d) (place_of (sid_piece d off))
    go (misshapen e) = rw e (omega arith, omega arith)
    go (nothing z e) = rw e (omega arith, omega arith)
    go (stands l h e) = let b = sid_end_bounds d off h in rw e (omega (arith, b.0), omega (arith, b.1))

pub acl_piece_within : (deep : Bool) (d : List ℕ) (followed : Bool) (off : ℕ) → LiesIn (length d) (place_of (acl_piece deep d followed off))
acl_piece_within deep d followed off = go (acl_piece_cases deep d followed off)
  where
    of : (s : Scan) → (acl_end d off ≡ 0 → ⊥) → LiesIn (length d) (place_of (piece_of off (acl_end d off) s))
    of scan.Broken h = (omega arith, omega arith)
    of scan.Foreign h = let b = acl_end_bounds d off h in (omega (arith, b.0), omega (arith, b.1))
    of scan.Plain h = let b = acl_end_bounds d off h in (omega (arith, b.0), omega (arith, b.1))

    go : AclPiece deep d followed off → LiesIn (length d) (place_of (acl_piece deep d followed off))
    go (misshapen e) = rw e (omega arith, omega arith)
    go (nothing z e) = rw e (omega arith, omega arith)
    go (stands t l h e) = rw e (of (scan_of deep (part d off (acl_end d off))) h)

-- ---- a list that an offset names

-- the bytes are one whole list, of entries that are well shaped, foreign or not
pub record Listed (deep : Bool) (l : List ℕ) (foreign : Bool) : Type 0 where
  pub ends : acl_end l 0 ≡ length l
  pub told : scan_of deep l ≡ scanned true foreign

pub piece_listed : (deep : Bool) (d : List ℕ) (followed : Bool) (off : ℕ) (p : Piece) → acl_piece deep d followed off ≡ p →
    bad p ≡ false → absent p ≡ false → Listed deep (part d (start_of p) (end_of p)) (alien p)
piece_listed deep d followed off p q h k = go (acl_piece_cases deep d followed off)
  where
    of : (s : Scan) → scan_of deep (part d off (acl_end d off)) ≡ s → (acl_end d off ≡ 0 → ⊥) → (r : Piece) →
        r ≡ piece_of off (acl_end d off) s →
        bad r ≡ false → Listed deep (part d (start_of r) (end_of r)) (alien r)
    of scan.Broken e n r f u = let v = sym (ap bad f) ∙ u in let z : ◌≡◌ {A = ℕ} 0 1 = cc in absurd (omega arith)
    of scan.Foreign e n r f u = rw f (record { ends = acl_of_part d off (acl_end d off) refl n; told = e })
    of scan.Plain e n r f u = rw f (record { ends = acl_of_part d off (acl_end d off) refl n; told = e })

    go : AclPiece deep d followed off → Listed deep (part d (start_of p) (end_of p)) (alien p)
    go (misshapen e) = let v = sym (ap bad (sym q ∙ e)) ∙ h in let z : ◌≡◌ {A = ℕ} 0 1 = cc in absurd (omega arith)
    go (nothing n e) = let v = sym (ap absent (sym q ∙ e)) ∙ k in let z : ◌≡◌ {A = ℕ} 0 1 = cc in absurd (omega arith)
    go (stands t l n e) = of (scan_of deep (part d off (acl_end d off))) refl n p (sym q ∙ e) h

-- a piece that is absent has no bytes
pub absent_nothing : (d : List ℕ) (p : Piece) → absent p ≡ true → part d (start_of p) (end_of p) ≡ []
absent_nothing d Absent h = part_empty d 0
absent_nothing d Bad h = part_empty d 0
absent_nothing d (At a e) h = let z : ◌≡◌ {A = ℕ} 0 1 = cc in absurd (omega arith)
absent_nothing d (Alien a e) h = let z : ◌≡◌ {A = ℕ} 0 1 = cc in absurd (omega arith)
