-- Laws of a whole descriptor, for callers: what its parts are.
-- In order: every part lies inside (parts_bounds); what an accepted descriptor is (Accepted, whole_heading, whole_accepted, whole_is) and
-- its parts (whole_owner, whole_group, whole_dacl, whole_sacl, whole_null); that a refused read hands out nothing (refused_is, refused_nothing,
-- null_dacl_lem).
-- Not here: what an offset names, PieceLaws; the tests one by one, DescriptorSteps. Assumes nothing.
use Prim.Native.Nat.{ℕ}
use mathlib.Core.Path.{◌≡◌, refl, sym, ap, ◌∙◌}
use mathlib.Core.List.{List, []}
use mathlib.Core.Bool.{Bool, true, false, cond}
use mathlib.Core.Logic.{◌⊎◌, inl, inr, ⊎_elim}
use native.Mathlib.Omega.{arith}
use lib.ListN.{length}
use Rattle.base.specs.Bytes.{u16_at, u32_at, part}
use Rattle.base.specs.Bits.{has}
use Rattle.base.proofs.BytesLaws.{part_empty}
use Rattle.sids.specs.Sid.{sid_end, is_sid}
use Rattle.lists.specs.Acl.{acl_end, scanned, scan_of}
use Rattle.lists.specs.Descriptor.{heading, bad, absent, alien, start_of, end_of, place_of, Inside}
use Rattle.lists.specs.Descriptor.{owner_piece, group_piece, sacl_piece, dacl_piece, refused_parts, whole_parts, judged, parts_of}
use Rattle.lists.specs.Descriptor.{owner_of, group_of, sacl_of, dacl_of}
use Rattle.conditions.specs.Scanning.Scan.{Plain}
use Rattle.lists.specs.declared.descriptor.Extent.{Extent}
use Rattle.lists.specs.Descriptor.{Piece}
use Rattle.lists.specs.Descriptor.Verdict.{Whole, Misshapen, Ownerless, ForeignEntry}
use Rattle.lists.specs.Descriptor.{Parts}
use Rattle.sids.proofs.SidLaws.{sid_of_part}
use Rattle.lists.proofs.DescriptorSteps.{judged_whole, parts_refused, parts_judged, refused_inside, judged_inside}
use Rattle.lists.proofs.PieceLaws.{SidPiece, sid_piece_cases, sid_piece_within, acl_piece_within}
use Rattle.lists.proofs.PieceLaws.{Listed, piece_listed, absent_nothing}
use Rattle.lists.proofs.PieceLaws.SidPiece.{misshapen, nothing, stands}

-- ---- every part lies inside

pub parts_bounds : (d : List ℕ) → Inside (length d) (parts_of d)
parts_bounds d = go (heading d) refl
  where
    go : (t : Bool) → heading d ≡ t → Inside (length d) (parts_of d)
    go false e = rw (parts_refused d e) (refused_inside (length d) Misshapen)
    go true e =
        rw (parts_judged d e)
        (judged_inside (length d) (owner_piece d) (group_piece d) (sacl_piece d) (dacl_piece d)
        (sid_piece_within d (u32_at d 4))
        (sid_piece_within d (u32_at d 8))
        (acl_piece_within false d (has (u16_at d 2) 0x0010) (u32_at d 12))
        (acl_piece_within true d (has (u16_at d 2) 0x0004) (u32_at d 16)))

-- ---- an accepted descriptor

-- no piece is misshapen, the owner is there, and the DACL has no foreign entry
pub record Accepted (o g s a : Piece) : Type 0 where
  pub owner : bad o ≡ false
  pub group : bad g ≡ false
  pub sacl : bad s ≡ false
  pub dacl : bad a ≡ false
  pub owned : absent o ≡ false
  pub plain : alien a ≡ false

judged_accepted : (o g s a : Piece) → (judged o g s a).verdict ≡ Whole → Accepted o g s a
unfolding judged
judged_accepted o g s a h = go (bad o) refl (bad g) refl (bad s) refl (bad a) refl (absent o) refl (alien a) refl h
  where
    go : (t : Bool) → bad o ≡ t → (u : Bool) → bad g ≡ u → (v : Bool) → bad s ≡ v → (w : Bool) → bad a ≡ w →
        (x : Bool) → absent o ≡ x → (y : Bool) → alien a ≡ y →
        (cond t (refused_parts Misshapen)
        (cond u (refused_parts Misshapen)
        (cond v (refused_parts Misshapen)
        (cond w (refused_parts Misshapen)
        (cond x (refused_parts Ownerless)
        (cond y (refused_parts ForeignEntry) (whole_parts o g s a))))))).verdict ≡ Whole →
        Accepted o g s a
    go true e1 u e2 v e3 w e4 x e5 y e6 q = let z : ◌≡◌ {A = ℕ} 0 1 = cc in absurd (omega arith)
    go false e1 true e2 v e3 w e4 x e5 y e6 q = let z : ◌≡◌ {A = ℕ} 0 1 = cc in absurd (omega arith)
    go false e1 false e2 true e3 w e4 x e5 y e6 q = let z : ◌≡◌ {A = ℕ} 0 1 = cc in absurd (omega arith)
    go false e1 false e2 false e3 true e4 x e5 y e6 q = let z : ◌≡◌ {A = ℕ} 0 1 = cc in absurd (omega arith)
    go false e1 false e2 false e3 false e4 true e5 y e6 q = let z : ◌≡◌ {A = ℕ} 0 1 = cc in absurd (omega arith)
    go false e1 false e2 false e3 false e4 false e5 true e6 q = let z : ◌≡◌ {A = ℕ} 0 1 = cc in absurd (omega arith)
    go false e1 false e2 false e3 false e4 false e5 false e6 q =
        record { owner = e1; group = e2; sacl = e3; dacl = e4; owned = e5; plain = e6 }

module _ (d : List ℕ) (whole : (parts_of d).verdict ≡ Whole) where
  pub whole_heading : heading d ≡ true
  whole_heading = go (heading d) refl
    where
      go : (t : Bool) → heading d ≡ t → heading d ≡ true
      go true e = e
      go false e =
          let q = sym (ap (λ (p : Parts). p.verdict) (parts_refused d e)) ∙ whole in
          let z : ◌≡◌ {A = ℕ} 0 1 = cc in
          absurd (omega arith)

  pub whole_accepted : Accepted (owner_piece d) (group_piece d) (sacl_piece d) (dacl_piece d)
  whole_accepted =
      judged_accepted (owner_piece d) (group_piece d) (sacl_piece d) (dacl_piece d)
      (sym (ap (λ (p : Parts). p.verdict) (parts_judged d whole_heading)) ∙ whole)

  pub whole_is : parts_of d ≡ whole_parts (owner_piece d) (group_piece d) (sacl_piece d) (dacl_piece d)
  whole_is =
      let a = whole_accepted in
      parts_judged d whole_heading
      ∙ judged_whole (owner_piece d) (group_piece d) (sacl_piece d) (dacl_piece d)
      a.owner a.group a.sacl a.dacl a.owned a.plain

  -- the bytes of a part, by its piece
  part_is : (x : Parts → Extent) (p : Piece) → x (whole_parts (owner_piece d) (group_piece d) (sacl_piece d) (dacl_piece d)) ≡ place_of p →
      part d (x (parts_of d)).from (x (parts_of d)).to ≡ part d (start_of p) (end_of p)
  part_is x p e = ap (λ (q : Extent). part d q.from q.to) (ap x whole_is ∙ e)

  -- "points at a whole SID"
  pub whole_owner : is_sid (owner_of d) ≡ true
  whole_owner = ap is_sid (part_is (λ p. p.owner) (owner_piece d) refl) ∙ go (sid_piece_cases d (u32_at d 4))
    where
      a : Accepted (owner_piece d) (group_piece d) (sacl_piece d) (dacl_piece d)
      a = whole_accepted

      go : SidPiece d (u32_at d 4) → is_sid (part d (start_of (owner_piece d)) (end_of (owner_piece d))) ≡ true
      go (misshapen e) = let q = sym (ap bad e) ∙ a.owner in let z : ◌≡◌ {A = ℕ} 0 1 = cc in absurd (omega arith)
      go (nothing n e) = let q = sym (ap absent e) ∙ a.owned in let z : ◌≡◌ {A = ℕ} 0 1 = cc in absurd (omega arith)
      go (stands l h e) = rw e (sid_of_part d (u32_at d 4) (sid_end d (u32_at d 4)) refl h)

  pub whole_group : (group_of d ≡ []) ⊎ (is_sid (group_of d) ≡ true)
  whole_group = rw (part_is (λ p. p.group) (group_piece d) refl) (go (sid_piece_cases d (u32_at d 8)))
    where
      a : Accepted (owner_piece d) (group_piece d) (sacl_piece d) (dacl_piece d)
      a = whole_accepted

      go : SidPiece d (u32_at d 8) →
          (part d (start_of (group_piece d)) (end_of (group_piece d)) ≡ []) ⊎
          (is_sid (part d (start_of (group_piece d)) (end_of (group_piece d))) ≡ true)
      go (misshapen e) = let q = sym (ap bad e) ∙ a.group in let z : ◌≡◌ {A = ℕ} 0 1 = cc in absurd (omega arith)
      go (nothing n e) = inl (rw e (part_empty d 0))
      go (stands l h e) = inr (rw e (sid_of_part d (u32_at d 8) (sid_end d (u32_at d 8)) refl h))

  -- not null: a whole list, of plain entries only
  pub whole_dacl : (parts_of d).null ≡ false → (scan_of true (dacl_of d) ≡ Plain) × (acl_end (dacl_of d) 0 ≡ length (dacl_of d))
  whole_dacl h =
      let a = whole_accepted in
      let n = sym (ap (λ (p : Parts). p.null) whole_is) ∙ h in
      let l = piece_listed true d (has (u16_at d 2) 0x0004) (u32_at d 16) (dacl_piece d) refl a.dacl n in
      rw (part_is (λ p. p.dacl) (dacl_piece d) refl) (l.told ∙ ap (scanned true) a.plain, l.ends)

  -- the SACL, where it is there, is a whole list of well shaped headings and sizes
  pub whole_sacl : (sacl_of d ≡ []) ⊎ Listed false (sacl_of d) (alien (sacl_piece d))
  whole_sacl = rw (part_is (λ p. p.sacl) (sacl_piece d) refl) (go (absent (sacl_piece d)) refl)
    where
      a : Accepted (owner_piece d) (group_piece d) (sacl_piece d) (dacl_piece d)
      a = whole_accepted

      go : (t : Bool) → absent (sacl_piece d) ≡ t →
          (part d (start_of (sacl_piece d)) (end_of (sacl_piece d)) ≡ []) ⊎
          Listed false (part d (start_of (sacl_piece d)) (end_of (sacl_piece d))) (alien (sacl_piece d))
      go true e = inl (absent_nothing d (sacl_piece d) e)
      go false e = inr (piece_listed false d (has (u16_at d 2) 0x0010) (u32_at d 12) (sacl_piece d) refl a.sacl e)

  -- null by the clear bit alone
  pub whole_null : (parts_of d).null ≡ true → dacl_of d ≡ []
  whole_null h =
      let n = sym (ap (λ (p : Parts). p.null) whole_is) ∙ h in
      part_is (λ p. p.dacl) (dacl_piece d) refl ∙ absent_nothing d (dacl_piece d) n

-- ---- a refused read hands out nothing

-- a descriptor's parts are those of its four pieces, or none
parts_either : (d : List ℕ) → ((parts_of d).verdict ≡ Whole) ⊎ (parts_of d ≡ refused_parts (parts_of d).verdict)
unfolding parts_of judged
parts_either d =
    go (heading d) (bad (owner_piece d)) (bad (group_piece d)) (bad (sacl_piece d)) (bad (dacl_piece d)) (absent (owner_piece d))
    (alien (dacl_piece d))
  where
    whole : Parts
    whole = whole_parts (owner_piece d) (group_piece d) (sacl_piece d) (dacl_piece d)

    all : (t u v w x y z : Bool) → Parts
    all t u v w x y z =
        cond t
        (cond u (refused_parts Misshapen)
        (cond v (refused_parts Misshapen)
        (cond w (refused_parts Misshapen)
        (cond x (refused_parts Misshapen)
        (cond y (refused_parts Ownerless)
        (cond z (refused_parts ForeignEntry) whole))))))
        (refused_parts Misshapen)

    go : (t u v w x y z : Bool) → ((all t u v w x y z).verdict ≡ Whole) ⊎ (all t u v w x y z ≡ refused_parts (all t u v w x y z).verdict)
    go false u v w x y z = inr refl
    go true true v w x y z = inr refl
    go true false true w x y z = inr refl
    go true false false true x y z = inr refl
    go true false false false true y z = inr refl
    go true false false false false true z = inr refl
    go true false false false false false true = inr refl
    go true false false false false false false = inl refl

module _ (d : List ℕ) (refused : (parts_of d).verdict ≡ Whole → ⊥) where
  pub refused_is : parts_of d ≡ refused_parts (parts_of d).verdict
  refused_is = ⊎_elim (λ w. absurd (refused w)) (λ e. e) (parts_either d)

  pub refused_nothing : (owner_of d ≡ []) × ((group_of d ≡ []) × ((sacl_of d ≡ []) × (dacl_of d ≡ [])))
  refused_nothing =
      let of : (x : Parts → Extent) → x (refused_parts (parts_of d).verdict) ≡ record { from = 0; to = 0 } →
      part d (x (parts_of d)).from (x (parts_of d)).to ≡ [] =
      λ x e. ap (λ (q : Extent). part d q.from q.to) (ap x refused_is ∙ e) ∙ part_empty d 0 in
      (of (λ p. p.owner) refl, (of (λ p. p.group) refl, (of (λ p. p.sacl) refl, of (λ p. p.dacl) refl)))

-- a null DACL has no bytes, whatever else was read
pub null_dacl_lem : (d : List ℕ) → (parts_of d).null ≡ true → dacl_of d ≡ []
null_dacl_lem d h =
    ⊎_elim
    (λ w. whole_null d w h)
    (λ e. ap (λ (p : Parts). part d p.dacl.from p.dacl.to) e ∙ part_empty d 0)
    (parts_either d)
