-- What a descriptor is, by each test in its order. For `heading`, `sid_piece`, `acl_piece`, `judged`, `read` and `part`.
-- In order: the heading (heading-..), an identity and a list that an offset names (sid-piece-.., acl-piece-..), what four pieces come to
-- (judged-..), the whole (parts-..), the bytes of an extent (part-in-..).
-- Not here: what an accepted descriptor is, DescriptorLaws. Assumes nothing.
use Prim.Native.Nat.{ℕ, ◌<◌, ◌≤◌}
use mathlib.Core.Path.{◌≡◌, refl}
use mathlib.Core.List.{List, []}
use mathlib.Core.Bool.{Bool, true, false, cond}
use native.Mathlib.Omega.{arith}
use lib.ListN.{length}
use borrow.Author.Tests.{lt-ltb, le-ltb, eq-eqb, ne_eqb}
use Rattle.base.specs.Bytes.{byte_at, u16_at, part}
use Rattle.base.specs.Bits.{has}
use Rattle.sids.specs.Sid.{sid_end}
use Rattle.lists.specs.Acl.{acl_end, scan_of}
use Rattle.lists.specs.Descriptor.{heading, sid_piece, acl_piece, piece_of, bad, absent, alien, place_of}
use Rattle.lists.specs.Descriptor.{owner_piece, group_piece, sacl_piece, dacl_piece}
use Rattle.lists.specs.Descriptor.{refused_parts, whole_parts, judged, parts_of, LiesIn, Inside, part_in}
use Rattle.lists.specs.Descriptor.{Piece}
use Rattle.lists.specs.Descriptor.Piece.{Bad, Absent, At}
use Rattle.lists.specs.Descriptor.{Verdict}
use Rattle.lists.specs.Descriptor.Verdict.{Misshapen, Ownerless, ForeignEntry}

-- ---- the heading

module _ (d : List ℕ) where
  pub heading_short : length d < 20 → heading d ≡ false
  unfolding heading
  heading_short h = rw (lt-ltb (length d) 20 h)

  pub heading_long : 20 ≤ length d → 65535 < length d → heading d ≡ false
  unfolding heading
  heading_long l h = rw (le-ltb (length d) 20 l, lt-ltb 65535 (length d) h)

  pub heading_other : 20 ≤ length d → length d ≤ 65535 → (byte_at d 0 ≡ 1 → ⊥) → heading d ≡ false
  unfolding heading
  heading_other l m h = rw (le-ltb (length d) 20 l, le-ltb 65535 (length d) m, ne_eqb (byte_at d 0) 1 h)

  pub heading_some : 20 ≤ length d → length d ≤ 65535 → byte_at d 0 ≡ 1 → heading d ≡ has (u16_at d 2) 0x8000
  unfolding heading
  heading_some l m h = rw (le-ltb (length d) 20 l, le-ltb 65535 (length d) m, eq-eqb (byte_at d 0) 1 h)

-- ---- an identity that an offset names

module _ (d : List ℕ) (off : ℕ) where
  pub sid_piece_absent : off ≡ 0 → sid_piece d off ≡ Absent
  unfolding sid_piece
  sid_piece_absent h = rw (eq-eqb off 0 h)

  pub sid_piece_low : (off ≡ 0 → ⊥) → off < 20 → sid_piece d off ≡ Bad
  unfolding sid_piece
  sid_piece_low n h = rw (ne_eqb off 0 n, lt-ltb off 20 h)

  pub sid_piece_bad : 20 ≤ off → sid_end d off ≡ 0 → sid_piece d off ≡ Bad
  unfolding sid_piece
  sid_piece_bad n h = rw (ne_eqb off 0 (λ q. omega arith), le-ltb off 20 n, eq-eqb (sid_end d off) 0 h)

  pub sid_piece_at : 20 ≤ off → (sid_end d off ≡ 0 → ⊥) → sid_piece d off ≡ At off (sid_end d off)
  unfolding sid_piece
  sid_piece_at n h = rw (ne_eqb off 0 (λ q. omega arith), le-ltb off 20 n, ne_eqb (sid_end d off) 0 h)

-- ---- a list that an offset names

module _ (deep : Bool) (d : List ℕ) (off : ℕ) where
  pub acl_piece_absent : acl_piece deep d false off ≡ Absent
  unfolding acl_piece
  acl_piece_absent = refl

  pub acl_piece_low : off < 20 → acl_piece deep d true off ≡ Bad
  unfolding acl_piece
  acl_piece_low h = rw (lt-ltb off 20 h)

  pub acl_piece_bad : 20 ≤ off → acl_end d off ≡ 0 → acl_piece deep d true off ≡ Bad
  unfolding acl_piece
  acl_piece_bad n h = rw (le-ltb off 20 n, eq-eqb (acl_end d off) 0 h)

  pub acl_piece_of : 20 ≤ off → (acl_end d off ≡ 0 → ⊥) →
      acl_piece deep d true off ≡ piece_of off (acl_end d off) (scan_of deep (part d off (acl_end d off)))
  unfolding acl_piece
  acl_piece_of n h = rw (le-ltb off 20 n, ne_eqb (acl_end d off) 0 h)

-- ---- what four pieces come to

module _ (o g s a : Piece) where
  pub judged_owner_bad : bad o ≡ true → judged o g s a ≡ refused_parts Misshapen
  unfolding judged
  judged_owner_bad h = rw h

  pub judged_group_bad : bad o ≡ false → bad g ≡ true → judged o g s a ≡ refused_parts Misshapen
  unfolding judged
  judged_group_bad h1 h = rw (h1, h)

  pub judged_sacl_bad : bad o ≡ false → bad g ≡ false → bad s ≡ true → judged o g s a ≡ refused_parts Misshapen
  unfolding judged
  judged_sacl_bad h1 h2 h = rw (h1, h2, h)

  pub judged_dacl_bad : bad o ≡ false → bad g ≡ false → bad s ≡ false → bad a ≡ true → judged o g s a ≡ refused_parts Misshapen
  unfolding judged
  judged_dacl_bad h1 h2 h3 h = rw (h1, h2, h3, h)

  module _ (h1 : bad o ≡ false) (h2 : bad g ≡ false) (h3 : bad s ≡ false) (h4 : bad a ≡ false) where
    pub judged_ownerless : absent o ≡ true → judged o g s a ≡ refused_parts Ownerless
    unfolding judged
    judged_ownerless h = rw (h1, h2, h3, h4, h)

    pub judged_foreign : absent o ≡ false → alien a ≡ true → judged o g s a ≡ refused_parts ForeignEntry
    unfolding judged
    judged_foreign h5 h = rw (h1, h2, h3, h4, h5, h)

    pub judged_whole : absent o ≡ false → alien a ≡ false → judged o g s a ≡ whole_parts o g s a
    unfolding judged
    judged_whole h5 h6 = rw (h1, h2, h3, h4, h5, h6)

-- ---- the whole

pub parts_refused : (d : List ℕ) → heading d ≡ false → parts_of d ≡ refused_parts Misshapen
unfolding parts_of
parts_refused d h = rw h

pub parts_judged : (d : List ℕ) → heading d ≡ true → parts_of d ≡ judged (owner_piece d) (group_piece d) (sacl_piece d) (dacl_piece d)
unfolding parts_of
parts_judged d h = rw h

-- ---- each part lies inside

pub refused_inside : (n : ℕ) (v : Verdict) → Inside n (refused_parts v)
refused_inside n v =
    let w : LiesIn n (record { from = 0; to = 0 }) = (omega arith, omega arith) in
    record { owner = w; group = w; sacl = w; dacl = w }

pub judged_inside : (n : ℕ) (o g s a : Piece) →
    LiesIn n (place_of o) → LiesIn n (place_of g) → LiesIn n (place_of s) → LiesIn n (place_of a) → Inside n (judged o g s a)
unfolding judged
judged_inside n o g s a wo wg ws wa = go (bad o) (bad g) (bad s) (bad a) (absent o) (alien a)
  where
    go : (t u v w x y : Bool) →
        Inside n
        (cond t (refused_parts Misshapen)
        (cond u (refused_parts Misshapen)
        (cond v (refused_parts Misshapen)
        (cond w (refused_parts Misshapen)
        (cond x (refused_parts Ownerless)
        (cond y (refused_parts ForeignEntry) (whole_parts o g s a)))))))
    go true u v w x y = refused_inside n Misshapen
    go false true v w x y = refused_inside n Misshapen
    go false false true w x y = refused_inside n Misshapen
    go false false false true x y = refused_inside n Misshapen
    go false false false false true y = refused_inside n Ownerless
    go false false false false false true = refused_inside n ForeignEntry
    go false false false false false false = record { owner = wo; group = wg; sacl = ws; dacl = wa }

-- ---- the bytes of an extent

module _ (d : List ℕ) (a e : ℕ) where
  pub part_in_turned : e < a → part_in d a e ≡ []
  unfolding part_in
  part_in_turned h = rw (lt-ltb e a h)

  pub part_in_past : a ≤ e → length d < e → part_in d a e ≡ []
  unfolding part_in
  part_in_past l h = rw (le-ltb e a l, lt-ltb (length d) e h)

  pub part_in_inside : a ≤ e → e ≤ length d → part_in d a e ≡ part d a e
  unfolding part_in
  part_in_inside l h = rw (le-ltb e a l, le-ltb (length d) e h)
