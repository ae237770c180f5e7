-- Laws of numbers of two and four bytes, lowest first, and of six, highest first, at a place. The index:
-- by whether the bytes are there: u16_at_in -out, u32_at_in -out, u48_be_at_in -out; bounds: u16_at_lt u32_at_lt u48_be_at_lt.
-- What was written is read back: u16_at_back u32_at_back u48_be_at_back (from a drop), u16_at_little u32_at_little big_back (between
-- two lists).
-- What is read was written so: little_of_u16_at little_of_u32_at big_of_u48.
-- Not here: length and bytes of `little` and `big`, ValueLaws. Assumes nothing.
use Prim.Native.Nat.{ℕ, ◌+◌, ◌*◌, ◌^◌, ◌<◌, ◌≤◌}
use mathlib.Core.Path.{◌≡◌, refl, sym, ap, ◌∙◌}
use mathlib.Core.List.{List, [], ◌++◌, reverse, reverse-reverse}
use mathlib.Core.Bool.{Bool, true, false}
use native.Mathlib.Nat.{add-zero}
use native.Mathlib.Omega.{arith}
use lib.Dec.{T, leb}
use lib.Pow.{are_bytes}
use lib.ListN.{length, drop, length-append, length-drop, length-reverse}
use lib.Seq.{drop-append_seam}
use borrow.Author.Tests.{le-leb, lt-leb, leb-true, leb-false}
use Rattle.base.specs.Bytes.{part, byte_at, u16_at, u32_at, u48_be_at, little, big}
use Rattle.base.proofs.BytesLaws.{length_part, part_of_drop, bytes_part, bytes_reverse, byte_lt}
use Rattle.base.proofs.ValueLaws.{value, value_little, little_value, big_reverse, from, part_bytes}

-- ---- numbers of two and four bytes, by whether they are there

module _ (s : List ℕ) (at : ℕ) where
  pub u16_at_in : at + 2 ≤ length s → u16_at s at ≡ byte_at s at + 256 * byte_at s (at + 1)
  unfolding u16_at
  u16_at_in h = rw (le-leb (at + 2) (length s) h)

  pub u16_at_out : length s < at + 2 → u16_at s at ≡ 0
  unfolding u16_at
  u16_at_out h = rw (lt-leb (at + 2) (length s) h)

  pub u32_at_in : at + 4 ≤ length s →
      u32_at s at ≡ byte_at s at + 256 * byte_at s (at + 1) + 65536 * byte_at s (at + 2) + 16777216 * byte_at s (at + 3)
  unfolding u32_at
  u32_at_in h = rw (le-leb (at + 4) (length s) h)

  pub u32_at_out : length s < at + 4 → u32_at s at ≡ 0
  unfolding u32_at
  u32_at_out h = rw (lt-leb (at + 4) (length s) h)

  pub u48_be_at_in : at + 6 ≤ length s →
      u48_be_at s at ≡ byte_at s (at + 5) + 256 * byte_at s (at + 4) + 65536 * byte_at s (at + 3) + 16777216 * byte_at s (at + 2)
      + 4294967296 * byte_at s (at + 1) + 1099511627776 * byte_at s at
  unfolding u48_be_at
  u48_be_at_in h = rw (le-leb (at + 6) (length s) h)

  pub u48_be_at_out : length s < at + 6 → u48_be_at s at ≡ 0
  unfolding u48_be_at
  u48_be_at_out h = rw (lt-leb (at + 6) (length s) h)

-- ---- a number at a place is the value of its bytes

module _ (s : List ℕ) (at : ℕ) where
  u16_at_value : at + 2 ≤ length s → u16_at s at ≡ value (part s at (at + 2))
  unfolding value from
  u16_at_value h =
      let z : byte_at s (at + 0) ≡ byte_at s at = ap (byte_at s) (add-zero at) in
      let i = u16_at_in s at h in
      let e : u16_at s at ≡ value (from 2 0 s at) = omega (arith, i, z) in
      e ∙ ap value (sym (part_bytes 2 s at h))

  u32_at_value : at + 4 ≤ length s → u32_at s at ≡ value (part s at (at + 4))
  unfolding value from
  u32_at_value h =
      let z : byte_at s (at + 0) ≡ byte_at s at = ap (byte_at s) (add-zero at) in
      let i = u32_at_in s at h in
      let e : u32_at s at ≡ value (from 4 0 s at) = omega (arith, i, z) in
      e ∙ ap value (sym (part_bytes 4 s at h))

  u48_be_at_value : at + 6 ≤ length s → u48_be_at s at ≡ value (reverse (part s at (at + 6)))
  unfolding value from
  u48_be_at_value h =
      let z : byte_at s (at + 0) ≡ byte_at s at = ap (byte_at s) (add-zero at) in
      let i = u48_be_at_in s at h in
      let e : u48_be_at s at ≡ value (reverse (from 6 0 s at)) = omega (arith, i, z) in
      e ∙ ap (λ (l : List ℕ). value (reverse l)) (sym (part_bytes 6 s at h))

  pub u16_at_lt : T (are_bytes s) → u16_at s at < 65536
  u16_at_lt b = go (leb (at + 2) (length s)) refl
    where
      go : (t : Bool) → leb (at + 2) (length s) ≡ t → u16_at s at < 65536
      go true e = rw (u16_at_in s at (leb-true _ _ e)) (omega (arith, byte_lt s at b, byte_lt s (at + 1) b))
      go false e = rw (u16_at_out s at (leb-false _ _ e)) (omega arith)

  pub u32_at_lt : T (are_bytes s) → u32_at s at < 2 ^ 32
  u32_at_lt b = go (leb (at + 4) (length s)) refl
    where
      go : (t : Bool) → leb (at + 4) (length s) ≡ t → u32_at s at < 2 ^ 32
      go true e =
          rw (u32_at_in s at (leb-true _ _ e))
          (omega (arith, byte_lt s at b, byte_lt s (at + 1) b, byte_lt s (at + 2) b, byte_lt s (at + 3) b))
      go false e = rw (u32_at_out s at (leb-false _ _ e)) (omega arith)

  pub u48_be_at_lt : T (are_bytes s) → u48_be_at s at < 2 ^ 48
  u48_be_at_lt b = go (leb (at + 6) (length s)) refl
    where
      go : (t : Bool) → leb (at + 6) (length s) ≡ t → u48_be_at s at < 2 ^ 48
      go true e =
          rw (u48_be_at_in s at (leb-true _ _ e))
          (omega (
            arith,
            byte_lt s at b,
            byte_lt s (at + 1) b,
            byte_lt s (at + 2) b,
            byte_lt s (at + 3) b,
            byte_lt s (at + 4) b,
            byte_lt s (at + 5) b,
          ))
      go false e = rw (u48_be_at_out s at (leb-false _ _ e)) (omega arith)

-- ---- what was written is read back

room : (s w q : List ℕ) (at : ℕ) → drop at s ≡ w ++ q → at ≤ length s → at + length w ≤ length s
room s w q at d k = let e = sym (length-drop at s) ∙ ap length d ∙ length-append w q in omega (arith, e)

module _ (s q : List ℕ) (at v : ℕ) (inside : at ≤ length s) where
  pub u16_at_back : drop at s ≡ little 2 v ++ q → v < 65536 → u16_at s at ≡ v
  unfolding little
  u16_at_back d h =
      u16_at_value s at (room s (little 2 v) q at d inside)
      ∙ ap value (part_of_drop s (little 2 v) q at d) ∙ value_little 2 v h

  pub u32_at_back : drop at s ≡ little 4 v ++ q → v < 2 ^ 32 → u32_at s at ≡ v
  unfolding little
  u32_at_back d h =
      u32_at_value s at (room s (little 4 v) q at d inside)
      ∙ ap value (part_of_drop s (little 4 v) q at d) ∙ value_little 4 v h

  pub u48_be_at_back : drop at s ≡ big 6 v ++ q → v < 2 ^ 48 → u48_be_at s at ≡ v
  unfolding big
  u48_be_at_back d h =
      u48_be_at_value s at (room s (big 6 v) q at d inside)
      ∙ ap (λ (l : List ℕ). value (reverse l)) (part_of_drop s (big 6 v) q at d ∙ big_reverse 6 v)
      ∙ ap value (reverse-reverse (little 6 v)) ∙ value_little 6 v h

seam : (p w : List ℕ) → length p ≤ length (p ++ w)
seam p w = omega (arith, length-append p w)

pub u16_at_little : (p q : List ℕ) (v : ℕ) → v < 65536 → u16_at (p ++ (little 2 v ++ q)) (length p) ≡ v
u16_at_little p q v = u16_at_back (p ++ (little 2 v ++ q)) q (length p) v (seam p (little 2 v ++ q)) (drop-append_seam p (little 2 v ++ q))

pub u32_at_little : (p q : List ℕ) (v : ℕ) → v < 2 ^ 32 → u32_at (p ++ (little 4 v ++ q)) (length p) ≡ v
u32_at_little p q v = u32_at_back (p ++ (little 4 v ++ q)) q (length p) v (seam p (little 4 v ++ q)) (drop-append_seam p (little 4 v ++ q))

pub big_back : (p q : List ℕ) (v : ℕ) → v < 2 ^ 48 → u48_be_at (p ++ (big 6 v ++ q)) (length p) ≡ v
big_back p q v = u48_be_at_back (p ++ (big 6 v ++ q)) q (length p) v (seam p (big 6 v ++ q)) (drop-append_seam p (big 6 v ++ q))

-- ---- what is read was written so

little_part : (n : ℕ) (s : List ℕ) (at : ℕ) → T (are_bytes s) → at + n ≤ length s →
    part s at (at + n) ≡ little n (value (part s at (at + n)))
little_part n s at b h =
    let w = part s at (at + n) in
    let l : length (part s at (at + n)) ≡ n = length_part s at (at + n) (omega arith) h ∙ omega arith in
    sym (ap (λ (m : ℕ). little m (value w)) (sym l) ∙ little_value w (bytes_part s at (at + n) b))

module _ (s : List ℕ) (at : ℕ) (bytes : T (are_bytes s)) where
  pub little_of_u16_at : at + 2 ≤ length s → part s at (at + 2) ≡ little 2 (u16_at s at)
  little_of_u16_at h = little_part 2 s at bytes h ∙ ap (little 2) (sym (u16_at_value s at h))

  pub little_of_u32_at : at + 4 ≤ length s → part s at (at + 4) ≡ little 4 (u32_at s at)
  little_of_u32_at h = little_part 4 s at bytes h ∙ ap (little 4) (sym (u32_at_value s at h))

  pub big_of_u48 : at + 6 ≤ length s → part s at (at + 6) ≡ big 6 (u48_be_at s at)
  big_of_u48 h =
      let w = part s at (at + 6) in
      let l : length (reverse (part s at (at + 6))) ≡ 6 =
      length-reverse (part s at (at + 6)) ∙ length_part s at (at + 6) (omega arith) h ∙ omega arith in
      let b = bytes_reverse w [] (bytes_part s at (at + 6) bytes) tt in
      let e = ap (λ (m : ℕ). little m (value (reverse w))) (sym l) ∙ little_value (reverse w) b in
      sym (ap (big 6) (u48_be_at_value s at h) ∙ big_reverse 6 (value (reverse w)) ∙ ap reverse e ∙ reverse-reverse w)
