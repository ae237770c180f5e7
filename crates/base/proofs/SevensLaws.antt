-- Laws of numbers in sevens, over every width up to 64 bits. The index:
-- what is read is bounded: number_lt number_bounds.
-- What is written: sevens_last sevens_more packed_short, packed_length (by the count of groups), packed_length_64 -48 -32,
-- packed_pos packed_bytes.
-- Read back: read_back number_of_drop number_back. One form only: one_form number_form number_unique.
-- Not here: what a number is by its first byte, SevensSteps. Assumes nothing.
use Prim.Native.Nat.{ℕ, zero, suc, ◌+◌, ◌-◌, ◌*◌, ◌/◌, ◌%◌, ◌^◌, ◌<◌, ◌≤◌}
use mathlib.Core.Path.{◌≡◌, refl, sym, ap, ap₂, ◌∙◌}
use mathlib.Core.List.{List, [], ◌∷◌, ◌++◌}
use mathlib.Core.Bool.{Bool, true, false, cond}
use native.Mathlib.Nat.{pow-suc}
use native.Mathlib.Numerals.{add-one}
use native.Mathlib.Omega.{arith}
use lib.Dec.{T, ltb, eqb}
use lib.Pow.{are_bytes, pow_mono}
use lib.ListN.{length, take, drop}
use lib.Seq.{drop-append_seam}
use borrow.Author.Tests.{lt-ltb, le-ltb, ne_eqb, ltb-true, ltb-false, eqb-false}
use Rattle.base.specs.Bytes.{Read, part}
use Rattle.base.specs.Bytes.Read.{none, some}
use Rattle.base.specs.Sevens.{more, groups, within, placed, number, sevens, packed}
use Rattle.base.proofs.BytesLaws.{byte_lt, bytes_drop, part_whole}
use Rattle.base.proofs.SevensSteps.{number_found}

-- ---- what is read is bounded

pub number_lt : (bits : ℕ) (s : List ℕ) (at v n : ℕ) → number bits s at ≡ some v n → v < 2 ^ bits
number_lt bits s at v n e = (number_found bits s at v n e).fits

pub number_bounds : (bits : ℕ) (s : List ℕ) (at v n : ℕ) → number bits s at ≡ some v n → (at < n) × (n ≤ length s)
number_bounds bits s at v n e = let f = number_found bits s at v n e in (f.past, f.inside)

-- ---- what is written

pub sevens_last : (k v : ℕ) → v < 128 → sevens k v ≡ v ∷ []
unfolding sevens
sevens_last zero v h = refl
sevens_last (suc k) v h = rw (lt-ltb v 128 h)

pub sevens_more : (k v : ℕ) → 128 ≤ v → sevens (suc k) v ≡ (128 + v % 128) ∷ sevens k (v / 128)
unfolding sevens
sevens_more k v h = rw (le-ltb v 128 h)

pub packed_short : (v : ℕ) → v < 128 → packed v ≡ v ∷ []
packed_short v h = sevens_last 9 v h

sevens_length : (j k v : ℕ) → k ≤ j → v < 128 ^ suc k → length (sevens j v) ≤ suc k
sevens_length j zero v h l = let p : 128 ^ suc 0 ≡ 128 = refl in rw (sevens_last j v (omega arith)) (omega arith)
sevens_length zero (suc k) v h l = absurd (omega arith)
sevens_length (suc j) (suc k) v h l = go (ltb v 128) refl (sevens_length j k (v / 128) (omega arith))
  where
    go : (t : Bool) → ltb v 128 ≡ t → (v / 128 < 128 ^ suc k → length (sevens j (v / 128)) ≤ suc k) →
        length (sevens (suc j) v) ≤ suc (suc k)
    go true e f = rw (sevens_last (suc j) v (ltb-true _ _ e)) (omega arith)
    go false e f =
        let p : 128 ^ suc (suc k) ≡ 128 ^ suc k * 128 = pow-suc 128 (suc k) in
        let i : length (sevens j (v / 128)) ≤ suc k = f (omega arith) in
        rw (sevens_more j v (ltb-false _ _ e)) (omega arith)

-- a number below 128 ^ (k + 1) takes at most k + 1 bytes
pub packed_length : (k v : ℕ) → k ≤ 9 → v < 128 ^ suc k → length (packed v) ≤ suc k
packed_length k v h l = sevens_length 9 k v h l

pub packed_length_64 : (v : ℕ) → v < 2 ^ 64 → length (packed v) ≤ 10
packed_length_64 v h = packed_length 9 v (omega arith) (omega arith)

pub packed_length_48 : (v : ℕ) → v < 2 ^ 48 → length (packed v) ≤ 7
packed_length_48 v h = packed_length 6 v (omega arith) (omega arith)

pub packed_length_32 : (v : ℕ) → v < 2 ^ 32 → length (packed v) ≤ 5
packed_length_32 v h = packed_length 4 v (omega arith) (omega arith)

sevens_pos : (k v : ℕ) → 0 < length (sevens k v)
unfolding sevens
sevens_pos zero v = omega arith
sevens_pos (suc k) v = go (ltb v 128)
  where
    go : (t : Bool) → 0 < length (cond t (v ∷ []) ((128 + v % 128) ∷ sevens k (v / 128)))
    go true = omega arith
    go false = omega arith

pub packed_pos : (v : ℕ) → 0 < length (packed v)
packed_pos v = sevens_pos 9 v

sevens_bytes : (k v : ℕ) → v < 128 ^ suc k → T (are_bytes (sevens k v))
sevens_bytes zero v h = let l : v < 128 = rw pow-suc at h in rw (sevens_last 0 v l, lt-ltb v 256 (omega arith)) tt
sevens_bytes (suc k) v h = go (ltb v 128) refl (sevens_bytes k (v / 128))
  where
    go : (t : Bool) → ltb v 128 ≡ t → (v / 128 < 128 ^ suc k → T (are_bytes (sevens k (v / 128)))) → T (are_bytes (sevens (suc k) v))
    go true e f = let l : v < 128 = ltb-true _ _ e in rw (sevens_last (suc k) v l, lt-ltb v 256 (omega arith)) tt
    go false e f =
        let p : 128 ^ suc (suc k) ≡ 128 ^ suc k * 128 = pow-suc 128 (suc k) in
        rw (sevens_more k v (ltb-false _ _ e), lt-ltb (128 + v % 128) 256 (omega arith)) (f (omega arith))

pub packed_bytes : (v : ℕ) → v < 2 ^ 64 → T (are_bytes (packed v))
packed_bytes v h = sevens_bytes 9 v (omega arith)

-- ---- read back

-- what is written in sevens is read back, whatever follows
pub read_back : (k n : ℕ) (rest : List ℕ) → n < 128 ^ suc k → groups (sevens k n ++ rest) ≡ some n (length (sevens k n))
unfolding groups sevens more
read_back zero n rest h =
    let b : n < 128 = rw pow-suc at h in
    rw (lt-ltb n 128 b)
read_back (suc k) n rest h = go (read_back k (n / 128) rest) (ltb n 128) refl
  where
    go : (n / 128 < 128 ^ suc k → groups (sevens k (n / 128) ++ rest) ≡ some (n / 128) (length (sevens k (n / 128)))) →
        (t : Bool) → ltb n 128 ≡ t →
        groups (cond t (n ∷ []) ((128 + n % 128) ∷ sevens k (n / 128)) ++ rest) ≡
        some n (length (cond t (n ∷ []) ((128 + n % 128) ∷ sevens k (n / 128))))
    go ih true e = rw e
    go ih false e =
        let g : 128 ≤ n = ltb-false _ _ e in
        let p : 128 ^ suc (suc k) ≡ 128 ^ suc k * 128 = pow-suc 128 (suc k) in
        rw (le-ltb (128 + n % 128) 128 (omega arith), ih (omega arith), ne_eqb (n / 128) 0 (λ z. omega arith), add-one)
        (ap (λ (x : ℕ). some x (suc (length (sevens k (n / 128))))) (omega arith))

-- a first group x and a number w after it, not 0
joined : (x : ℕ) (s : List ℕ) (k v m : ℕ) → x < 256 → 128 ≤ x → v < 128 ^ suc k → (w : ℕ) → (w ≡ 0 → ⊥) → v ≡ x - 128 + 128 * w →
    ((k' : ℕ) → w < 128 ^ suc k' → take m s ≡ sevens k' w) → x ∷ take m s ≡ sevens k v
joined x s zero v m hx gx h w nz e ih = let p : 128 ^ suc 0 ≡ 128 = refl in absurd (omega (arith, nz))
joined x s (suc k) v m hx gx h w nz e ih =
    let p : 128 ^ suc (suc k) ≡ 128 ^ suc k * 128 = pow-suc 128 (suc k) in
    let a : v / 128 ≡ w = omega arith in
    let b : 128 + v % 128 ≡ x = omega arith in
    sym (sevens_more k v (omega (arith, nz)) ∙ ap₂ ◌∷◌ b (ap (sevens k) a ∙ sym (ih k (omega arith))))

-- what is read is the one form of its number: the bytes taken are those that would be written
pub one_form : (s : List ℕ) (k v n : ℕ) → T (are_bytes s) → v < 128 ^ suc k → groups s ≡ some v n → take n s ≡ sevens k v
unfolding groups more
one_form [] k v n b h e = let z : ◌≡◌ {A = ℕ} 0 1 = cc in absurd (omega arith)
one_form (x ∷ s) k v n b h e = first (λ k' w m i j. one_form s k' w m (bytes_drop 1 (x ∷ s) b) i j) (ltb x 128) refl (groups s) refl e
  where
    first : ((k' w m : ℕ) → w < 128 ^ suc k' → groups s ≡ some w m → take m s ≡ sevens k' w) →
        (t : Bool) → ltb x 128 ≡ t → (r : Read ℕ) → groups s ≡ r →
        cond t (some x 1) (more (x - 128) r) ≡ some v n → take n (x ∷ s) ≡ sevens k v
    first ih true p r q e' =
        let a : v ≡ x = cc in
        let c : n ≡ 1 = cc in
        let d : x < 128 = ltb-true _ _ p in
        rw (c, sevens_last k v (omega arith)) (ap (λ (y : ℕ). y ∷ []) (sym a))
    first ih false p none q e' = let z : ◌≡◌ {A = ℕ} 0 1 = cc in absurd (omega arith)
    first ih false p (some w m) q e' = high (eqb w 0) refl e'
      where
        high : (t : Bool) → eqb w 0 ≡ t → cond t none (some (x - 128 + 128 * w) (m + 1)) ≡ some v n → take n (x ∷ s) ≡ sevens k v
        high true u g = let z : ◌≡◌ {A = ℕ} 0 1 = cc in absurd (omega arith)
        high false u g =
            let a : v ≡ x - 128 + 128 * w = cc in
            let c : n ≡ suc m = cc (add-one m) in
            rw c (joined x s k v m (byte_lt (x ∷ s) 0 b) (ltb-false _ _ p) h w (eqb-false w 0 u) a (λ k' l. ih k' w m l q))

-- ---- at a place, within a width

module _ (bits : ℕ) (narrow : bits ≤ 64) where
  wide_enough : (v : ℕ) → v < 2 ^ bits → v < 128 ^ 10
  wide_enough v h = let m : 2 ^ bits ≤ 2 ^ 64 = pow_mono {i = bits} {j = 64} narrow in omega arith

  pub number_of_drop : (s q : List ℕ) (at v : ℕ) → v < 2 ^ bits → drop at s ≡ packed v ++ q →
      number bits s at ≡ some v (at + length (packed v))
  unfolding number within placed
  number_of_drop s q at v h d = rw (d, read_back 9 v q (wide_enough v h), lt-ltb v (2 ^ bits) h)

  pub number_back : (p q : List ℕ) (v : ℕ) → v < 2 ^ bits →
      number bits (p ++ (packed v ++ q)) (length p) ≡ some v (length p + length (packed v))
  number_back p q v h = number_of_drop (p ++ (packed v ++ q)) q (length p) v h (drop-append_seam p (packed v ++ q))

  pub number_form : (s : List ℕ) (at v n : ℕ) → T (are_bytes s) → number bits s at ≡ some v n → part s at n ≡ packed v
  number_form s at v n b e =
      let f = number_found bits s at v n e in
      one_form (drop at s) 9 v (n - at) (bytes_drop at s b) (wide_enough v f.fits) f.told

  pub number_unique : (s t : List ℕ) (v : ℕ) → T (are_bytes s) → T (are_bytes t) →
      number bits s 0 ≡ some v (length s) → number bits t 0 ≡ some v (length t) → s ≡ t
  number_unique s t v b c e f =
      sym (part_whole s) ∙ number_form s 0 v (length s) b e ∙ sym (number_form t 0 v (length t) c f) ∙ part_whole t
