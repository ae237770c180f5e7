-- Writing at a place, one thing after the other. No contract of a caller cites this file.
-- In order: stores one after the other (sets_append), from the front (sets_front, buffer_room), a copy (copy_more, copy_done), the bytes of
-- a number, lowest first (sets_little_none, sets_little_more), what was written (wrote_none, wrote_same, wrote_append) and the room for it
-- (wrote_long, room_first, room_after_lem), the groups of a number that are still to be written (Writes), what a loop has left (Left).
-- Assumes nothing.
use Prim.Native.Nat.{ℕ, zero, suc, ◌+◌, ◌-◌, ◌*◌, ◌/◌, ◌%◌, ◌^◌, ◌<◌, ◌≤◌}
use mathlib.Core.Path.{◌≡◌, refl, sym, ap, ap₂, ◌∙◌}
use mathlib.Core.List.{List, [], ◌∷◌, ◌++◌}
use mathlib.Core.Bool.{Bool, true, false, cond}
use native.Mathlib.Nat.{pow-suc, add-zero, zero-add}
use native.Mathlib.Numerals.{add-one}
use native.Mathlib.Omega.{arith}
use lib.Dec.{ltb}
use lib.ListN.{length, get_or, set, take, drop, replicate, length-append, length-replicate}
use lib.Seq.{sets, sets-eq, drop-cons, drop-length, take-append_seam, length-sets}
use Rattle.base.specs.Bytes.{little}
use Rattle.base.specs.Sevens.{sevens, packed}
use Rattle.base.specs.Writing.{Wrote}
use Rattle.base.proofs.SevensLaws.{sevens_last, sevens_more}

-- ---- stores one after the other

pub sets_append : (l : List ℕ) (o : ℕ) (a b : List ℕ) → sets l o (a ++ b) ≡ sets (sets l o a) (o + length a) b
sets_append l o [] b = ap (λ (k : ℕ). sets l k b) (sym (add-zero o))
sets_append l o (x ∷ a) b =
    sets_append (set l o x) (suc o) a b ∙ ap (λ (k : ℕ). sets (sets (set l o x) (suc o) a) k b) (omega arith)

-- what was written at the front stands there
pub sets_front : (entry exit w : List ℕ) (n : ℕ) → n ≡ length w → exit ≡ sets entry 0 w → n ≤ length entry → take n exit ≡ w
sets_front entry exit w n h e k =
    let x : sets entry 0 w ≡ w ++ drop (0 + length w) entry = sets-eq w entry 0 (omega arith) in
    rw (e, x, h) (take-append_seam w (drop (0 + length w) entry))

-- as long as it was made
pub buffer_room : (n m : ℕ) → n ≤ m → n ≤ length {A = ℕ} (replicate m 0)
buffer_room n m h = rw (length-replicate {A = ℕ} m 0) h

-- ---- a copy

pub copy_more : (from out : List ℕ) (i : ℕ) → i < length from → sets out i (drop i from)
    ≡ sets (set out i (get_or from i 0)) (i + 1) (drop (i + 1) from)
copy_more from out i h = rw (add-one, drop-cons from i 0)

pub copy_done : (from out : List ℕ) (i : ℕ) → i ≡ length from → sets out i (drop i from) ≡ out
copy_done from out i h = rw (h, drop-length from)

-- ---- stores of a number's bytes

pub sets_little_none : (out : List ℕ) (to n v : ℕ) → n ≡ 0 → sets out to (little n v) ≡ out
unfolding little
sets_little_none out to n v e = rw e

pub sets_little_more : (out : List ℕ) (to n v : ℕ) → 0 < n → sets out to (little n v)
    ≡ sets (set out to (v % 256)) (to + 1) (little (n - 1) (v / 256))
unfolding little
sets_little_more out to zero v h = absurd (omega arith)
sets_little_more out to (suc n) v h =
    let e : n ≡ suc n - 1 = omega arith in
    ap₂ (λ (k m : ℕ). sets (set out to (v % 256)) k (little m (v / 256))) (sym (add-one to)) e

-- the places after a place, as stores count them
pub add_two : (o : ℕ) → o + 2 ≡ suc (suc o)
add_two o = omega arith

pub add_three : (o : ℕ) → o + 3 ≡ suc (suc (suc o))
add_three o = omega arith

pub add_four : (o : ℕ) → o + 4 ≡ suc (suc (suc (suc o)))
add_four o = omega arith

pub add_five : (o : ℕ) → o + 5 ≡ suc (suc (suc (suc (suc o))))
add_five o = omega arith

-- ---- one thing after the other

pub wrote_none : (l : List ℕ) (o : ℕ) → Wrote l l o o []
wrote_none l o = record { place = sym (add-zero o); bytes = refl }

pub wrote_append : {a b c : List ℕ} {o m r : ℕ} {v w : List ℕ} → Wrote a b o m v → Wrote b c m r w → Wrote a c o r (v ++ w)
wrote_append {a} {o = o} {v = v} {w = w} x y =
    let p = x.place in
    let q = y.place in
    let l = length-append v w in
    record {
      place = omega arith;
      bytes = y.bytes ∙ ap₂ (λ (t : List ℕ) (k : ℕ). sets t k w) x.bytes p ∙ sym (sets_append a o v w);
    }

pub wrote_same : {a b : List ℕ} {o r : ℕ} {v w : List ℕ} → v ≡ w → Wrote a b o r v → Wrote a b o r w
wrote_same {a} {o = o} e x = record { place = x.place ∙ ap (λ (l : List ℕ). o + length l) e; bytes = x.bytes ∙ ap (sets a o) e }

-- a buffer stays as long as it was
pub wrote_long : {a b : List ℕ} {o r : ℕ} {w : List ℕ} → Wrote a b o r w → length b ≡ length a
wrote_long {a} {o = o} {w = w} x = ap length x.bytes ∙ length-sets a o w

-- what was written from the front
pub wrote_length : {a b : List ℕ} {n : ℕ} {w : List ℕ} → Wrote a b 0 n w → n ≡ length w
wrote_length {w = w} x = x.place ∙ zero-add (length w)

pub wrote_inside : {a b : List ℕ} {n : ℕ} {w : List ℕ} → Wrote a b 0 n w → length w ≤ length a → n ≤ length b
wrote_inside {a} {w = w} x h = let e = wrote_length x in let l = wrote_long x in omega arith

-- there is room for the second where there is room for both
pub room_after_lem : {a b : List ℕ} {o m : ℕ} {v : List ℕ} (w : List ℕ) → Wrote a b o m v → o + length (v ++ w) ≤ length a →
    m + length w ≤ length b
room_after_lem {v = v} w x h = let p = x.place in let l = length-append v w in let e = wrote_long x in omega arith

pub room_first : (o n : ℕ) (v w : List ℕ) → o + length (v ++ w) ≤ n → o + length v ≤ n
room_first o n v w h = let l = length-append v w in omega arith

-- ---- the groups of a number that are still to be written

pub record Writes (out₀ : List ℕ) (o v : ℕ) (out : List ℕ) (n i : ℕ) : Type 0 where
  pub left : ℕ
  pub small : n < 128 ^ suc left
  pub bytes : sets out₀ o (packed v) ≡ sets out i (sevens left n)
  pub count : o + length (packed v) ≡ i + length (sevens left n)

sevens_some : (k n : ℕ) → 0 < length (sevens k n)
unfolding sevens
sevens_some zero n = omega arith
sevens_some (suc k) n = go (ltb n 128)
  where
    go : (t : Bool) → 0 < length (cond t (n ∷ []) ((128 + n % 128) ∷ sevens k (n / 128)))
    go true = omega arith
    go false = omega arith

module _ {out₀ : List ℕ} {o v : ℕ} {out : List ℕ} {n i : ℕ} where
  -- one more place is free
  pub writes_room : Writes out₀ o v out n i → i < o + length (packed v)
  writes_room x = let l = sevens_some x.left n in let c = x.count in omega arith

  pub writes_more : Writes out₀ o v out n i → 128 ≤ n → Writes out₀ o v (set out i (128 + n % 128)) (n / 128) (i + 1)
  writes_more x h = go x.left x.small x.bytes x.count
    where
      go : (k : ℕ) → n < 128 ^ suc k → sets out₀ o (packed v) ≡ sets out i (sevens k n) → o + length (packed v) ≡ i + length (sevens k n) →
          Writes out₀ o v (set out i (128 + n % 128)) (n / 128) (i + 1)
      go zero s b c = let p : 128 ^ suc 0 ≡ 128 = refl in absurd (omega arith)
      go (suc k) s b c =
          let p : 128 ^ suc (suc k) ≡ 128 ^ suc k * 128 = pow-suc 128 (suc k) in
          let e = sevens_more k n h in
          let l : length (sevens (suc k) n) ≡ suc (length (sevens k (n / 128))) = ap length e in
          record {
            left = k;
            small = omega arith;
            bytes = b ∙ ap (sets out i) e ∙ ap (λ (j : ℕ). sets (set out i (128 + n % 128)) j (sevens k (n / 128))) (sym (add-one i));
            count = omega arith;
          }

  pub writes_last : Writes out₀ o v out n i → n < 128 → Wrote out₀ (set out i n) o (i + 1) (packed v)
  writes_last x h =
      let e = sevens_last x.left n h in
      let l = ap length e in
      let c = x.count in
      record { place = omega arith; bytes = sym (x.bytes ∙ ap (sets out i) e) }

pub writes_start : (out : List ℕ) (o v : ℕ) → v < 2 ^ 64 → Writes out o v out v o
writes_start out o v h = record { left = 9; small = omega arith; bytes = refl; count = refl }

-- ---- what is left to write: writing w at o, before, is writing v at m, now

pub record Left (before : List ℕ) (o : ℕ) (w : List ℕ) (now : List ℕ) (m : ℕ) (v : List ℕ) : Type 0 where
  pub bytes : sets before o w ≡ sets now m v
  pub count : o + length w ≡ m + length v

pub left_start : (l : List ℕ) (o : ℕ) (w : List ℕ) → Left l o w l o w
left_start l o w = record { bytes = refl; count = refl }

module _ {l : List ℕ} {o : ℕ} {w l' : List ℕ} {m : ℕ} {v : List ℕ} (x : Left l o w l' m v) where
  pub left_long : length l' ≡ length l
  left_long = sym (length-sets l' m v) ∙ ap length (sym x.bytes) ∙ length-sets l o w

  pub left_room : (a b : List ℕ) → v ≡ a ++ b → o + length w ≤ length l → m + length a ≤ length l'
  left_room a b e h = let c = x.count in let d = ap length e ∙ length-append a b in let k = left_long in omega arith

  pub left_step : (a b : List ℕ) {l'' : List ℕ} {r : ℕ} → v ≡ a ++ b → Wrote l' l'' m r a → Left l o w l'' r b
  left_step a b e y =
      let p = y.place in
      let c = x.count in
      let d = ap length e ∙ length-append a b in
      record {
        bytes = x.bytes ∙ ap (sets l' m) e ∙ sets_append l' m a b ∙ ap₂ (λ (t : List ℕ) (k : ℕ). sets t k b) (sym y.bytes) (sym p);
        count = omega arith;
      }

  pub left_done : v ≡ [] → Wrote l l' o m w
  left_done e =
      let c = x.count in
      let d : length v ≡ 0 = ap length e in
      record { place = omega arith; bytes = sym (x.bytes ∙ ap (sets l' m) e) }
