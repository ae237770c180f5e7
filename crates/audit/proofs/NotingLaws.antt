-- Measuring or writing at a place, one thing after the other. No contract of a caller cites this file.
-- In order: what stands there afterwards (noted_nil, noted_append, noted_length), what was noted (noted_none, noted_both, noted_same,
-- noted_long), the room for it (room_none, room_same, room_first, room_second), what a loop has left (Ahead, ahead-..), the groups of a
-- number that are still to be noted (Packs, packs-..), what is measured first and then written (measured-..).
-- Assumes nothing.
use Prim.Native.Nat.{ℕ, ◌+◌, ◌/◌, ◌%◌, ◌^◌, ◌<◌, ◌≤◌}
use mathlib.Core.Path.{◌≡◌, refl, sym, ap, ap₂, ◌∙◌}
use mathlib.Core.List.{List, [], ◌∷◌, ◌++◌}
use mathlib.Core.Bool.{Bool, true, false, cond}
use native.Mathlib.Nat.{add-zero}
use native.Mathlib.Omega.{arith}
use lib.Dec.{ltb}
use lib.ListN.{length, set, length-append}
use lib.Seq.{sets, length-sets}
use borrow.Author.Tests.{lt-ltb, le-ltb}
use Rattle.std.specs.Prelude.{Option, None, Some}
use Rattle.base.specs.Sevens.{sevens, packed}
use Rattle.base.proofs.WriteLaws.{sets_append, Writes, writes_start, writes_room, writes_more, writes_last}
use Rattle.audit.specs.Noting.{noted, Noted, Room, fitting}

-- ---- what stands there afterwards

pub noted_nil : (t : Bool) (l : List ℕ) (o : ℕ) → noted t l o [] ≡ l
noted_nil true l o = refl
noted_nil false l o = refl

pub noted_append : (t : Bool) (l : List ℕ) (o : ℕ) (v w : List ℕ) → noted t l o (v ++ w) ≡ noted t (noted t l o v) (o + length v) w
noted_append true l o v w = sets_append l o v w
noted_append false l o v w = refl

pub noted_length : (t : Bool) (l : List ℕ) (o : ℕ) (w : List ℕ) → length (noted t l o w) ≡ length l
noted_length true l o w = length-sets l o w
noted_length false l o w = refl

-- ---- one thing after the other

pub noted_none : (t : Bool) (l : List ℕ) (o : ℕ) → Noted t l l o o []
noted_none t l o = record { place = sym (add-zero o); bytes = sym (noted_nil t l o) }

pub noted_both : {t : Bool} {a b c : List ℕ} {o m r : ℕ} {v w : List ℕ} → Noted t a b o m v → Noted t b c m r w → Noted t a c o r (v ++ w)
noted_both {t} {a} {o = o} {v = v} {w = w} x y =
    let p = x.place in
    let q = y.place in
    let l = length-append v w in
    record {
      place = omega arith;
      bytes = y.bytes ∙ ap₂ (λ (k : List ℕ) (i : ℕ). noted t k i w) x.bytes p ∙ sym (noted_append t a o v w);
    }

pub noted_same : {t : Bool} {a b : List ℕ} {o r : ℕ} {v w : List ℕ} → v ≡ w → Noted t a b o r v → Noted t a b o r w
noted_same {t} {a} {o = o} e x =
    record { place = x.place ∙ ap (λ (l : List ℕ). o + length l) e; bytes = x.bytes ∙ ap (λ (l : List ℕ). noted t a o l) e }

-- a buffer stays as long as it was
pub noted_long : {t : Bool} {a b : List ℕ} {o r : ℕ} {w : List ℕ} → Noted t a b o r w → length b ≡ length a
noted_long {t} {a} {o = o} {w = w} x = ap length x.bytes ∙ noted_length t a o w

-- ---- the room for it

-- what is measured needs none
pub room_none : (l : List ℕ) (o : ℕ) (w : List ℕ) → Room false l o w
room_none l o w e = let z : ◌≡◌ {A = ℕ} 0 1 = cc in absurd (omega arith)

pub room_same : {t : Bool} (l : List ℕ) (o : ℕ) {v w : List ℕ} → v ≡ w → Room t l o v → Room t l o w
room_same l o e h q = let k = ap length e in let r = h q in omega arith

pub room_first : {t : Bool} (l : List ℕ) (o : ℕ) (v w : List ℕ) → Room t l o (v ++ w) → Room t l o v
room_first l o v w h q = let k = length-append v w in let r = h q in omega arith

pub room_second : {t : Bool} {a b : List ℕ} {o m : ℕ} {v : List ℕ} (w : List ℕ) → Noted t a b o m v → Room t a o (v ++ w) → Room t b m w
room_second {v = v} w x h q =
    let l = length-append v w in
    let k = h q in
    let p = x.place in
    let e = noted_long x in
    omega arith

-- ---- what is left to note: noting w at o, before, is noting v at m, now

pub record Ahead (write : Bool) (before : List ℕ) (o : ℕ) (w : List ℕ) (now : List ℕ) (m : ℕ) (v : List ℕ) : Type 0 where
  pub bytes : noted write before o w ≡ noted write now m v
  pub count : o + length w ≡ m + length v

pub ahead_start : (t : Bool) (l : List ℕ) (o : ℕ) (w : List ℕ) (v : List ℕ) → w ≡ v → Ahead t l o w l o v
ahead_start t l o w v e = record { bytes = ap (λ (k : List ℕ). noted t l o k) e; count = ap (λ (k : List ℕ). o + length k) e }

module _ {t : Bool} {l : List ℕ} {o : ℕ} {w l' : List ℕ} {m : ℕ} {v : List ℕ} (x : Ahead t l o w l' m v) where
  pub ahead_long : length l' ≡ length l
  ahead_long = sym (noted_length t l' m v) ∙ ap length (sym x.bytes) ∙ noted_length t l o w

  pub ahead_room : (a b : List ℕ) → v ≡ a ++ b → Room t l o w → Room t l' m a
  ahead_room a b e h q =
      let r = h q in
      let c = x.count in
      let d = ap length e ∙ length-append a b in
      let k = ahead_long in
      omega arith

  pub ahead_step : (a b : List ℕ) {l'' : List ℕ} {r : ℕ} → v ≡ a ++ b → Noted t l' l'' m r a → Ahead t l o w l'' r b
  ahead_step a b e y =
      let p = y.place in
      let c = x.count in
      let d = ap length e ∙ length-append a b in
      record {
        bytes = x.bytes
            ∙ ap (λ (k : List ℕ). noted t l' m k) e
            ∙ noted_append t l' m a b
            ∙ ap₂ (λ (k : List ℕ) (i : ℕ). noted t k i b) (sym y.bytes) (sym p);
        count = omega arith;
      }

  pub ahead_done : v ≡ [] → Noted t l l' o m w
  ahead_done e =
      let c = x.count in
      let d : length v ≡ 0 = ap length e in
      record { place = omega arith; bytes = sym (x.bytes ∙ ap (λ (k : List ℕ). noted t l' m k) e ∙ noted_nil t l' m) }

-- ---- the groups of a number that are still to be noted

-- a byte at a place, where it is written
abbrev Stored : Bool → List ℕ → List ℕ → ℕ → ℕ → Type 0
Stored t a b i x = b ≡ cond t (set a i x) a

-- `filled` is the buffer as it is where bytes are written
pub record Packs (write : Bool) (out₀ : List ℕ) (o v : ℕ) (out : List ℕ) (n i : ℕ) : Type 0 where
  pub filled : List ℕ
  pub writes : Writes out₀ o v filled n i
  pub bytes : out ≡ cond write filled out₀

pub packs_start : (t : Bool) (out : List ℕ) (o v : ℕ) → v < 2 ^ 64 → Packs t out o v out v o
packs_start t out o v h = record { filled = out; writes = writes_start out o v h; bytes = go t }
  where
    go : (t : Bool) → out ≡ cond t out out
    go true = refl
    go false = refl

-- one byte more
stored_more : (t : Bool) (out₀ filled out out' : List ℕ) (i x : ℕ) → out ≡ cond t filled out₀ → Stored t out out' i x →
    out' ≡ cond t (set filled i x) out₀
stored_more true out₀ filled out out' i x e y = y ∙ ap (λ (l : List ℕ). set l i x) e
stored_more false out₀ filled out out' i x e y = y ∙ e

module _ {t : Bool} {out₀ : List ℕ} {o v : ℕ} {out : List ℕ} {n i : ℕ} (x : Packs t out₀ o v out n i) where
  -- one more place is free
  pub packs_place : i < o + length (packed v)
  packs_place = writes_room x.writes

  pub packs_long : length out ≡ length out₀
  packs_long =
      let w = x.writes in
      let f : length x.filled ≡ length out₀
      = sym (length-sets x.filled i (sevens w.left n)) ∙ ap length (sym w.bytes) ∙ length-sets out₀ o (packed v) in
      ap length x.bytes ∙ go t x.filled f
    where
      go : (t : Bool) (l : List ℕ) → length l ≡ length out₀ → length (cond t l out₀) ≡ length out₀
      go true l e = e
      go false l e = refl

  pub packs_room : Room t out₀ o (packed v) → t ≡ true → i < length out
  packs_room h q = let p = packs_place in let l = packs_long in let r = h q in omega arith

  pub packs_more : (out' : List ℕ) → 128 ≤ n → Stored t out out' i (128 + n % 128) → Packs t out₀ o v out' (n / 128) (i + 1)
  packs_more out' h y =
      record {
        filled = set x.filled i (128 + n % 128);
        writes = writes_more x.writes h;
        bytes = stored_more t out₀ x.filled out out' i (128 + n % 128) x.bytes y;
      }

  pub packs_last : (out' : List ℕ) → n < 128 → Stored t out out' i n → Noted t out₀ out' o (i + 1) (packed v)
  packs_last out' h y =
      let w = writes_last x.writes h in
      record {
        place = w.place;
        bytes = stored_more t out₀ x.filled out out' i n x.bytes y ∙ ap (λ (l : List ℕ). cond t l out₀) w.bytes;
      }

-- ---- measured first, then written: n is the measure of w, and k the buffer after it, as l was before

pub no_bytes : (w : List ℕ) → length w ≡ 0 → w ≡ []
no_bytes [] e = refl
no_bytes (b ∷ w) e = absurd (omega arith)

module _ {l k : List ℕ} {n : ℕ} {w : List ℕ} (x : Noted false l k 0 n w) where
  pub measured_room : n ≤ length k → Room true k 0 w
  measured_room h q = let p = x.place in omega arith

  -- what is answered, and what stands there then
  abbrev pub Reported : Option ℕ → List ℕ → Type 0
  Reported r m = (r ≡ cond (ltb (length l) (length w)) None (Some (length w))) × (m ≡ noted true l 0 (fitting (length l) w))

  pub measured_nothing : n ≡ 0 → Reported (Some 0) k
  measured_nothing h =
      let p = x.place in
      let z : w ≡ [] = no_bytes w (omega arith) in
      rw z (rw (le-ltb (length l) 0 (omega arith)) (refl, x.bytes))

  pub measured_none : length k < n → Reported None k
  measured_none h =
      let p = x.place in
      let e = ap length x.bytes in
      let t : ltb (length l) (length w) ≡ true = lt-ltb (length l) (length w) (omega arith) in
      (rw t, rw t x.bytes)

  pub measured_all : n ≤ length k → {m : List ℕ} {r : ℕ} → Noted true k m 0 r w → Reported (Some n) m
  measured_all h y =
      let p = x.place in
      let q : n ≡ length w = omega arith in
      let e = ap length x.bytes in
      let t : ltb (length l) (length w) ≡ false = le-ltb (length l) (length w) (omega arith) in
      (rw (t, q), rw t (y.bytes ∙ ap (λ (b : List ℕ). sets b 0 w) x.bytes))
