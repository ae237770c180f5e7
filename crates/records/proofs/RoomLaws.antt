-- Laws of the room for what is unpacked.
-- In order: what a step leaves of the room (room_left, room_for, room_same, room_whole, fits_fourfold, quarter_fits), what
-- a step wrote (refused_within, Counted, counted_room, within_after), a number moves on (number_past,
-- limited_past). Assumes nothing.
use Prim.Native.Nat.{ℕ, ◌+◌, ◌*◌, ◌/◌, ◌<◌, ◌≤◌}
use mathlib.Core.Path.{◌≡◌, refl, sym}
use mathlib.Core.List.{List}
use mathlib.Core.Logic.{◌⊎◌, inl, inr}
use mathlib.Core.Bool.{Bool, true, false, ◌||◌}
use native.Mathlib.Omega.{arith}
use borrow.Author.Tests.{le-leb, lt-leb, leb-true, leb-false}
use lib.Dec.{leb}
use Rattle.std.specs.Prelude.{Option, None, Some}
use Rattle.base.specs.Bytes.{only}
use Rattle.base.specs.Bytes.Read.{some}
use Rattle.base.specs.Sevens.{number, num_of}
use Rattle.base.specs.declared.sevens.Num.{Num}
use Rattle.base.proofs.ReadLaws.{bound, allowed}
use Rattle.base.proofs.SevensSteps.{num_some}
use Rattle.base.proofs.SevensLaws.{number_bounds}
use Rattle.records.specs.declared.unpacking.Step.{Step}
use Rattle.records.specs.Unpacking.{limited, Roomy, Within, room_fits}

-- ---- what a step leaves of the room

module _ {room o size at most : ℕ} (r : Roomy room o size at most) where
  -- after a step that wrote up to a place and read up to another
  pub room_left : {to next less : ℕ} → to + 4 * at ≤ o + 4 * next → to + less ≤ o + most → Roomy room to size next less
  room_left {to} {next} {less} p q = record { fits = go r.fits }
    where
      go : (o + 4 * size ≤ room + 4 * at) ⊎ (o + most ≤ room) → (to + 4 * size ≤ room + 4 * next) ⊎ (to + less ≤ room)
      go (inl h) = inl (omega arith)
      go (inr h) = inr (omega arith)

  -- for what is written of what was read
  pub room_for : {to : ℕ} (next : ℕ) → next ≤ size → to + 4 * at ≤ o + 4 * next → to ≤ o + most → to ≤ room
  room_for {to} next n p q = go r.fits
    where
      go : (o + 4 * size ≤ room + 4 * at) ⊎ (o + most ≤ room) → to ≤ room
      go (inl h) = omega arith
      go (inr h) = omega arith

-- a buffer of the same length has the same room
pub room_same : {a b o size at most : ℕ} → a ≡ b → Roomy b o size at most → Roomy a o size at most
room_same e r = rw e r

-- a buffer that is long enough has room for the whole
pub room_whole : (room size : ℕ) → room_fits room size ≡ true → Roomy room 0 size 0 22940
room_whole room size h = go (leb 22940 room) refl
  where
    go : (b : Bool) → leb 22940 room ≡ b → Roomy room 0 size 0 22940
    go true e = record { fits = inr (omega (arith, leb-true 22940 room e)) }
    go false e =
        let k : leb (4 * size) room ≡ true = rw e at h in
        record { fits = inl (omega (arith, leb-true (4 * size) room k)) }

-- four bytes for each byte of the record are enough
pub fits_fourfold : (room size : ℕ) → 4 * size ≤ room → room_fits room size ≡ true
fits_fourfold room size h = go (leb 22940 room)
  where
    go : (b : Bool) → b || leb (4 * size) room ≡ true
    go true = refl
    go false = le-leb (4 * size) room h

-- a quarter of the room, and the room
pub quarter_fits : (size room : ℕ) → leb size (room / 4) ≡ leb (4 * size) room
quarter_fits size room = go (leb size (room / 4)) refl
  where
    go : (b : Bool) → leb size (room / 4) ≡ b → b ≡ leb (4 * size) room
    go true e = sym (le-leb (4 * size) room (omega (arith, leb-true size (room / 4) e)))
    go false e = sym (lt-leb (4 * size) room (omega (arith, leb-false size (room / 4) e)))

-- of a refusal nothing is asked
pub refused_within : {o at most : ℕ} → Within None o at most
refused_within = record { few = tt; fourfold = tt }

-- a count after an identity, as four bytes: they have room, and at most four bytes are written for each byte read
pub record Counted (room o at : ℕ) (w : Step) (n : Num) : Type 0 where
  pub few : w.to ≤ o + 68
  pub fourfold : w.to + 4 + 4 * at ≤ o + 4 * n.next
  pub inside : w.to + 4 ≤ room

pub counted_room : {room o size at most : ℕ} {w : Step} {n : Num} → Roomy room o size at most → 72 ≤ most → Within (Some w) o at 68 →
    w.next < n.next → n.next ≤ size → Counted room o at w n
counted_room {o = o} {at = at} {w = w} {n = n} r m i past inside =
    let few : w.to ≤ o + 68 = i.few in
    let four : w.to + 4 * at ≤ o + 4 * w.next = i.fourfold in
    let fourfold : w.to + 4 + 4 * at ≤ o + 4 * n.next = omega arith in
    record { few = few; fourfold = fourfold; inside = room_for r n.next inside fourfold (omega arith) }

-- a step after what was read and written before it
pub within_after : {r : Option Step} {o at most to next less : ℕ} → to + 4 * at ≤ o + 4 * next → to + less ≤ o + most →
    Within r to next less → Within r o at most
within_after {r = None} p q w = refused_within
within_after {r = Some r} {o = o} {at = at} {most = most} {to = to} {next = next} {less = less} p q w =
    let few : r.to ≤ to + less = w.few in
    let fourfold : r.to + 4 * next ≤ to + 4 * r.next = w.fourfold in
    record { few = omega arith; fourfold = omega arith }

-- ---- a number moves on

pub number_past : (bits : ℕ) (s : List ℕ) (at : ℕ) (r : Num) → Some r ≡ num_of (number bits s at) → at < r.next
number_past bits s at r e =
    (number_bounds bits s at r.value r.next (num_some (number bits s at) r e)).0

pub limited_past : (most : ℕ) (s : List ℕ) (at : ℕ) (r : Num) → Some r ≡ num_of (limited most s at) → at < r.next
limited_past most s at r e =
    let q = num_some (limited most s at) r e in
    let b = bound (number 32 s at) (λ n a. only (leb n most) (some n a)) r.value r.next q in
    let same : some b.a b.next ≡ some r.value r.next =
    (allowed (leb b.a most) (some b.a b.next) r.value r.next b.then).1 in
    let k : b.next ≡ r.next = cc in
    omega (arith, (number_bounds 32 s at b.a b.next b.first).0)
