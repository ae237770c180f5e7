-- The whole record, packed by place, one part after the other: the room for each part, and what was written with the last. For `pack`.
-- Assumes nothing.
use Prim.Native.Nat.{ℕ, ◌+◌, ◌≤◌}
use mathlib.Core.Path.{◌≡◌, sym, ap, ◌∙◌}
use mathlib.Core.List.{List, [], ◌++◌}
use mathlib.Core.Bool.{Bool, true, false}
use native.Mathlib.Omega.{arith}
use lib.ListN.{length}
use borrow.Author.Tests.{eq-eqb, ne_eqb}
use Rattle.base.specs.Bits.{and}
use Rattle.base.specs.Bytes.{u32_at}
use Rattle.base.specs.Sevens.{packed}
use Rattle.base.specs.Writing.{Wrote}
use Rattle.base.proofs.WriteLaws.{wrote_none, wrote_append, wrote_same, room_first, room_after_lem}
use Rattle.records.specs.Token.{confined}
use Rattle.records.specs.Packing.{crowd_bytes, crowd_end, CrowdStands, double_at, rest_bytes, record_bytes, Packable}

-- ---- the whole record, one part after the other

pub flags_plain : (f : ℕ) → and f 1 ≡ 0 → confined f ≡ false
flags_plain f h = rw (eq-eqb (and f 1) 0 h)

pub flags_confined : (f : ℕ) → (and f 1 ≡ 0 → ⊥) → confined f ≡ true
flags_confined f h = rw (ne_eqb (and f 1) 0 h)

rest_plain : (t : Bool) (s : List ℕ) → t ≡ false → rest_bytes t s ≡ []
rest_plain t s e = rw e

rest_crowd : (t : Bool) (s : List ℕ) (at : ℕ) → t ≡ true → at ≡ crowd_end true s 12 → crowd_bytes false s at ≡ rest_bytes t s
rest_crowd t s at e h = rw (e, h)

pub rest_stands : (s : List ℕ) (f e : ℕ) → Packable s → f ≡ u32_at s 0 → e ≡ crowd_end true s 12 → confined f ≡ true → CrowdStands false s e
rest_stands s f e x k h t = rw h (x.rest (ap confined (sym k) ∙ t))

module _ (s : List ℕ) (f p : ℕ) (flags : f ≡ u32_at s 0) (privileges : p ≡ double_at s 4) where
  abbrev people : List ℕ
  people = crowd_bytes true s 12 ++ rest_bytes (confined f) s

  pub record_is : record_bytes s ≡ packed 1 ++ (packed f ++ (packed p ++ people))
  unfolding record_bytes
  record_is = rw (flags, privileges)

  module _ (l0 : List ℕ) (room : length (record_bytes s) ≤ length l0) where
    pub record_room_1 : 0 + length (packed 1) ≤ length l0
    record_room_1 =
        let e = ap length record_is in
        room_first 0 (length l0) (packed 1) (packed f ++ (packed p ++ people)) (omega (arith, e, room))

    module _ {l1 : List ℕ} {a : ℕ} (first : Wrote l0 l1 0 a (packed 1)) where
      rest_1 : a + length (packed f ++ (packed p ++ people)) ≤ length l1
      rest_1 = room_after_lem (packed f ++ (packed p ++ people)) first (let e = ap length record_is in omega (arith, e, room))

      pub record_room_2 : a + length (packed f) ≤ length l1
      record_room_2 = room_first a (length l1) (packed f) (packed p ++ people) rest_1

      module _ {l2 : List ℕ} {b : ℕ} (second : Wrote l1 l2 a b (packed f)) where
        rest_2 : b + length (packed p ++ people) ≤ length l2
        rest_2 = room_after_lem (packed p ++ people) second rest_1

        pub record_room_3 : b + length (packed p) ≤ length l2
        record_room_3 = room_first b (length l2) (packed p) people rest_2

        module _ {l3 : List ℕ} {c : ℕ} (third : Wrote l2 l3 b c (packed p)) where
          rest_3 : c + length (crowd_bytes true s 12 ++ rest_bytes (confined f) s) ≤ length l3
          rest_3 = room_after_lem people third rest_2

          pub record_room_4 : c + length (crowd_bytes true s 12) ≤ length l3
          record_room_4 = room_first c (length l3) (crowd_bytes true s 12) (rest_bytes (confined f) s) rest_3

          module _ {l4 : List ℕ} {d : ℕ} (fourth : Wrote l3 l4 c d (crowd_bytes true s 12)) where
            pub record_room_5 : (e : ℕ) → e ≡ crowd_end true s 12 → confined f ≡ true → d + length (crowd_bytes false s e) ≤ length l4
            record_room_5 e h t = rw (rest_crowd (confined f) s e t h) (room_after_lem (rest_bytes (confined f) s) fourth rest_3)

            wrote_people : {l5 : List ℕ} {r : ℕ} → Wrote l4 l5 d r (rest_bytes (confined f) s) → Wrote l0 l5 0 r (record_bytes s)
            wrote_people x =
                wrote_same (sym record_is) (wrote_append first (wrote_append second (wrote_append third (wrote_append fourth x))))

            pub wrote_plain : confined f ≡ false → Wrote l0 l4 0 d (record_bytes s)
            wrote_plain t = wrote_people (wrote_same (sym (rest_plain (confined f) s t)) (wrote_none l4 d))

            pub wrote_confined : (e : ℕ) {l5 : List ℕ} {r : ℕ} → e ≡ crowd_end true s 12 → confined f ≡ true →
                Wrote l4 l5 d r (crowd_bytes false s e) → Wrote l0 l5 0 r (record_bytes s)
            wrote_confined e h t x = wrote_people (wrote_same (rest_crowd (confined f) s e t h) x)
