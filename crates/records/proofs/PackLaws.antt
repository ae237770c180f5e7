-- What is packed, by place, step by step as the code goes.
-- In order: the words of an identity, an identity, a member, members, a crowd.
-- Not here: the whole record, PackRecordLaws; that what is packed of a listing is its token's record, PackedLaws. Assumes nothing.
use Prim.Native.Nat.{ℕ, zero, suc, ◌+◌, ◌-◌, ◌<◌, ◌≤◌}
use mathlib.Core.Path.{◌≡◌, refl, sym, ◌∙◌}
use mathlib.Core.List.{List, [], ◌++◌}
use mathlib.Core.Bool.{Bool, true, false}
use native.Mathlib.Nat.{add-zero}
use native.Mathlib.Omega.{arith}
use lib.ListN.{length}
use Rattle.base.specs.Bytes.{byte_at, u32_at, u48_be_at, part}
use Rattle.base.specs.Sevens.{packed}
use Rattle.base.proofs.WriteLaws.{room_first}
use Rattle.sids.specs.Sid.{sid_end}
use Rattle.sids.proofs.SidLaws.{sid_end_bounds}
use Rattle.records.specs.TokenRecord.{packed_words, pack_identity}
use Rattle.records.specs.Packing.{identity_at, member_bytes, member_end, members_bytes, members_end, MembersStand, crowd_bytes, crowd_end}
use Rattle.records.specs.Packing.{CrowdStands}

-- ---- the words of an identity

pub words_none : (n : ℕ) (w : List ℕ) (at : ℕ) → n ≤ 0 → packed_words n w at ≡ []
unfolding packed_words
words_none zero w at h = refl
words_none (suc n) w at h = absurd (omega arith)

pub words_more : (n : ℕ) (w : List ℕ) (at v : ℕ) → 0 < n → v ≡ u32_at w at → packed_words n w at ≡ packed v ++ packed_words (n - 1) w (at + 4)
unfolding packed_words
words_more zero w at v h e = absurd (omega arith)
words_more (suc n) w at v h e =
    let k : suc n - 1 ≡ n = omega arith in
    rw (k, e)

-- ---- an identity, by the numbers that the code reads of it

pub identity_is : (w : List ℕ) (n v : ℕ) → n ≡ byte_at w 1 → v ≡ u48_be_at w 2 → pack_identity w ≡ packed n ++ (packed v ++ packed_words n w 8)
unfolding pack_identity
identity_is w n v e f = rw (e, f)

-- ---- members

-- an identity starts before it ends
pub starts : (s : List ℕ) (at e : ℕ) → e ≡ sid_end s at → (sid_end s at ≡ 0 → ⊥) → at ≤ e
starts s at e h k = let b = sid_end_bounds s at k in omega (arith, b.0)

pub member_word : (attrs : Bool) (s : List ℕ) (at e v : ℕ) → attrs ≡ true → e ≡ sid_end s at → v ≡ u32_at s e →
    member_bytes attrs s at ≡ pack_identity (part s at e) ++ packed v
member_word attrs s at e v t h k = rw (t, k, h)

pub member_plain : (attrs : Bool) (s : List ℕ) (at e : ℕ) → attrs ≡ false → e ≡ sid_end s at →
    member_bytes attrs s at ≡ pack_identity (part s at e)
member_plain attrs s at e t h = rw (t, h)

pub member_end_word : (attrs : Bool) (s : List ℕ) (at e : ℕ) → attrs ≡ true → e ≡ sid_end s at → e + 4 ≡ member_end attrs s at
member_end_word attrs s at e t h = rw (t, h)

pub member_end_plain : (attrs : Bool) (s : List ℕ) (at e : ℕ) → attrs ≡ false → e ≡ sid_end s at → e ≡ member_end attrs s at
member_end_plain attrs s at e t h = rw t (h ∙ sym (add-zero (sid_end s at)))

-- with the word or without, the identity comes first
pub member_room : (attrs : Bool) (s : List ℕ) (at e o n : ℕ) → e ≡ sid_end s at → o + length (member_bytes attrs s at) ≤ n →
    o + length (pack_identity (part s at e)) ≤ n
member_room true s at e o n h k = rw h (room_first o n (identity_at s at) (packed (u32_at s (sid_end s at))) k)
member_room false s at e o n h k = rw h k

pub members_none : (attrs : Bool) (n : ℕ) (s : List ℕ) (at : ℕ) → n ≤ 0 → members_bytes attrs n s at ≡ []
unfolding members_bytes
members_none attrs zero s at h = refl
members_none attrs (suc n) s at h = absurd (omega arith)

pub members_more : (attrs : Bool) (n : ℕ) (s : List ℕ) (at e : ℕ) → 0 < n → e ≡ member_end attrs s at →
    members_bytes attrs n s at ≡ member_bytes attrs s at ++ members_bytes attrs (n - 1) s e
unfolding members_bytes
members_more attrs zero s at e h k = absurd (omega arith)
members_more attrs (suc n) s at e h k = let m : suc n - 1 ≡ n = omega arith in rw (m, k)

pub members_end_none : (attrs : Bool) (n : ℕ) (s : List ℕ) (at : ℕ) → n ≤ 0 → members_end attrs n s at ≡ at
unfolding members_end
members_end_none attrs zero s at h = refl
members_end_none attrs (suc n) s at h = absurd (omega arith)

pub members_end_more : (attrs : Bool) (n : ℕ) (s : List ℕ) (at e : ℕ) → 0 < n → e ≡ member_end attrs s at →
    members_end attrs n s at ≡ members_end attrs (n - 1) s e
unfolding members_end
members_end_more attrs zero s at e h k = absurd (omega arith)
members_end_more attrs (suc n) s at e h k = let m : suc n - 1 ≡ n = omega arith in rw (m, k)

module _ (attrs : Bool) (n : ℕ) (s : List ℕ) (at : ℕ) (some : 0 < n) (x : MembersStand attrs n s at) where
  pub stand_first : sid_end s at ≡ 0 → ⊥
  unfolding MembersStand
  stand_first = go n some x
    where
      go : (n : ℕ) → 0 < n → MembersStand attrs n s at → sid_end s at ≡ 0 → ⊥
      go zero h y = absurd (omega arith)
      go (suc n) h y = y.0

  pub stand_more : (e : ℕ) → e ≡ member_end attrs s at → MembersStand attrs (n - 1) s e
  unfolding MembersStand
  stand_more e k = go n some x
    where
      go : (n : ℕ) → 0 < n → MembersStand attrs n s at → MembersStand attrs (n - 1) s e
      go zero h y = absurd (omega arith)
      go (suc n) h y = let m : suc n - 1 ≡ n = omega arith in rw (m, k) y.1

-- ---- a crowd, by the place and the count that the code reads

module _ (attrs : Bool) (s : List ℕ) (at e n : ℕ) (ends : e ≡ sid_end s at) (counts : n ≡ u32_at s e) where
  pub crowd_is : crowd_bytes attrs s at ≡ pack_identity (part s at e) ++ (packed n ++ members_bytes attrs n s (e + 4))
  unfolding crowd_bytes
  crowd_is = rw (counts, ends)

  pub crowd_end_is : crowd_end attrs s at ≡ members_end attrs n s (e + 4)
  unfolding crowd_end
  crowd_end_is = rw (counts, ends)

  pub crowd_members : CrowdStands attrs s at → MembersStand attrs n s (e + 4)
  crowd_members x = rw (counts, ends) x.members
