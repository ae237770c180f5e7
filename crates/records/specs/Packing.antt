-- What is packed of a flat listing, by place: the bytes of a record from the bytes of the listing, with no token between. For the
-- contracts of the private writers. In a listing that is read these are the bytes of its token's record.
use Rattle.std.specs.Prelude.{ℕ, zero, suc, ◌+◌, ◌*◌, ◌≡◌, List, [], ◌++◌, Bool, true, false}
use Rattle.base.specs.Bytes.{u32_at, part}
use Rattle.base.specs.Sevens.{packed}
use Rattle.sids.specs.Sid.{sid_end}
use Rattle.records.specs.Token.{confined}
use Rattle.records.specs.TokenRecord.{pack_identity}
use Rattle.records.specs.Crowd.{width, user_place}

-- the identity at a place
abbrev pub identity_at : List ℕ → ℕ → List ℕ
identity_at s at = pack_identity (part s at (sid_end s at))

-- a member: an identity, with an attribute word or without; and the place after it
abbrev pub member_bytes : Bool → List ℕ → ℕ → List ℕ
member_bytes true s at = identity_at s at ++ packed (u32_at s (sid_end s at))
member_bytes false s at = identity_at s at

abbrev pub member_end : Bool → List ℕ → ℕ → ℕ
member_end attrs s at = sid_end s at + width attrs

-- n members; the place after them; that an identity stands where each begins
unfoldable pub members_bytes : Bool → ℕ → List ℕ → ℕ → List ℕ
members_bytes attrs zero s at = []
members_bytes attrs (suc n) s at = member_bytes attrs s at ++ members_bytes attrs n s (member_end attrs s at)

unfoldable pub members_end : Bool → ℕ → List ℕ → ℕ → ℕ
members_end attrs zero s at = at
members_end attrs (suc n) s at = members_end attrs n s (member_end attrs s at)

unfoldable pub MembersStand : Bool → ℕ → List ℕ → ℕ → Type 0
MembersStand attrs zero s at = Unit
MembersStand attrs (suc n) s at = (sid_end s at ≡ 0 → ⊥) × MembersStand attrs n s (member_end attrs s at)

-- an identity, a count and as many members
unfoldable pub crowd_bytes : Bool → List ℕ → ℕ → List ℕ
crowd_bytes attrs s at =
    identity_at s at ++ (packed (u32_at s (sid_end s at)) ++ members_bytes attrs (u32_at s (sid_end s at)) s (sid_end s at + 4))

unfoldable pub crowd_end : Bool → List ℕ → ℕ → ℕ
crowd_end attrs s at = members_end attrs (u32_at s (sid_end s at)) s (sid_end s at + 4)

pub record CrowdStands (attrs : Bool) (s : List ℕ) (at : ℕ) : Type 0 where
  pub identity : sid_end s at ≡ 0 → ⊥
  pub members : MembersStand attrs (u32_at s (sid_end s at)) s (sid_end s at + 4)

-- ---- the whole listing

abbrev pub double_at : List ℕ → ℕ → ℕ
double_at s at = u32_at s at + 4294967296 * u32_at s (at + 4)

-- the confinement, where the flags say so
abbrev pub rest_bytes : Bool → List ℕ → List ℕ
rest_bytes true s = crowd_bytes false s (crowd_end true s user_place)
rest_bytes false s = []

unfoldable pub record_bytes : List ℕ → List ℕ
record_bytes s =
    packed 1 ++ (packed (u32_at s 0) ++ (packed (double_at s 4) ++ (crowd_bytes true s user_place ++ rest_bytes (confined (u32_at s 0)) s)))

-- every identity that is packed stands where it is read
pub record Packable (s : List ℕ) : Type 0 where
  pub crowd : CrowdStands true s user_place
  pub rest : confined (u32_at s 0) ≡ true → CrowdStands false s (crowd_end true s user_place)
