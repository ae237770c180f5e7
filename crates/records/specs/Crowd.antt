-- Whom a token shows, and how a flat listing shows the same: an identity, a count, and as many members, with an attribute word each or without.
use Rattle.std.specs.Prelude.{ℕ, zero, suc, ◌+◌, List, [], ◌∷◌, map, Bool, true, cond, not, ◌&&◌, length, eqb}
use Rattle.base.specs.Bytes.{u32_at, part}
use Rattle.base.specs.Bits.{has}
use Rattle.sids.specs.Sid.{sid_end}
use Rattle.records.specs.Token.{Group, Token}
use Rattle.records.specs.Fields.{each, group_bytes}
use Rattle.records.specs.FlatListing.{flat_writer}

-- an identity that a pass may match, for allow and for deny
pub record Member : Type 0 where
  pub sid : List ℕ
  pub allows : Bool
  pub denies : Bool

-- the user, a confinement identity, a capability: for both
abbrev pub plain : List ℕ → Member
plain w = record { sid = w; allows = true; denies = true }

-- "for allow .. a group with attribute 0x4 and without 0x10; for deny .. a group with 0x4 or 0x10"
abbrev pub shown : List ℕ → ℕ → Member
shown w a = record { sid = w; allows = has a 0x4 && not (has a 0x10); denies = has a 0x14 }

-- the normal identities: the user and the groups by their attributes
abbrev pub crowd_of : Token → List Member
crowd_of t = plain t.user ∷ map (λ (g : Group). shown g.sid g.attributes) t.groups

-- "only the confinement identity and capabilities, each for allow and deny"
abbrev pub confined_of : Token → List Member
confined_of t = plain t.confinement.identity ∷ map plain t.confinement.capabilities

-- ---- the same, read from the bytes of a flat listing

abbrev pub member_at : Bool → List ℕ → ℕ → ℕ → Member
member_at attrs s at e = cond attrs (shown (part s at e) (u32_at s e)) (plain (part s at e))

abbrev pub width : Bool → ℕ
width attrs = cond attrs 4 0

-- n members from a place; they stop where no SID stands
unfoldable pub members_at : Bool → List ℕ → ℕ → ℕ → List Member
members_at attrs s zero at = []
members_at attrs s (suc n) at =
    let e = sid_end s at in
    let r = member_at attrs s at e ∷ members_at attrs s n (e + width attrs) in
    cond (eqb e 0) [] r

-- an identity, a count and the members
unfoldable pub crowd_at : Bool → List ℕ → ℕ → List Member
crowd_at attrs s at =
    let e = sid_end s at in
    let r = plain (part s at e) ∷ members_at attrs s (u32_at s e) (e + 4) in
    cond (eqb e 0) [] r

-- where the user stands in a listing, and where the confinement identity stands in a token's
abbrev pub user_place : ℕ
user_place = 12

abbrev pub confined_place : Token → ℕ
confined_place t = 12 + length t.user + 4 + length (each (group_bytes flat_writer) t.groups)
