-- "A SID matches for allow if .. ; for deny .. . S-1-3-4 matches as the owner does, S-1-5-10 as the self identity does, each for allow and
-- deny apart". Whom the token shows, with `allows` and `denies` of each, is a list of members (tokens: Crowd).
use Rattle.std.specs.Prelude.{ℕ, List, [], ◌∷◌, Bool, true, false, cond, ◌&&◌, length, eqb}
use Rattle.base.specs.Bytes.{same}
use Rattle.sids.specs.Sid.{owner_rights, principal_self, virtual}
use Rattle.records.specs.Crowd.{Member}
use Rattle.passes.specs.declared.matching.Hit.{Hit}
use Rattle.passes.specs.declared.matching.Hits.{Hits}

-- one of the members has the SID and matches. "A group listed twice matches if either listing does."
unfoldable pub among : Bool → List Member → List ℕ → Bool
among allow [] w = false
among allow (m ∷ ms) w = let r = among allow ms w in cond (same m.sid w && cond allow m.allows m.denies) true r

-- "an empty self matches nothing, nor does an owner or self that is one of these two"
unfoldable pub stands : Bool → List Member → List ℕ → Bool
stands allow ms w = cond (eqb (length w) 0) false (cond (virtual w) false (among allow ms w))

abbrev pub hit_by : Bool → Bool → Hit
hit_by allow deny = record { allow = allow; deny = deny }

abbrev pub hits_by : Hit → Hit → Hits
hits_by owner self = record { owner = owner; me = self }

-- nobody stands in, for allow and for deny
abbrev pub nobody : Hit
nobody = hit_by false false

-- how an identity stands in for a virtual one, for allow and for deny
abbrev pub hit_of : List Member → List ℕ → Hit
hit_of ms w = hit_by (stands true ms w) (stands false ms w)

unfoldable pub hits_of : List Member → List ℕ → List ℕ → Hits
hits_of ms owner self = hits_by (hit_of ms owner) (hit_of ms self)

abbrev pub side : Bool → Hit → Bool
side allow h = cond allow h.allow h.deny

-- a SID matches
unfoldable pub matches : Bool → List Member → Hits → List ℕ → Bool
matches allow ms h w = cond (same w owner_rights) (side allow h.owner)
    (cond (same w principal_self) (side allow h.me) (among allow ms w))
