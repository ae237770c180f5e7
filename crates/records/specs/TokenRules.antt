-- "Token rules (4): exempt needs confined; S-1-3-4 and S-1-5-10 stand nowhere; a confined token lists S-1-15-2-2 as a capability, exempt or not."
use Rattle.std.specs.Prelude.{ℕ, List, [], ◌∷◌, Bool, true, false, cond, not, ◌&&◌, ◌||◌}
use Rattle.base.specs.Bytes.{same}
use Rattle.sids.specs.Sid.{virtual}
use Rattle.records.specs.Token.{Group, Token, confined, exempt}

-- S-1-15-2-2
abbrev pub all_restricted : List ℕ
all_restricted = 1 ∷ 2 ∷ 0 ∷ 0 ∷ 0 ∷ 0 ∷ 0 ∷ 15 ∷ 2 ∷ 0 ∷ 0 ∷ 0 ∷ 2 ∷ 0 ∷ 0 ∷ 0 ∷ []

unfoldable pub virtual_group : List Group → Bool
virtual_group [] = false
virtual_group (g ∷ gs) = let r = virtual_group gs in cond (virtual g.sid) true r

unfoldable pub virtual_in : List (List ℕ) → Bool
virtual_in [] = false
virtual_in (w ∷ ws) = let r = virtual_in ws in cond (virtual w) true r

unfoldable pub lists : List ℕ → List (List ℕ) → Bool
lists w [] = false
lists w (x ∷ xs) = let r = lists w xs in cond (same x w) true r

-- "exempt needs confined"
unfoldable pub exempt_alone : Token → Bool
exempt_alone t = exempt t.flags && not (confined t.flags)

-- "S-1-3-4 and S-1-5-10 stand nowhere": user, groups whatever their attributes, confinement identity, capabilities
unfoldable pub virtual_stands : Token → Bool
virtual_stands t =
    virtual t.user
    || virtual_group t.groups
    || virtual t.confinement.identity
    || virtual_in t.confinement.capabilities

-- "a confined token lists S-1-15-2-2 as a capability, exempt or not"
unfoldable pub unrestricted : Token → Bool
unrestricted t = confined t.flags && not (lists all_restricted t.confinement.capabilities)

unfoldable pub keeps : Token → Bool
keeps t = not (exempt_alone t) && not (virtual_stands t) && not (unrestricted t)
