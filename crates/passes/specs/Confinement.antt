-- "Confinement (source 001), for a confined and not exempt token: the same DACL is walked with only the confinement identity and
-- capabilities, each for allow and deny; virtual identities follow that set; no owner's rights, no privileges. A null DACL gives the kind's
-- all bits".
use Rattle.std.specs.Prelude.{ℕ, List, Bool, cond, not, ◌&&◌}
use Rattle.records.specs.Token.{Token, confined, exempt}
use Rattle.records.specs.Crowd.{confined_of}
use Rattle.passes.specs.Matching.{hits_of}
use Rattle.passes.specs.NormalEvaluation.{Dacl, list_gives}

-- "a confined and not exempt token"
abbrev pub confines : ℕ → Bool
confines flags = confined flags && not (exempt flags)

-- no bit is taken away
abbrev pub everything : ℕ
everything = 0xFFFFFFFF

-- the bits that confinement leaves
unfoldable pub confinement_of : ℕ → Token → List ℕ → List ℕ → Dacl → ℕ
confinement_of kind t owner self d =
    cond (confines t.flags) (list_gives kind (confined_of t) (hits_of (confined_of t) owner self) d) everything
