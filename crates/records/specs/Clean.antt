-- What unpacking says of a token beside its bytes: that no identity read is S-1-3-4 or S-1-5-10, so that a token without flags keeps the
-- token rules. For the contracts of the private readers; of a step that is not clean nothing is said.
use Rattle.std.specs.Prelude.{ℕ, ◌≡◌, List, true, false, length}
use Rattle.base.specs.Bytes.{Read}
use Rattle.base.specs.Bytes.Read.{none, some}
use Rattle.sids.specs.Sid.{virtual}
use Rattle.records.specs.Token.{Group, Token}
use Rattle.records.specs.FlatListing.{listing_of}
use Rattle.records.specs.Crowd.{confined_place}
use Rattle.records.specs.TokenRules.{virtual_group, keeps}

-- what was read, if anything was, is such
abbrev pub Such : {A : Type 0} → (A → Type 0) → Read A → Type 0
Such P none = Unit
Such P (some a end) = P a

-- neither S-1-3-4 nor S-1-5-10, alone and among groups
abbrev pub Plain : List ℕ → Type 0
Plain w = virtual w ≡ false

abbrev pub PlainGroups : List Group → Type 0
PlainGroups gs = virtual_group gs ≡ false

-- the token keeps the token rules, and its listing ends where a confinement would stand
pub record Keeping (t : Token) : Type 0 where
  pub rules : keeps t ≡ true
  pub ends : confined_place t ≡ length (listing_of t)

-- something was read, and is such a token
abbrev pub ReadKeeping : Read Token → Type 0
ReadKeeping none = ⊥
ReadKeeping (some t end) = Keeping t
