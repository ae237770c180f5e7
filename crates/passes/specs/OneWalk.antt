-- One walk over a list serves every evaluation: what the pass allows, and whether some entry that counts names S-1-3-4.
use Rattle.std.specs.Prelude.{ℕ, List, Bool, false, cond, ◌||◌}
use Rattle.base.specs.Bits.{or}
use Rattle.base.specs.Bytes.{same}
use Rattle.sids.specs.Sid.{owner_rights}
use Rattle.lists.specs.Acl.{Entry}
use Rattle.records.specs.Crowd.{Member}
use Rattle.masks.specs.KindsAndMasks.{all_bits}
use Rattle.passes.specs.Matching.{side}
use Rattle.masks.specs.TheTally.{emptied}
use Rattle.passes.specs.OnePass.{run}
use Rattle.passes.specs.NormalEvaluation.{names_owner, owner_gives, privileges_give}
use Rattle.passes.specs.declared.matching.Hits.{Hits}
use Rattle.masks.specs.declared.tally.Tally.{Tally}
use Rattle.passes.specs.declared.walk.Walked.{Walked}

-- how a virtual identity matches: S-1-3-4 as the owner does, the other as the self identity does
abbrev pub virtual_matches : Bool → Hits → List ℕ → Bool
virtual_matches allow h w = cond (same w owner_rights) (side allow h.owner) (side allow h.me)

abbrev pub walked_by : Tally → Bool → Walked
walked_by t named = record { allowed = t.allowed; named = named }

-- the walk from a tally on, where an entry that counts has named S-1-3-4 before, or none has
abbrev pub walked_from : ℕ → List Member → Hits → Tally → Bool → List Entry → Walked
walked_from kind ms h t named es = walked_by (run kind ms h t es) (named || names_owner es)

abbrev pub walked_of : ℕ → List Member → Hits → List Entry → Walked
walked_of kind ms h es = walked_from kind ms h emptied false es

-- what the list alone gives, from a walk over it: a null DACL gives the kind's all bits
abbrev pub listed_by : ℕ → Bool → Walked → ℕ
listed_by kind present w = cond present w.allowed.0 (all_bits kind)

-- normal evaluation, from a walk over the list (over no entries for a null DACL)
unfoldable pub normal_by : ℕ → Bool → Walked → Hits → ℕ → ℕ
normal_by kind present w h p = or (listed_by kind present w) (or (owner_gives h w.named) (privileges_give p))
