-- What a walk comes to is what the definitions of the page say: from a walk over a list's entries, `normal_by` is `normal_of`, and `listed_by`
-- is `list_gives`. For a null DACL the walk is one over no entries.
-- Assumes nothing.
use Prim.Native.Nat.{ℕ}
use mathlib.Core.List.{List, []}
use mathlib.Core.Path.{◌≡◌, refl, ap}
use Rattle.base.specs.Bytes.{u16_at}
use Rattle.lists.specs.Acl.{entries_at, entries_of}
use Rattle.records.specs.Crowd.{Member}
use Rattle.passes.specs.NormalEvaluation.{Dacl, list_gives, normal_of}
use Rattle.passes.specs.OneWalk.{walked_of, listed_by, normal_by}
use Rattle.passes.specs.declared.matching.Hits.{Hits}
use Rattle.passes.specs.declared.walk.Walked.{Walked}

module _ (kind : ℕ) (ms : List Member) (h : Hits) (d : Dacl) (w : Walked) (walks : w ≡ walked_of kind ms h d.entries) where
  pub listed_is : listed_by kind d.present w ≡ list_gives kind ms h d
  listed_is = ap (λ (x : Walked). listed_by kind d.present x) walks

  pub normal_is : (p : ℕ) → normal_by kind d.present w h p ≡ normal_of kind ms h p d
  unfolding normal_by normal_of
  normal_is p = ap (λ (x : Walked). normal_by kind d.present x h p) walks

-- an empty part, as a null DACL hands it out, has no entries
pub entries_none : entries_of [] ≡ []
unfolding entries_of entries_at u16_at
entries_none = refl
