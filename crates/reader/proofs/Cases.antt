-- The definitions tried on small inputs, by computation: a list of two entries, whose heading counts none, one or both; and one whose first
-- entry has spare bytes that look like an entry.
-- Assumes nothing.
use Prim.Native.Nat.{ℕ}
use mathlib.Core.Path.{◌≡◌, refl}
use mathlib.Core.List.{List, [], ◌∷◌}
use Rattle.base.specs.Bytes.{u16_at, u32_at}
use Rattle.sids.specs.Sid.{sid_end}
use Rattle.lists.specs.Acl.{head_end, callback, named, judges, holds, entry_end, ace_at, entries_at, entries_of}
use Rattle.lists.specs.Descriptor.{part_in}
use Rattle.reader.specs.Reading.{Step}
use Rattle.reader.specs.Reading.Step.{Shown, End}
use Rattle.reader.specs.Reading.{end_from, held, step_at, next_place, read_all}

-- allow 1 to S-1-5 at 8, deny 2 to S-1-7 at 24; the count is n
list : ℕ → List ℕ
list n =
    2 ∷ 0 ∷ 40 ∷ 0 ∷ n ∷ 0 ∷ 0 ∷ 0
    ∷ 0 ∷ 0 ∷ 16 ∷ 0 ∷ 1 ∷ 0 ∷ 0 ∷ 0 ∷ 1 ∷ 0 ∷ 0 ∷ 0 ∷ 0 ∷ 0 ∷ 0 ∷ 5
    ∷ 1 ∷ 0 ∷ 16 ∷ 0 ∷ 2 ∷ 0 ∷ 0 ∷ 0 ∷ 1 ∷ 0 ∷ 0 ∷ 0 ∷ 0 ∷ 0 ∷ 0 ∷ 7 ∷ []

allow : Step
allow = Shown (record { kind = 0; flags = 0; mask = record { 0 = 1 }; from = 16; to = 24; next = 24 })

deny : Step
deny = Shown (record { kind = 1; flags = 0; mask = record { 0 = 2 }; from = 32; to = 40; next = 40 })

-- both are counted: each is shown at its place, and then the end, which is not left
both : (step_at (list 2) 8 ≡ allow) × (next_place (list 2) 8 ≡ 24) × (step_at (list 2) 24 ≡ deny) × (next_place (list 2) 24 ≡ 40)
    × (step_at (list 2) 40 ≡ End) × (next_place (list 2) 40 ≡ 40)
unfolding list allow deny step_at ace_at entry_end head_end callback named judges holds sid_end u16_at u32_at
both = (refl, refl, refl, refl, refl, refl)

-- "Bytes after the last are accepted", and are no entry of the list, whatever they look like: they are not held
behind : (step_at (held (list 1)) 8 ≡ allow) × (step_at (held (list 1)) 24 ≡ End) × (step_at (held (list 0)) 8 ≡ End)
unfolding list allow held end_from step_at ace_at entry_end head_end callback named judges holds sid_end u16_at u32_at part_in
behind = (refl, refl, refl)

-- readings to the end are the definition's entries
whole : (read_all (held (list 2)) 2 8 ≡ entries_of (list 2)) × (read_all (held (list 1)) 7 8 ≡ entries_of (list 1))
    × (read_all (held (list 0)) 7 8 ≡ [])
unfolding list held end_from step_at read_all ace_at entries_at entries_of entry_end head_end callback named judges holds sid_end u16_at u32_at part_in
whole = (refl, refl, refl)

-- the allow entry has 16 spare bytes, which look like a deny entry; the next one begins where its size says
long : List ℕ
long =
    2 ∷ 0 ∷ 56 ∷ 0 ∷ 2 ∷ 0 ∷ 0 ∷ 0
    ∷ 0 ∷ 0 ∷ 32 ∷ 0 ∷ 1 ∷ 0 ∷ 0 ∷ 0 ∷ 1 ∷ 0 ∷ 0 ∷ 0 ∷ 0 ∷ 0 ∷ 0 ∷ 5
    ∷ 1 ∷ 0 ∷ 16 ∷ 0 ∷ 255 ∷ 0 ∷ 0 ∷ 0 ∷ 1 ∷ 0 ∷ 0 ∷ 0 ∷ 0 ∷ 0 ∷ 0 ∷ 5
    ∷ 1 ∷ 0 ∷ 16 ∷ 0 ∷ 2 ∷ 0 ∷ 0 ∷ 0 ∷ 1 ∷ 0 ∷ 0 ∷ 0 ∷ 0 ∷ 0 ∷ 0 ∷ 7 ∷ []

spare : (held long ≡ long) × (next_place long 8 ≡ 40) × (read_all (held long) 7 8 ≡ read_all (held (list 2)) 7 8)
unfolding list long held end_from step_at read_all ace_at entry_end head_end callback named judges holds sid_end u16_at u32_at part_in
spare = (refl, refl, refl)
