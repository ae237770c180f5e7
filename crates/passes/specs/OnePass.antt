-- "Entries are taken in stored order, those with flag 0x08 skipped. Each bit is decided by the first matching entry that has it; an
-- undecided bit is not granted." The tally that takes one entry and gives the next stands in masks (TheTally).
use Rattle.std.specs.Prelude.{ℕ, List, [], ◌∷◌, Bool, true, false, cond, ◌&&◌, ◌||◌, eqb}
use Rattle.base.specs.Bits.{has, bit}
use Rattle.conditions.specs.Membership.{admits}
use Rattle.lists.specs.Acl.{Entry}
use Rattle.records.specs.Crowd.{Member}
use Rattle.masks.specs.KindsAndMasks.{entry_mask}
use Rattle.masks.specs.TheTally.{emptied, allowing, denying}
use Rattle.passes.specs.Matching.{matches}
use Rattle.passes.specs.declared.matching.Hits.{Hits}
use Rattle.masks.specs.declared.tally.Tally.{Tally}

-- flag 0x08, inherit only: the entry says nothing of the object itself
abbrev pub skipped : Entry → Bool
skipped e = has e.flags 0x08

-- types 0 and 9 allow, types 1 and 10 deny
abbrev pub allows : Entry → Bool
allows e = eqb e.kind 0 || eqb e.kind 9

-- "Membership means matching for allow in the pass being made" (request 103), in allow and deny entries alike
abbrev pub member : List Member → Hits → List ℕ → Bool
member ms h w = matches true ms h w

-- an entry speaks: its SID matches, and it has no condition, or a true one. One that does not speak says nothing
abbrev pub speaks : List Member → Hits → Entry → Bool
speaks ms h e = matches (allows e) ms h e.sid && admits (member ms h) e.condition

-- the tally after an entry
unfoldable pub taken : ℕ → List Member → Hits → Tally → Entry → Tally
taken kind ms h t e =
    let m = entry_mask kind e.mask in
    cond (skipped e) t
    (cond (speaks ms h e) (cond (allows e) (allowing t m) (denying t m)) t)

unfoldable pub run : ℕ → List Member → Hits → Tally → List Entry → Tally
run kind ms h t [] = t
run kind ms h t (e ∷ es) = run kind ms h (taken kind ms h t e) es

-- what a pass allows
abbrev pub passed : ℕ → List Member → Hits → List Entry → ℕ
passed kind ms h es = (run kind ms h emptied es).allowed.0

-- the same, bit by bit, without a tally: "Each bit is decided by the first matching entry that has it; an undecided bit is not granted"
unfoldable pub granted : ℕ → List Member → Hits → List Entry → ℕ → Bool
granted kind ms h [] i = false
granted kind ms h (e ∷ es) i =
    let r = granted kind ms h es i in
    cond (skipped e) r
    (cond (speaks ms h e) (cond (bit (entry_mask kind e.mask) i) (allows e) r) r)
