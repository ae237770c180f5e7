-- "The entry reader keeps the list it was opened on and its place in that list."
-- A list has as many entries as its heading counts, back to back from place 8; bytes after the last are accepted, and are none of them.
-- So opening finds the place after the last entry, once, and the reader holds the list up to there: at every place that it comes to stands
-- an entry of the list, or the end. "What the entry reader promises changes" (request 101): the next entry begins where the size says.
use Rattle.std.specs.Prelude.{ℕ, zero, suc, List, [], ◌∷◌, cond, eqb, Option, None, Some}
use Rattle.base.specs.Bytes.{u16_at}
use Rattle.lists.specs.Acl.{Entry, ace_at, entry_of}
use Rattle.lists.specs.Descriptor.{part_in}
use Rattle.lists.specs.declared.acl.Ace.{Ace}

-- what stands at a place of a list: one of its entries with a SID, or the end
pub data Step : Type 0 where
  Shown : Ace → Step
  End : Step

-- the place after the last of n entries back to back from place p; an entry that is not well shaped, or of another type than 0, 1, 9
-- and 10, is not passed
unfoldable pub end_from : List ℕ → ℕ → ℕ → ℕ
end_from l zero p = p
end_from l (suc n) p =
    let a = ace_at l p in
    let r = end_from l n a.next in
    cond (eqb a.next 0) p r

-- what a reader holds of the list that it was opened on: its heading and its entries
unfoldable pub held : List ℕ → List ℕ
held l = part_in l 0 (end_from l (u16_at l 4) 8)

-- what stands at a place of a held list: the entry that begins there, or the end
unfoldable pub step_at : List ℕ → ℕ → Step
step_at l at = let a = ace_at l at in cond (eqb a.next 0) End (Shown a)

-- the same as the code answers it
abbrev pub shown : Step → Option Ace
shown (Shown a) = Some a
shown End = None

-- the place after what stands at a place; the end is not left
abbrev pub place_after : ℕ → Step → ℕ
place_after at (Shown a) = a.next
place_after at End = at

abbrev pub next_place : List ℕ → ℕ → ℕ
next_place l at = place_after at (step_at l at)

-- an entry goes in front of the reading that follows it; at the end nothing follows
abbrev pub read_on : List ℕ → Step → List Entry → List Entry
read_on l (Shown a) r = entry_of l a ∷ r
read_on l End r = []

-- what n steps of the reader give, from a place
unfoldable pub read_all : List ℕ → ℕ → ℕ → List Entry
read_all l zero at = []
read_all l (suc n) at = let r = read_all l n (next_place l at) in read_on l (step_at l at) r
