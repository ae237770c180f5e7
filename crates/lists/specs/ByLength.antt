-- How the code goes about it: a list whose entries were judged already is walked once more, by the sizes of the entries and the counts of
-- their SIDs alone. Nothing here decides an answer; ByLengthLaws shows that the entries of a plain list are found so.
use Rattle.std.specs.Prelude.{ℕ, zero, suc, ◌+◌, ◌*◌, List, [], ◌∷◌, cond, length, ltb, eqb}
use Rattle.base.specs.Bytes.{byte_at, u16_at, u32_at}
use Rattle.lists.specs.Acl.{Entry, no_ace, entry_of}
use Rattle.lists.specs.declared.acl.Ace.{Ace}

-- the entry at a place, its type and the shape of its SID not judged; none where it does not fit, or its SID ends behind it
unfoldable pub ace_by_length : List ℕ → ℕ → Ace
ace_by_length l at =
    let next = at + u16_at l (at + 2) in
    let to = at + 16 + 4 * byte_at l (at + 9) in
    let a : Ace =
    record {
      kind = byte_at l at;
      flags = byte_at l (at + 1);
      mask = record { 0 = u32_at l (at + 4) };
      from = at + 8;
      to = to;
      next = next;
    } in
    cond (ltb (length l) (at + 16)) no_ace
    (cond (ltb (length l) next) no_ace
    (cond (ltb next to) no_ace a))

-- the n entries from a place; they stop where none is found
unfoldable pub entries_by_length_at : List ℕ → ℕ → ℕ → List Entry
entries_by_length_at l zero at = []
entries_by_length_at l (suc n) at =
    let a = ace_by_length l at in
    let r = entry_of l a ∷ entries_by_length_at l n a.next in
    cond (eqb a.next 0) [] r

unfoldable pub entries_by_length : List ℕ → List Entry
entries_by_length l = entries_by_length_at l (u16_at l 4) 8
