-- Spare bytes, in request 101's words: "spare bytes after the SID, which MS-DTYP's size field permits"; "spare bytes never alter an answer".
use Rattle.std.specs.Prelude.{ℕ, zero, suc, ◌+◌, ◌-◌, ◌%◌, ◌<◌, ◌≤◌, ◌≡◌, List, [], ◌∷◌, cond, length}
use Rattle.base.specs.Bytes.{byte_at, u16_at, u32_at, part}
use Rattle.sids.specs.Sid.{sid_end}
use Rattle.lists.specs.Acl.{callback, Entry, ace_at}
use Rattle.lists.specs.declared.acl.Ace.{Ace}

-- ---- "Accept a size of 8 plus the SID's length or more, still a multiple of 4."

-- the size of the entry at a place is that, and lies inside the list
pub record LongEnough (l : List ℕ) (at : ℕ) : Type 0 where
  pub sid : sid_end l (at + 8) ≡ 0 → ⊥
  pub size : 8 + (sid_end l (at + 8) - (at + 8)) ≤ u16_at l (at + 2)
  pub four : u16_at l (at + 2) % 4 ≡ 0
  pub inside : at + u16_at l (at + 2) ≤ length l

-- ---- what entries say, spare bytes or not

-- n entries from a place: each says its type, flags, mask, the SID behind the mask and, if it is a callback entry, all bytes behind that;
-- the next begins where its size says
unfoldable pub said_at : List ℕ → ℕ → ℕ → List Entry
said_at l zero at = []
said_at l (suc n) at =
    record {
      kind = byte_at l at;
      flags = byte_at l (at + 1);
      mask = u32_at l (at + 4);
      sid = part l (at + 8) (sid_end l (at + 8));
      condition = cond (callback (byte_at l at)) (part l (sid_end l (at + 8)) (at + u16_at l (at + 2))) [];
    }
    ∷ said_at l n (at + u16_at l (at + 2))

-- ---- lists that are the same but for spare bytes

-- two lists hold the same bytes from a place up to another
abbrev pub Agree : List ℕ → List ℕ → ℕ → ℕ → Type 0
Agree l m a e = (i : ℕ) → a ≤ i → i < e → byte_at m i ≡ byte_at l i

-- up to where an entry is read: the end of its SID, or of its condition
abbrev pub read_to : Ace → ℕ
read_to a = cond (callback a.kind) a.next a.to

-- they hold the same bytes in n entries from a place, each from its type up to where it is read; behind it they are free
abbrev pub AgreeAll : List ℕ → List ℕ → ℕ → ℕ → Type 0
AgreeAll l m zero at = Unit
AgreeAll l m (suc n) at = Agree l m at (read_to (ace_at l at)) × AgreeAll l m n (ace_at l at).next

-- two lists, as long, whose entries are the same but for spare bytes; the bytes after the last are free too. Of the heading only the count
-- is asked: revision and size are judged by `acl_end`
pub record SameButSpare (l m : List ℕ) : Type 0 where
  pub long : length l ≡ length m
  pub count : u16_at l 4 ≡ u16_at m 4
  pub entries : AgreeAll l m (u16_at l 4) 8
