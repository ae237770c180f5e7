-- What the judge of a flat listing answers, and what it keeps on its walk. `judged_of` is the answer; the rest is for the contracts of
-- its parts.
use Rattle.std.specs.Prelude.{ℕ, List, Bool, cond, not, ◌||◌, length, replicate, Option, Some, None, Result, Ok, Err}
use Rattle.std.proofs.lemmas.List.Edits.{sets}
use Rattle.base.specs.Bytes.{Read, bind}
use Rattle.base.specs.Bytes.Read.{none, some}
use Rattle.sids.specs.Sid.{virtual}
use Rattle.records.specs.Token.{Confined, Token, confined, exempt}
use Rattle.records.specs.Crowd.{confined_place}
use Rattle.records.specs.TokenRules.{virtual_in, lists, all_restricted, keeps}
use Rattle.records.specs.TokenRecord.{read_record}
use Rattle.records.specs.FlatListing.{listing_of}
use Rattle.records.specs.Unpacking.{room_fits}
use Rattle.tokens.specs.declared.flat.Listed.{Listed}
use Rattle.tokens.specs.declared.judging.Walk.{Walk}
use Rattle.tokens.specs.declared.judging.Capabilities.{Capabilities}
use Rattle.tokens.specs.declared.refusal.Refusal.{Refusal}
use Rattle.tokens.specs.Answers.{number_of}

-- a status number of the page (0, 3 or 4), and a place
pub record Judged : Type 0 where
  pub status : ℕ
  pub confined_at : ℕ

-- 3 where the listing is misshapen, 4 where its token breaks a token rule, else 0 and where the confinement identity stands
unfoldable pub judged_of : Read Token → Judged
judged_of none = record { status = 3; confined_at = 0 }
judged_of (some t end) = cond (keeps t) (record { status = 0; confined_at = confined_place t }) (record { status = 4; confined_at = 0 })

-- what the code answers, as numbers of the page: no two answers are the same
abbrev pub judged_by : Result ℕ Refusal → Judged
judged_by (Ok n) = record { status = 0; confined_at = n }
judged_by (Err r) = record { status = number_of r; confined_at = 0 }

-- ---- what the walk keeps

-- of what is read
abbrev pub told : {A B : Type 0} → (A → B) → Read A → Read B
told f r = bind r (λ a end. some (f a) end)

-- the same as the code answers it
abbrev pub walked : Option Walk → Read Bool
walked None = none
walked (Some w) = some w.breaks w.next

-- of the capabilities: whether a virtual identity stands among them, and whether S-1-15-2-2 does
pub record Seen : Type 0 where
  pub breaks : Bool
  pub listed : Bool

abbrev pub seen_of : List (List ℕ) → Seen
seen_of ws = record { breaks = virtual_in ws; listed = lists all_restricted ws }

abbrev pub seen_by : Option Capabilities → Read Seen
seen_by None = none
seen_by (Some r) = some (record { breaks = r.breaks; listed = r.listed }) r.next

-- the token rules on a confinement
abbrev pub confinement_breaks : Confined → Bool
confinement_breaks c = virtual c.identity || virtual_in c.capabilities || not (lists all_restricted c.capabilities)

-- the token rules on what follows the groups: the confinement, or an exemption without one
abbrev pub rest_breaks : ℕ → Confined → Bool
rest_breaks flags c = cond (confined flags) (confinement_breaks c) (exempt flags)

-- ---- a record's listing in a room that is lent

-- a status number of the page (0, 3, 4 or 11), how long a listing is, and a place
pub record Extent : Type 0 where
  pub status : ℕ
  pub length : ℕ
  pub confined_at : ℕ

-- what the code answers, as numbers of the page: no two answers are the same
abbrev pub extent_by : Result Listed Refusal → Extent
extent_by (Ok r) = record { status = 0; length = r.length; confined_at = r.confined_at }
extent_by (Err r) = record { status = number_of r; length = 0; confined_at = 0 }

-- a refusal
abbrev pub refused_extent : ℕ → Extent
refused_extent n = record { status = n; length = 0; confined_at = 0 }

-- by what is read of the record: the judge's status and place, and the length of the listing
unfoldable pub extent_of : Read Token → Extent
extent_of none = refused_extent 3
extent_of (some t end) =
    let listed : Extent = record { status = 0; length = length (listing_of t); confined_at = confined_place t } in
    cond (keeps t) listed (refused_extent 4)

-- and what the room holds: all zeros, or the listing at the front, whether the token keeps the rules or not
unfoldable pub holding : Read Token → List ℕ → List ℕ
holding none room = replicate (length room) 0
holding (some t end) room = sets room 0 (listing_of t)

-- where the room may be too short nothing is read: 11, and all zeros
abbrev pub listed_in : ℕ → List ℕ → Extent
listed_in room s = cond (room_fits room (length s)) (extent_of (read_record s)) (refused_extent 11)

abbrev pub room_after : List ℕ → List ℕ → List ℕ
room_after s room = holding (cond (room_fits (length room) (length s)) (read_record s) none) room
