-- A flat listing read in place, seat by seat: what the search through a token sees. Nothing here decides an answer; SeatsLaws shows that
-- the seats are the members of `crowd_at`.
use Rattle.std.specs.Prelude.{ℕ, ◌+◌, ◌≤◌, List, [], ◌∷◌, Bool, true, false, cond, not, ◌&&◌, length, ltb, eqb, Option, None, Some}
use Rattle.base.specs.Bytes.{u32_at, part}
use Rattle.base.specs.Bits.{has}
use Rattle.sids.specs.Sid.{sid_end}
use Rattle.records.specs.Crowd.{Member, width, members_at}
use Rattle.seats.specs.declared.seats.Seat.{Seat}

-- "for allow .. a group with attribute 0x4 and without 0x10; for deny .. a group with 0x4 or 0x10"
abbrev pub allow_word : ℕ → Bool
allow_word a = has a 0x4 && not (has a 0x10)

abbrev pub deny_word : ℕ → Bool
deny_word a = has a 0x14

-- no SID stands there
abbrev pub no_seat : Seat
no_seat = record { from = 0; to = 0; next = 0; allows = false; denies = false }

-- a seat as the code answers it
abbrev pub seat_found : Seat → Option Seat
seat_found x = cond (eqb x.to 0) None (Some x)

-- the place so many bytes on, or the end of the bytes
abbrev pub onward : List ℕ → ℕ → ℕ → ℕ
onward s e n = cond (ltb (length s) (e + n)) (length s) (e + n)

-- the seat lies inside n bytes
abbrev pub SeatLies : ℕ → Seat → Type 0
SeatLies n x = (x.from ≤ x.to) × ((x.to ≤ n) × (x.next ≤ n))

-- the first identity: for both, with a count after it
unfoldable pub first_seat : List ℕ → ℕ → Seat
first_seat s at =
    let e = sid_end s at in
    let r : Seat = record { from = at; to = e; next = onward s e 4; allows = true; denies = true } in
    cond (eqb e 0) no_seat r

-- a member: with an attribute word after it, or for both
unfoldable pub seat_at : Bool → List ℕ → ℕ → Seat
seat_at attrs s at =
    let e = sid_end s at in
    let r : Seat =
    record {
      from = at;
      to = e;
      next = onward s e (width attrs);
      allows = cond attrs (allow_word (u32_at s e)) true;
      denies = cond attrs (deny_word (u32_at s e)) true;
    } in
    cond (eqb e 0) no_seat r

-- the member in a seat
abbrev pub seated : List ℕ → Seat → Member
seated s x = record { sid = part s x.from x.to; allows = x.allows; denies = x.denies }

-- the member in a seat and the n after it
abbrev pub from_seat : Bool → List ℕ → ℕ → Seat → List Member
from_seat attrs s n x = let r = seated s x ∷ members_at attrs s n x.next in cond (eqb x.to 0) [] r
