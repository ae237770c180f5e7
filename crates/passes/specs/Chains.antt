-- How the code goes about it: the seats of a crowd are numbered from 1 on, and those whose SIDs have one key are chained, the last one
-- first. A search goes through one chain, and from where that goes on nearby through the row of all seats below. Nothing here decides an
-- answer; ChainedLaws shows that a SID is found exactly where it is among the crowd. What the key is does not matter to that.
use Rattle.std.specs.Prelude.{ℕ, zero, suc, ◌+◌, ◌-◌, ◌*◌, ◌/◌, ◌%◌, List, [], ◌∷◌, ◌++◌, Bool, false, cond, not, ◌&&◌, ◌||◌, length, get_or, set, ltb, eqb}
use Rattle.base.specs.Bytes.{u32_at, part, same}
use Rattle.records.specs.Crowd.{Member}
use Rattle.seats.specs.Key.{key_of, last_of}
use Rattle.seats.specs.Seats.{first_seat, seat_at}
use Rattle.seats.specs.declared.seats.Seat.{Seat}

-- ---- a cell: where a seat's SID stands, the number of the next seat of its chain, how it matches, and the SID's last word

abbrev pub cell_of : ℕ → ℕ → ℕ → Bool → Bool → ℕ → ℕ
cell_of from to next allows denies word =
    from % 32768 + 32768 * ((to - from) / 4 % 32) + 1048576 * (next % 512) + cond allows 536870912 0 + cond denies 1073741824 0
    + 4294967296 * word

abbrev pub from_in : ℕ → ℕ
from_in x = x % 32768

abbrev pub to_in : ℕ → ℕ
to_in x = x % 32768 + 4 * (x / 32768 % 32)

abbrev pub next_in : ℕ → ℕ
next_in x = x / 1048576 % 512

abbrev pub allows_in : ℕ → Bool
allows_in x = eqb (x / 536870912 % 2) 1

abbrev pub denies_in : ℕ → Bool
denies_in x = eqb (x / 1073741824 % 2) 1

abbrev pub last_in : ℕ → ℕ
last_in x = x / 4294967296

abbrev pub member_in : List ℕ → ℕ → Member
member_in s x = record { sid = part s (from_in x) (to_in x); allows = allows_in x; denies = denies_in x }

-- an identity stands in a cell: the listing has its bytes, and its last word is the cell's
abbrev pub holds_one : List ℕ → ℕ → Bool
holds_one s x = cond (ltb (length s) (to_in x)) false (eqb (last_in x) (last_of (part s (from_in x) (to_in x))))

-- the identity in a cell is the SID, and matches
abbrev pub sits_in : Bool → List ℕ → ℕ → List ℕ → Bool
sits_in allow s x w = holds_one s x && (same (part s (from_in x) (to_in x)) w && cond allow (allows_in x) (denies_in x))

-- ---- whom the tables show

-- with the member of a cell before them, where one stands in it
abbrev pub joined : List ℕ → ℕ → List Member → List Member
joined s x ms = cond (holds_one s x) (member_in s x ∷ ms) ms

-- from the seat of a number down, every seat
unfoldable pub row : List ℕ → List ℕ → ℕ → List Member
row seats s zero = []
row seats s (suc i) = joined s (get_or seats (suc i) 0) (row seats s i)

-- a chain goes on to a seat that is near: fewer than 16 numbers below, or not below at all
abbrev pub near : ℕ → ℕ → Bool
near n after = not (eqb after 0) && ltb n (after + 16)

-- from the seat of a number on; numbers fall along a chain
unfoldable pub chain : List ℕ → List ℕ → ℕ → ℕ → List Member
chain seats s zero n = []
chain seats s (suc i) n =
    let x = get_or seats (suc i) 0 in
    let r = cond (near n (next_in x)) (row seats s i) (chain seats s i (next_in x)) in
    let q = chain seats s i n in
    cond (eqb n (suc i)) (joined s x r) q

-- the first seat of a SID's chain; 0 where there is none
abbrev pub head_of : List ℕ → List ℕ → List ℕ → ℕ
head_of heads seats w = let h = get_or heads (key_of w) 0 in cond (ltb h (length seats)) h 0

-- the chain of a key
abbrev pub shown_under : List ℕ → List ℕ → List ℕ → ℕ → List Member
shown_under heads seats s k = chain seats s (length seats - 1) (get_or heads k 0)

-- those of the members that have the key
unfoldable pub keyed : ℕ → List Member → List Member
keyed k [] = []
keyed k (m ∷ ms) = let r = keyed k ms in cond (eqb (key_of m.sid) k) (m ∷ r) r

unfoldable pub shown_below : List ℕ → List ℕ → List ℕ → ℕ → List Member
shown_below heads seats s zero = []
shown_below heads seats s (suc k) = keyed k (shown_under heads seats s k) ++ shown_below heads seats s k

-- all: under each key those that have it
abbrev pub shown : List ℕ → List ℕ → List ℕ → List Member
shown heads seats s = shown_below heads seats s 512

-- ---- how the tables are made

pub record Tables : Type 0 where
  pub heads : List ℕ
  pub seats : List ℕ

abbrev pub tables : List ℕ → List ℕ → Tables
tables heads seats = record { heads = heads; seats = seats }

-- the seat with a number goes ahead of its chain
unfoldable pub linked : List ℕ → Tables → ℕ → Seat → Tables
linked s t i x =
    let w = part s x.from x.to in
    let k = key_of w in
    let c = cell_of x.from x.to (get_or t.heads k 0) x.allows x.denies (last_of w) in
    tables (set t.heads k (i % 65536)) (set t.seats i c)

-- no SID stands there, or there are no more numbers
abbrev pub stops : Tables → ℕ → Seat → Bool
stops t i x = eqb x.to 0 || not (ltb i (length t.seats))

-- the seat and the n after it, numbered from i on
unfoldable pub chained : Bool → List ℕ → Tables → ℕ → ℕ → Seat → Tables
chained attrs s t i zero x = cond (stops t i x) t (linked s t i x)
chained attrs s t i (suc n) x =
    let r = chained attrs s (linked s t i x) (i + 1) n (seat_at attrs s x.next) in
    cond (stops t i x) t r

-- the crowd at a place of a listing
unfoldable pub chains_of : Bool → List ℕ → ℕ → Tables → Tables
chains_of attrs s at t = let x = first_seat s at in chained attrs s t 1 (u32_at s x.to) x
