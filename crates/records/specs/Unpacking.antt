-- What unpacking leaves in a buffer: a reading of bytes, written as it goes. For the contracts of the private readers.
use Rattle.std.specs.Prelude.{ℕ, zero, suc, ◌+◌, ◌*◌, ◌≤◌, ◌≡◌, List, [], ◌++◌, ◌⊎◌, Bool, true, false, ◌||◌, length, replicate, leb, Option, None, Some, IfSome}
use Rattle.std.proofs.lemmas.List.Edits.{sets}
use Rattle.base.specs.Bytes.{Read, bind, only, little}
use Rattle.base.specs.Bytes.Read.{none, some}
use Rattle.base.specs.Sevens.{number}
use Rattle.records.specs.Token.{Token, confined}
use Rattle.records.specs.TokenRecord.{packed_identity}
use Rattle.records.specs.FlatListing.{listing_of}
use Rattle.records.specs.declared.unpacking.Step.{Step}
use Rattle.records.specs.declared.unpacking.Filled.{Filled}

-- a reading as the bytes that are written of it
abbrev pub written : {A : Type 0} → (A → List ℕ) → Read A → Read (List ℕ)
written f r = bind r (λ a end. some (f a) end)

-- one reading after the other: the bytes of both
abbrev pub then : Read (List ℕ) → (ℕ → Read (List ℕ)) → Read (List ℕ)
then r k = bind r (λ w a. bind (k a) (λ v end. some (w ++ v) end))

-- n readings of one kind, one after the other
unfoldable pub copied : (List ℕ → ℕ → Read (List ℕ)) → ℕ → List ℕ → ℕ → Read (List ℕ)
copied f zero s at = some [] at
copied f (suc n) s at = then (f s at) (λ a. copied f n s a)

-- the buffer, the place after what was written and the place after what was read; or a refusal, which says nothing of the buffer
pub data Outcome : Type 0 where
  refused : Outcome
  done : List ℕ → ℕ → ℕ → Outcome

-- what a reading comes to, written from place o
unfoldable pub outcome : Read (List ℕ) → List ℕ → ℕ → Outcome
outcome none out o = refused
outcome (some w end) out o = done (sets out o w) (o + length w) end

-- the same as the code answers it, with the buffer that it leaves
abbrev pub left : Option Step → List ℕ → Outcome
left None out = refused
left (Some r) out = done out r.to r.next

-- ---- the parts of a packed record, as bytes of a flat listing

-- a number of at most so much
abbrev pub limited : ℕ → List ℕ → ℕ → Read ℕ
limited most s at = bind (number 32 s at) (λ n a. only (leb n most) (some n a))

abbrev pub word_at : List ℕ → ℕ → Read (List ℕ)
word_at s at = written (little 4) (number 32 s at)

-- a count and what follows it
abbrev pub counted : ℕ → List ℕ → ℕ → (ℕ → ℕ → Read (List ℕ)) → Read (List ℕ)
counted most s at k = bind (limited most s at) (λ n a. then (some (little 4 n) a) (k n))

-- a member: an identity, with an attribute word or without
abbrev pub member_copied : Bool → List ℕ → ℕ → Read (List ℕ)
member_copied true s at = then (packed_identity s at) (word_at s)
member_copied false s at = packed_identity s at

-- the most bytes that n members take
abbrev pub members_room : Bool → ℕ → ℕ
members_room true n = 72 * n
members_room false n = 68 * n

-- ---- the room for it

-- from place o of a buffer there is room for what can still be written: for four bytes of each byte of the record that is not read yet,
-- or for the most that the counts allow
pub record Roomy (room o size at most : ℕ) : Type 0 where
  pub fits : (o + 4 * size ≤ room + 4 * at) ⊎ (o + most ≤ room)

-- where a step read anything, it wrote at most so many bytes, and at most four for each byte that it read
pub record Within (r : Option Step) (o at most : ℕ) : Type 0 where
  pub few : IfSome r (λ w. w.to ≤ o + most)
  pub fourfold : IfSome r (λ w. w.to + 4 * at ≤ o + 4 * w.next)

-- whether a buffer is long enough for the listing of a record, by their lengths
abbrev pub room_fits : ℕ → ℕ → Bool
room_fits room size = leb 22940 room || leb (4 * size) room

-- ---- members, and what follows them

-- a capability count and the capabilities
abbrev pub capabilities_copied : List ℕ → ℕ → Read (List ℕ)
capabilities_copied s at = counted 64 s at (λ n. copied (member_copied false) n s)

-- the confinement identity and the capabilities
unfoldable pub confinement_copied : List ℕ → ℕ → Read (List ℕ)
confinement_copied s at = then (packed_identity s at) (capabilities_copied s)

-- what follows the groups: nothing, or the confinement
abbrev pub rest_copied : Bool → List ℕ → ℕ → Read (List ℕ)
rest_copied true s at = confinement_copied s at
rest_copied false s at = some [] at

-- a group count, the groups and what follows
abbrev pub groups_copied : ℕ → List ℕ → ℕ → Read (List ℕ)
groups_copied flags s at = counted 256 s at (λ n a. then (copied (member_copied true) n s a) (rest_copied (confined flags) s))

-- user, groups, and where confined the confinement
unfoldable pub people_copied : ℕ → List ℕ → ℕ → Read (List ℕ)
people_copied flags s at = then (packed_identity s at) (groups_copied flags s)

-- the length of the listing that a buffer holds, 0 where there is none
abbrev pub filled : Option Filled → ℕ
filled None = 0
filled (Some r) = r.length

-- the whole: the length of the listing, which stands at the front of the buffer; 0 where the record is misshapen, and then nothing is said of
-- the buffer
abbrev pub Unpacks : Read Token → List ℕ → List ℕ → ℕ → Type 0
Unpacks none entry exit r = r ≡ 0
Unpacks (some t end) entry exit r = (r ≡ length (listing_of t)) × (exit ≡ sets entry 0 (listing_of t))

-- the same with a buffer that a refusal leaves empty
abbrev pub Unpacked : Read Token → List ℕ → List ℕ → ℕ → Type 0
Unpacked none entry exit r = (r ≡ 0) × (exit ≡ replicate (length entry) 0)
Unpacked (some t end) entry exit r = (r ≡ length (listing_of t)) × (exit ≡ sets entry 0 (listing_of t))
