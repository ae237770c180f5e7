-- Request 103: "a profile of MS-DTYP's expressions after the `artx` prefix: SID literal 0x51, composite 0x50 of SIDs, Member_of 0x89,
-- Member_of_Any 0x8b, their negations 0x90 and 0x92, and 0xa0, 0xa1, 0xa2, with zero padding to the end." Tokens stand in postfix order;
-- "within an expression the first met from the left decides".
use Rattle.std.specs.Prelude.{ℕ, zero, suc, ◌+◌, List, [], ◌∷◌, Bool, true, false, cond, not, ◌&&◌, ◌||◌, length, drop, ltb, eqb}
use Rattle.base.specs.Bytes.{byte_at, u32_at, part}
use Rattle.sids.specs.Sid.{is_sid}
use Rattle.conditions.specs.Scanning.{Scan, Outcome}
use Rattle.conditions.specs.Scanning.{Scan as scan}
use Rattle.conditions.specs.Scanning.Outcome.{Broken, Foreign, Says}

-- every byte is 0
unfoldable pub zeros : List ℕ → Bool
zeros [] = true
zeros (x ∷ l) = let r = zeros l in cond (eqb x 0) r false

-- an operand: a truth, or a list of SIDs: the places from and to which its literals stand
pub data Item : Type 0 where
  truth : Bool → Item
  sids : ℕ → ℕ → Item

-- what one token comes to: a fault, or the place after it and the operands then, the latest first
pub data Next : Type 0 where
  broken : Next
  foreign : Next
  on : ℕ → List Item → Next

-- ---- operands

-- a length u32 stands behind the token at a place: the place after what it encloses; 0 where that does not fit
unfoldable pub enclosed_end : List ℕ → ℕ → ℕ
enclosed_end s at =
    let n = u32_at s (at + 1) in
    cond (ltb (length s) (at + 5)) 0 (cond (ltb (length s) (at + 5 + n)) 0 (at + 5 + n))

-- the place after the SID literal at a place, whose length is exactly its SID's; 0 where none stands
unfoldable pub literal_end : List ℕ → ℕ → ℕ
literal_end s at = let e = enclosed_end s at in cond (eqb e 0) 0 (cond (is_sid (part s (at + 5) e)) e 0)

-- the four tests of membership: Member_of, Member_of_Any and their negations
abbrev pub asks : ℕ → Bool
asks b = eqb b 0x89 || eqb b 0x8b || eqb b 0x90 || eqb b 0x92

-- a byte of the profile, padding too; every other is an other token
abbrev pub in_profile : ℕ → Bool
in_profile b = eqb b 0 || eqb b 0x50 || eqb b 0x51 || asks b || eqb b 0xa0 || eqb b 0xa1 || eqb b 0xa2

-- what a byte is that stands in a composite where 0x51 should
abbrev pub stray : ℕ → Scan
stray b = cond (in_profile b) scan.Broken scan.Foreign

-- literals back to back from a place of a composite's own bytes; a literal takes a byte at least, so n is as many as there are bytes
unfoldable pub literals_at : List ℕ → ℕ → ℕ → Scan
literals_at c zero at = scan.Plain
literals_at c (suc n) at =
    let e = literal_end c at in
    let r = literals_at c n e in
    cond (ltb at (length c)) (cond (eqb (byte_at c at) 0x51) (cond (eqb e 0) scan.Broken r) (stray (byte_at c at))) scan.Plain

unfoldable pub literals : List ℕ → Scan
literals c = literals_at c (length c) 0

-- "A stack deeper than 32 is broken"
abbrev pub deepest : ℕ
deepest = 32

unfoldable pub push : ℕ → Item → List Item → Next
push next x st = cond (ltb (length st) deepest) (on next (x ∷ st)) broken

-- a literal is a list of one
unfoldable pub literal : List ℕ → ℕ → List Item → Next
literal s at st = let e = literal_end s at in cond (eqb e 0) broken (push e (sids at e) st)

-- a composite's own faults come before those of the stack
abbrev pub given : Scan → Next → Next
given scan.Broken x = broken
given scan.Foreign x = foreign
given scan.Plain x = x

unfoldable pub composite : List ℕ → ℕ → List Item → Next
composite s at st =
    let e = enclosed_end s at in
    cond (eqb e 0) broken (given (literals (part s (at + 5) e)) (push e (sids (at + 5) e) st))

-- ---- operators

-- a test takes a list, and is told a truth
unfoldable pub answered : Bool → ℕ → List Item → Next
answered told next [] = broken
answered told next (truth b ∷ st) = broken
answered told next (sids a e ∷ st) = push next (truth told) st

-- and, or take two truths
unfoldable pub paired : Bool → ℕ → List Item → Next
paired every next [] = broken
paired every next (sids a e ∷ st) = broken
paired every next (truth b ∷ []) = broken
paired every next (truth b ∷ sids a e ∷ st) = broken
paired every next (truth b ∷ truth a ∷ st) = push next (truth (cond every (a && b) (a || b))) st

-- not takes one
unfoldable pub negated : ℕ → List Item → Next
negated next [] = broken
negated next (sids a e ∷ st) = broken
negated next (truth b ∷ st) = push next (truth (not b)) st

-- ---- the whole

-- one token; what a test is told comes from outside
unfoldable pub step_at : Bool → List ℕ → ℕ → List Item → Next
step_at told s at st =
    let b = byte_at s at in
    cond (eqb b 0x51) (literal s at st)
    (cond (eqb b 0x50) (composite s at st)
    (cond (asks b) (answered told (at + 1) st)
    (cond (eqb b 0xa0) (paired true (at + 1) st)
    (cond (eqb b 0xa1) (paired false (at + 1) st)
    (cond (eqb b 0xa2) (negated (at + 1) st)
    foreign)))))

-- the end needs exactly one truth
unfoldable pub ended : List Item → Outcome
ended [] = Broken
ended (sids a e ∷ st) = Broken
ended (truth b ∷ []) = Says b
ended (truth b ∷ x ∷ st) = Broken

abbrev pub follow : (ℕ → List Item → Outcome) → Next → Outcome
follow k broken = Broken
follow k foreign = Foreign
follow k (on at st) = k at st

-- tokens from a place, up to the padding; past the end bytes read as 0, so the end is padding too. A token takes a byte at least, so n is
-- as many as there are bytes. What a test is told is handed in
unfoldable pub run_from : (ℕ → List Item → Bool) → List ℕ → ℕ → ℕ → List Item → Outcome
run_from tell s zero at st = ended st
run_from tell s (suc n) at st =
    let r = follow (run_from tell s n) (step_at (tell (byte_at s at) st) s at st) in
    cond (eqb (byte_at s at) 0) (cond (zeros (drop at s)) (ended st) Broken) r

-- "artx" as a number, lowest byte first
abbrev pub opened : List ℕ → Bool
opened s = eqb (u32_at s 0) 0x78747261

-- the whole, from the prefix on
unfoldable pub outcome_by : (ℕ → List Item → Bool) → List ℕ → Outcome
outcome_by tell s = let r = run_from tell s (length s) 4 [] in cond (opened s) r Broken

-- broken, an other token, or neither
abbrev pub shape_of : Outcome → Scan
shape_of Broken = scan.Broken
shape_of Foreign = scan.Foreign
shape_of (Says b) = scan.Plain

-- the shape: which of the three it is does not depend on what tests are told (proofs/ShapeLaws)
abbrev pub untold : ℕ → List Item → Bool
untold b st = false

-- what a test is told of the list that stands latest, by one who is handed the test's byte and the list's bytes; of no list false
unfoldable pub told_by : (ℕ → List ℕ → Bool) → List ℕ → ℕ → List Item → Bool
told_by tell s b [] = false
told_by tell s b (truth t ∷ st) = false
told_by tell s b (sids a e ∷ st) = tell b (part s a e)

unfoldable pub shape : List ℕ → Scan
shape s = shape_of (outcome_by untold s)
