-- A listing shows whom its token shows: the crowd read at the user's place is the token's, and the one at the confinement identity's place
-- is its confinement (crowd_listed, confined_listed). Its first twelve bytes say the flags and the privileges (flags_listed,
-- privileges_listed).
-- In order: members of one kind (members_stand), a crowd (crowd_stands), the places of a listing, the laws. Assumes nothing.
use Prim.Native.Nat.{ℕ, ◌+◌, ◌*◌, ◌/◌, ◌%◌, ◌^◌, ◌<◌}
use mathlib.Core.Path.{◌≡◌, refl, ap, ap₂, ◌∙◌}
use mathlib.Core.List.{List, [], ◌∷◌, ◌++◌, append_assoc, map}
use mathlib.Core.Bool.{Bool, true, false}
use native.Mathlib.Omega.{arith}
use lib.Dec.{eqb}
use lib.ListN.{length, length-append}
use borrow.Author.Tests.{ne_eqb}
use Rattle.base.specs.Bytes.{u32_at, part, little}
use Rattle.base.proofs.BytesLaws.{part_of_drop}
use Rattle.base.proofs.ValueLaws.{length_little, little_eight}
use Rattle.base.proofs.WordsLaws.{u32_at_back}
use Rattle.base.proofs.PlaceLaws.{Stands, stands_left, stands_right, stands_whole}
use Rattle.sids.specs.Sid.{sid_end}
use Rattle.sids.proofs.SidLaws.{is_sid_long}
use Rattle.records.specs.Token.{Token, confined}
use Rattle.records.specs.Shaped.{All, Identity, ShapedGroup, ShapedConfined, Shaped}
use Rattle.records.specs.Fields.{each, group_bytes, confinement_bytes, people_bytes, fields_bytes}
use Rattle.records.specs.FlatListing.{flat_writer, listing_of}
use Rattle.records.specs.Crowd.{Member, plain, shown, crowd_of, confined_of, member_at, width, members_at, crowd_at, user_place}
use Rattle.records.specs.Crowd.{confined_place}
use Rattle.records.proofs.IdentityLaws.{sid_end_stands}

-- a word that stands at a place
pub word_stands : (v : ℕ) {s : List ℕ} {at : ℕ} {q : List ℕ} → v < 2 ^ 32 → Stands s at (little 4 v) q → u32_at s at ≡ v
word_stands v {s} {at} {q} h x = u32_at_back s q at v x.inside x.here h

-- an identity that stands at a place: where it ends, and its bytes
pub sid_part_stands : (w : List ℕ) {s : List ℕ} {at : ℕ} {q : List ℕ} → Identity w → Stands s at w q → part s at (sid_end s at) ≡ w
sid_part_stands w {s} {at} {q} o x = ap (part s at) (sid_end_stands o.whole x) ∙ part_of_drop s w q at x.here

pub sid_end_pos : (w : List ℕ) {s : List ℕ} {at : ℕ} {q : List ℕ} → Identity w → Stands s at w q → eqb (sid_end s at) 0 ≡ false
sid_end_pos w {s} {at} o x =
    let e = sid_end_stands o.whole x in
    let l = is_sid_long w o.whole in
    ne_eqb (sid_end s at) 0 (λ z. omega (arith, e, l))

-- ---- members of one kind

-- the bytes of a thing show one member, and the next stands after them
pub record Shows {A : Type 0} (attrs : Bool) (bytes : A → List ℕ) (member : A → Member) (Ok : A → Type 0) : Type 0 where
  pub known : (a : A) → Ok a → {s : List ℕ} {at : ℕ} {q : List ℕ} → Stands s at (bytes a) q → eqb (sid_end s at) 0 ≡ false
  pub same : (a : A) → Ok a → {s : List ℕ} {at : ℕ} {q : List ℕ} → Stands s at (bytes a) q → member_at attrs s at (sid_end s at) ≡ member a
  pub next : (a : A) → Ok a → {s : List ℕ} {at : ℕ} {q : List ℕ} → Stands s at (bytes a) q →
      sid_end s at + width attrs ≡ at + length (bytes a)

pub group_shows : Shows true (group_bytes flat_writer) (λ g. shown g.sid g.attributes) ShapedGroup
group_shows =
    record {
      known = λ g o x. sid_end_pos g.sid o.sid (stands_left g.sid (little 4 g.attributes) x);
      same = λ g o {s} {at} {q} x.
          let y = stands_left g.sid (little 4 g.attributes) x in
          let e = sid_end_stands o.sid.whole y in
          let z : Stands s (sid_end s at) (little 4 g.attributes) q = rw e (stands_right g.sid (little 4 g.attributes) x) in
          ap₂ shown (sid_part_stands g.sid o.sid y) (word_stands g.attributes o.attributes z);
      next = λ g o {s} {at} x.
          let e = sid_end_stands o.sid.whole (stands_left g.sid (little 4 g.attributes) x) in
          let l = length-append g.sid (little 4 g.attributes) in
          let m = length_little 4 g.attributes in
          omega arith;
    }

pub plain_shows : Shows false (λ w. w) plain Identity
plain_shows =
    record {
      known = λ w o x. sid_end_pos w o x;
      same = λ w o x. ap plain (sid_part_stands w o x);
      next = λ w o {s} {at} x. let e = sid_end_stands o.whole x in omega arith;
    }

module _ {A : Type 0} {attrs : Bool} {bytes : A → List ℕ} {member : A → Member} {Ok : A → Type 0} (k : Shows attrs bytes member Ok) where
  pub members_stand : (l : List A) {s : List ℕ} {at : ℕ} {q : List ℕ} → All Ok l → Stands s at (each bytes l) q →
      members_at attrs s (length l) at ≡ map member l
  unfolding members_at each
  members_stand [] o x = refl
  members_stand (a ∷ l) {s} {at} {q} o x =
      let y = stands_left (bytes a) (each bytes l) x in
      let n = k.next a o.0 y in
      let z : Stands s (sid_end s at + width attrs) (each bytes l) q = rw n (stands_right (bytes a) (each bytes l) x) in
      rw (k.known a o.0 y) (ap₂ ◌∷◌ (k.same a o.0 y) (members_stand l o.1 z))

  -- an identity, a count and as many members
  pub crowd_stands : (w : List ℕ) (l : List A) {s : List ℕ} {at : ℕ} {q : List ℕ} → Identity w → length l < 2 ^ 32 → All Ok l →
      Stands s at (w ++ (little 4 (length l) ++ each bytes l)) q → crowd_at attrs s at ≡ plain w ∷ map member l
  unfolding crowd_at
  crowd_stands w l {s} {at} {q} i h o x =
      let c = little 4 (length l) in
      let y = stands_left w (c ++ each bytes l) x in
      let e = sid_end_stands i.whole y in
      let z : Stands s (sid_end s at) (c ++ each bytes l) q = rw e (stands_right w (c ++ each bytes l) x) in
      let n : u32_at s (sid_end s at) ≡ length l = word_stands (length l) h (stands_left c (each bytes l) z) in
      let m : Stands s (sid_end s at + 4) (each bytes l) q = rw (length_little 4 (length l)) at (stands_right c (each bytes l) z) in
      rw (sid_end_pos w i y, n) (ap₂ ◌∷◌ (ap plain (sid_part_stands w i y)) (members_stand l o m))

-- ---- the places of a listing

-- bytes that stand at a place stand at its equal
stands_at : {s : List ℕ} {a b : ℕ} {w q : List ℕ} → a ≡ b → Stands s a w q → Stands s b w q
stands_at e x = rw (← e) x

module _ (t : Token) where
  pub fields_stand : Stands (listing_of t) 0 (little 4 t.flags ++ (little 8 t.privileges ++ people_bytes flat_writer t)) []
  unfolding listing_of fields_bytes
  fields_stand = stands_whole (fields_bytes flat_writer t)

  pub rest_stands : Stands (listing_of t) 4 (little 8 t.privileges ++ people_bytes flat_writer t) []
  rest_stands = let l = length_little 4 t.flags in stands_at (omega arith) (stands_right (little 4 t.flags) _ fields_stand)

  pub people_stand : Stands (listing_of t) 12 (people_bytes flat_writer t) []
  people_stand =
      let l = length_little 8 t.privileges in
      stands_at (omega arith) (stands_right (little 8 t.privileges) (people_bytes flat_writer t) rest_stands)

  pub flags_listed : Shaped t → u32_at (listing_of t) 0 ≡ t.flags
  flags_listed o = let h = o.flags in word_stands t.flags (omega arith) (stands_left (little 4 t.flags) _ fields_stand)

  pub privileges_listed : u32_at (listing_of t) 4 ≡ t.privileges % 2 ^ 32
  privileges_listed =
      let a = t.privileges % 4294967296 in
      let b = t.privileges / 4294967296 in
      let d : t.privileges ≡ a + 4294967296 * b = omega arith in
      let e : little 8 t.privileges ≡ little 4 a ++ little 4 b = ap (little 8) d ∙ little_eight a b (omega arith) in
      let x : Stands (listing_of t) 4 (little 4 a ++ little 4 b) (people_bytes flat_writer t ++ []) =
      rw (← e) (stands_left (little 8 t.privileges) (people_bytes flat_writer t) rest_stands) in
      word_stands a (omega arith) (stands_left (little 4 a) (little 4 b) x)

  -- ---- the crowds

  -- the user with the groups, and the confinement after them
  pub crowd_stand : Stands (listing_of t) 12 (t.user ++ (little 4 (length t.groups) ++ each (group_bytes flat_writer) t.groups))
      (confinement_bytes flat_writer (confined t.flags) t.confinement ++ [])
  unfolding people_bytes
  crowd_stand = let x = people_stand in record { inside = x.inside; here = x.here ∙ simp append_assoc }

  pub confinement_stand : Stands (listing_of t) (confined_place t) (confinement_bytes flat_writer (confined t.flags) t.confinement) []
  unfolding people_bytes
  confinement_stand =
      let a = t.user in
      let b = little 4 (length t.groups) in
      let c = each (group_bytes flat_writer) t.groups in
      let d = confinement_bytes flat_writer (confined t.flags) t.confinement in
      let l = length_little 4 (length t.groups) in
      stands_at (omega arith) (stands_right c d (stands_right b (c ++ d) (stands_right a (b ++ (c ++ d)) people_stand)))

  pub crowd_listed : Shaped t → crowd_at true (listing_of t) user_place ≡ crowd_of t
  crowd_listed o =
      let h = o.few in
      crowd_stands group_shows t.user t.groups o.user (omega arith) o.groups crowd_stand

  pub confined_listed : Shaped t → confined t.flags ≡ true → crowd_at false (listing_of t) (confined_place t) ≡ confined_of t
  unfolding confinement_bytes
  confined_listed o e =
      let x : Stands (listing_of t) (confined_place t) (confinement_bytes flat_writer true t.confinement) [] = rw e at confinement_stand in
      let c : ShapedConfined t.confinement = rw e at o.confinement in
      let h = c.few in
      crowd_stands plain_shows t.confinement.identity t.confinement.capabilities c.identity (omega arith) c.capabilities x
