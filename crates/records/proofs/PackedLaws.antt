-- What is packed of a listing, by place, is the record of its token (packed_listing), and the listing can be packed (packable_listing).
-- In order: members of one kind, a crowd, the parts of a listing, the whole and its length (packed_short, packed_twice). Assumes nothing.
use Prim.Native.Nat.{ℕ, ◌+◌, ◌*◌, ◌^◌, ◌<◌, ◌≤◌}
use mathlib.Core.Path.{◌≡◌, refl, sym, ap, ap₂, ◌∙◌}
use mathlib.Core.List.{List, [], ◌∷◌, ◌++◌, append_assoc}
use mathlib.Core.Bool.{Bool, true, false}
use native.Mathlib.Nat.{add-zero}
use native.Mathlib.Omega.{arith}
use lib.Dec.{eqb, ltb}
use lib.ListN.{length, length-append}
use borrow.Author.Tests.{eq-eqb}
use Rattle.base.specs.Bytes.{u32_at, little}
use Rattle.base.specs.Bytes.Read.{some}
use Rattle.base.specs.Sevens.{packed}
use Rattle.base.proofs.ValueLaws.{length_little}
use Rattle.base.proofs.PlaceLaws.{Stands, stands_left, stands_right}
use Rattle.base.proofs.ReadLaws.{passed}
use Rattle.sids.specs.Sid.{sid_end}
use Rattle.records.specs.Token.{Token, confined}
use Rattle.records.specs.Shaped.{All, Identity, ShapedGroup, ShapedConfined, Shaped}
use Rattle.records.specs.Fields.{each, group_bytes, confinement_bytes, people_bytes, fields_bytes}
use Rattle.records.specs.FlatListing.{flat_writer, listing_of, double_word}
use Rattle.records.specs.TokenRecord.{pack_identity, packed_writer, record_of}
use Rattle.records.specs.Crowd.{Member, confined_place}
use Rattle.records.specs.Packing.{identity_at, member_bytes, member_end, members_bytes, members_end, MembersStand, crowd_bytes, crowd_end}
use Rattle.records.specs.Packing.{CrowdStands, double_at, rest_bytes, record_bytes, Packable}
use Rattle.records.proofs.IdentityLaws.{sid_end_stands}
use Rattle.records.proofs.ListingLaws.{double_word_kept}
use Rattle.records.proofs.LimitLaws.{record_short}
use Rattle.records.proofs.TwiceLaws.{record_twice}
use Rattle.records.proofs.CrowdLaws.{word_stands, sid_part_stands, sid_end_pos, Shows, group_shows, plain_shows, flags_listed}
use Rattle.records.proofs.CrowdLaws.{rest_stands, crowd_stand, confinement_stand}

-- no identity ends at 0
known : (e : ℕ) → eqb e 0 ≡ false → e ≡ 0 → ⊥
known e h z = let y = eq-eqb e 0 z in let x : ◌≡◌ {A = ℕ} 0 1 = cc in omega arith

identity_packed : (w : List ℕ) {s : List ℕ} {at : ℕ} {q : List ℕ} → Identity w → Stands s at w q → identity_at s at ≡ pack_identity w
identity_packed w o x = ap pack_identity (sid_part_stands w o x)

-- ---- members of one kind

-- what is packed of the bytes of a thing
pub record Packs {A : Type 0} (attrs : Bool) (flat pack : A → List ℕ) (Ok : A → Type 0) : Type 0 where
  pub bytes : (a : A) → Ok a → {s : List ℕ} {at : ℕ} {q : List ℕ} → Stands s at (flat a) q → member_bytes attrs s at ≡ pack a

group_packs : Packs true (group_bytes flat_writer) (group_bytes packed_writer) ShapedGroup
group_packs =
    record {
      bytes = λ g o {s} {at} {q} x.
          let y = stands_left g.sid (little 4 g.attributes) x in
          let e = sid_end_stands o.sid.whole y in
          let z : Stands s (sid_end s at) (little 4 g.attributes) q = rw e (stands_right g.sid (little 4 g.attributes) x) in
          ap₂ ◌++◌ (identity_packed g.sid o.sid y) (ap packed (word_stands g.attributes o.attributes z));
    }

plain_packs : Packs false (λ w. w) pack_identity Identity
plain_packs = record { bytes = λ w o x. identity_packed w o x }

module _ {A : Type 0} {attrs : Bool} {flat pack : A → List ℕ} {member : A → Member} {Ok : A → Type 0} (shows : Shows attrs flat member Ok)
    (packs : Packs attrs flat pack Ok) where
  members_packed : (l : List A) {s : List ℕ} {at : ℕ} {q : List ℕ} → All Ok l → Stands s at (each flat l) q →
      (members_bytes attrs (length l) s at ≡ each pack l)
      × (members_end attrs (length l) s at ≡ at + length (each flat l))
      × MembersStand attrs (length l) s at
  unfolding members_bytes members_end MembersStand each
  members_packed [] {s} {at} o x = (refl, sym (add-zero at), tt)
  members_packed (a ∷ l) {s} {at} {q} o x =
      let y = stands_left (flat a) (each flat l) x in
      let n : member_end attrs s at ≡ at + length (flat a) = shows.next a o.0 y in
      let z : Stands s (member_end attrs s at) (each flat l) q = rw n (stands_right (flat a) (each flat l) x) in
      let r = members_packed l o.1 z in
      let m = length-append (flat a) (each flat l) in (
        ap₂ ◌++◌ (packs.bytes a o.0 y) r.0,
        omega (arith, r.1, n, m),
        (known (sid_end s at) (shows.known a o.0 y), r.2),
      )

  -- an identity, a count and as many members
  crowd_packed : (w : List ℕ) (l : List A) {s : List ℕ} {at : ℕ} {q : List ℕ} → Identity w → length l < 2 ^ 32 → All Ok l →
      Stands s at (w ++ (little 4 (length l) ++ each flat l)) q →
      (crowd_bytes attrs s at ≡ pack_identity w ++ (packed (length l) ++ each pack l))
      × (crowd_end attrs s at ≡ at + length w + 4 + length (each flat l))
      × CrowdStands attrs s at
  unfolding crowd_bytes crowd_end
  crowd_packed w l {s} {at} {q} i h o x =
      let c = little 4 (length l) in
      let y = stands_left w (c ++ each flat l) x in
      let e = sid_end_stands i.whole y in
      let z : Stands s (sid_end s at) (c ++ each flat l) q = rw e (stands_right w (c ++ each flat l) x) in
      let n : u32_at s (sid_end s at) ≡ length l = word_stands (length l) h (stands_left c (each flat l) z) in
      let m : Stands s (sid_end s at + 4) (each flat l) q = rw (length_little 4 (length l)) at (stands_right c (each flat l) z) in
      let r = members_packed l o m in (
        ap₂ ◌++◌ (identity_packed w i y) (rw n (ap (λ (t : List ℕ). packed (length l) ++ t) r.0)),
        rw n (r.1 ∙ omega (arith, e)),
        record { identity = known (sid_end s at) (sid_end_pos w i y); members = rw n r.2 },
      )

-- ---- the parts of a listing

module _ (t : Token) (o : Shaped t) where
  privileges_packed : double_at (listing_of t) 4 ≡ t.privileges
  unfolding double_word
  privileges_packed =
      let x = stands_left (little 8 t.privileges) (people_bytes flat_writer t) (rest_stands t) in
      let e = double_word_kept.back t.privileges o.privileges x in
      let p = passed (ltb (length (listing_of t)) 12) (some (double_at (listing_of t) 4) 12) _ _ e in
      let q = p.1 in
      cc

  crowd_of_lem :
      (crowd_bytes true (listing_of t) 12 ≡
      pack_identity t.user ++ (packed (length t.groups) ++ each (group_bytes packed_writer) t.groups))
      × (crowd_end true (listing_of t) 12 ≡ confined_place t)
      × CrowdStands true (listing_of t) 12
  crowd_of_lem =
      let h = o.few in
      crowd_packed group_shows group_packs t.user t.groups o.user (omega arith) o.groups (crowd_stand t)

  confined_of_lem : confined t.flags ≡ true →
      (crowd_bytes false (listing_of t) (crowd_end true (listing_of t) 12) ≡ confinement_bytes packed_writer true t.confinement)
      × CrowdStands false (listing_of t) (crowd_end true (listing_of t) 12)
  unfolding confinement_bytes
  confined_of_lem e =
      let x : Stands (listing_of t) (confined_place t) (confinement_bytes flat_writer true t.confinement) [] =
      rw e at (confinement_stand t) in
      let c : ShapedConfined t.confinement = rw e at o.confinement in
      let h = c.few in
      let r =
      crowd_packed plain_shows plain_packs t.confinement.identity t.confinement.capabilities c.identity (omega arith)
      c.capabilities x in
      rw crowd_of_lem.1 (r.0, r.2)

  rest_of : (b : Bool) → confined t.flags ≡ b → rest_bytes b (listing_of t) ≡ confinement_bytes packed_writer b t.confinement
  unfolding confinement_bytes
  rest_of true e = (confined_of_lem e).0
  rest_of false e = refl

  pub packed_listing : record_bytes (listing_of t) ≡ record_of t
  unfolding record_bytes record_of fields_bytes people_bytes
  packed_listing =
      rw (flags_listed t o, privileges_packed, crowd_of_lem.0, rest_of (confined t.flags) refl)
      (simp append_assoc)

  -- how long it gets
  pub packed_short : length (record_bytes (listing_of t)) ≤ 28021
  packed_short = rw packed_listing (record_short t o)

  pub packed_twice : length (record_bytes (listing_of t)) ≤ 2 * length (listing_of t)
  packed_twice = rw packed_listing (record_twice t o)

  pub packable_listing : Packable (listing_of t)
  packable_listing = record { crowd = crowd_of_lem.2; rest = λ e. (confined_of_lem (ap confined (sym (flags_listed t o)) ∙ e)).1 }
