-- Laws of the judge on a whole listing: the confinement, the token rules as the walk meets them, the people, the listing from its heading.
-- Assumes nothing.
use Prim.Native.Nat.{ℕ, ◌+◌, ◌-◌, ◌*◌, ◌<◌, ◌≤◌}
use mathlib.Core.Path.{◌≡◌, refl, sym, ap, ◌∙◌}
use mathlib.Core.List.{List}
use mathlib.Core.Bool.{Bool, true, false, not, ◌&&◌, ◌||◌}
use native.Mathlib.Omega.{arith}
use borrow.Author.Tests.{ltb-true, ltb-false, eq-eqb, ne_eqb, le-ltb, lt-ltb, le-leb, lt-leb}
use lib.ListN.{length}
use Rattle.std.specs.Prelude.{Some, None}
use lib.Dec.{T, leb, ltb}
use lib.Pow.{are_bytes}
use Rattle.base.specs.Bytes.{only, part, u32_at, same}
use Rattle.base.specs.Bytes.Read.{none, some}
use Rattle.base.specs.Bits.{and}
use Rattle.base.proofs.BytesLaws.{length_part}
use Rattle.sids.specs.Sid.{sid_end, virtual}
use Rattle.records.specs.Token.{Confined, Token, confined, exempt, unconfined}
use Rattle.records.specs.Fields.{many, each, group_at, group_bytes, confinement_at, people_at, fields_at, ended}
use Rattle.records.specs.FlatListing.{double_word, flat_identity, flat_reader, flat_writer, read_listing}
use Rattle.records.specs.TokenRules.{virtual_group, virtual_in, lists, all_restricted, keeps, exempt_alone, virtual_stands, unrestricted}
use Rattle.records.specs.Crowd.{confined_place}
use Rattle.records.proofs.FormatLaws.{many_form}
use Rattle.records.proofs.FieldsLaws.{group_kept}
use Rattle.records.proofs.ListingLaws.{flat_format}
use Rattle.tokens.specs.Judging.{judged_of, told, walked, seen_by, Seen, seen_of, confinement_breaks, rest_breaks}
use Rattle.tokens.specs.declared.judging.Walk.{Walk}
use Rattle.tokens.specs.declared.judging.Capabilities.{Capabilities}
use Rattle.tokens.proofs.JudgeLaws.{identity_none, identity_some, identity_after, word_none, word_some, Headed, headed_identity}
use Rattle.tokens.proofs.JudgeLaws.{headed_word, Told, walk_none, walk_some, seen_none, seen_some}

-- ---- the confinement

module _ (s : List ℕ) (at : ℕ) where
  pub confinement_stop : sid_end s at ≡ 0 → told confinement_breaks (confinement_at flat_reader true s at) ≡ none
  unfolding confinement_at
  confinement_stop h = rw (identity_none s at h)

  pub confinement_cut : (e : ℕ) → e ≡ sid_end s at → (e ≡ 0 → ⊥) → length s < e + 4 →
      told confinement_breaks (confinement_at flat_reader true s at) ≡ none
  unfolding confinement_at
  confinement_cut e is found h = rw (identity_some s at e is found, word_none s e h)

module _ {s : List ℕ} {at e n : ℕ} (h : Headed s at e n) where
  pub confinement_many : 64 < n → told confinement_breaks (confinement_at flat_reader true s at) ≡ none
  unfolding confinement_at
  confinement_many k = rw (headed_identity h, headed_word h, lt-leb n 64 k)

  module _ (few : n ≤ 64) where
    pub confinement_lost : seen_by None ≡ told seen_of (many flat_identity n s (e + 4)) → told confinement_breaks (confinement_at flat_reader true s at) ≡ none
    unfolding confinement_at
    confinement_lost k =
        rw (headed_identity h, headed_word h, le-leb n 64 few, seen_none (many flat_identity n s (e + 4)) k)

    pub confinement_done : (r : Capabilities) → seen_by (Some r) ≡ told seen_of (many flat_identity n s (e + 4)) →
        told confinement_breaks (confinement_at flat_reader true s at)
        ≡ some (virtual (part s at e) || r.breaks || not r.listed) r.next
    unfolding confinement_at
    confinement_done r k =
        let t = seen_some (many flat_identity n s (e + 4)) r k in
        let b : virtual_in t.a ≡ r.breaks = ap (λ (x : Seen). x.breaks) t.tells in
        let l : lists all_restricted t.a ≡ r.listed = ap (λ (x : Seen). x.listed) t.tells in
        rw (headed_identity h, headed_word h, le-leb n 64 few, t.read, b, l)

-- what follows the groups
module _ (flags : ℕ) (s : List ℕ) (at : ℕ) where
  pub rest_free : and flags 1 ≡ 0 → told (rest_breaks flags) (confinement_at flat_reader (confined flags) s at) ≡ some (exempt flags) at
  unfolding confinement_at
  rest_free h = rw (eq-eqb (and flags 1) 0 h)

  pub rest_confined : (and flags 1 ≡ 0 → ⊥) →
      told (rest_breaks flags) (confinement_at flat_reader (confined flags) s at) ≡ told confinement_breaks (confinement_at flat_reader true s at)
  rest_confined h = rw (ne_eqb (and flags 1) 0 h)

  pub rest_unconfined : (c : Confined) (e : ℕ) → confinement_at flat_reader (confined flags) s at ≡ some c e → confined flags ≡ false → c
      ≡ unconfined
  unfolding confinement_at
  rest_unconfined c e h f = let k : some unconfined at ≡ some c e = sym (ap (λ (x : Bool). confinement_at flat_reader x s at) f) ∙ h in cc

-- ---- the token rules, as the walk meets them

rules_confined : (ex x vi vc l : Bool) →
    not (ex && false) && not (x || vi || vc) && not (true && not l) ≡ not (x || (vi || vc || not l))
rules_confined true true vi vc l = refl
rules_confined true false true vc l = refl
rules_confined true false false true l = refl
rules_confined true false false false l = refl
rules_confined false true vi vc l = refl
rules_confined false false true vc l = refl
rules_confined false false false true l = refl
rules_confined false false false false l = refl

rules_free : (ex x : Bool) → not (ex && true) && not (x || false || false) && true ≡ not (x || ex)
rules_free true true = refl
rules_free true false = refl
rules_free false true = refl
rules_free false false = refl

pub keeps_is : (t : Token) → (confined t.flags ≡ false → t.confinement ≡ unconfined) →
    keeps t ≡ not (virtual t.user || virtual_group t.groups || rest_breaks t.flags t.confinement)
unfolding keeps exempt_alone virtual_stands unrestricted virtual_in same
keeps_is t h = go (confined t.flags) refl
  where
    go : (b : Bool) → confined t.flags ≡ b →
        not (exempt t.flags && not (confined t.flags))
        && not (virtual t.user || virtual_group t.groups || virtual t.confinement.identity || virtual_in
        t.confinement.capabilities)
        && not (confined t.flags && not (lists all_restricted t.confinement.capabilities))
        ≡ not (virtual t.user || virtual_group t.groups || rest_breaks t.flags t.confinement)
    go true e = rw e (rules_confined (exempt t.flags) (virtual t.user || virtual_group t.groups) _ _
        (lists all_restricted t.confinement.capabilities))
    go false e = rw (e, h e) (rules_free (exempt t.flags) (virtual t.user || virtual_group t.groups))

-- ---- the people

module _ (flags p : ℕ) (s : List ℕ) where
  pub people_stop : sid_end s 12 ≡ 0 → people_at flat_reader flags p s 12 ≡ none
  unfolding people_at
  people_stop h = rw (identity_none s 12 h)

  pub people_cut : (e : ℕ) → e ≡ sid_end s 12 → (e ≡ 0 → ⊥) → length s < e + 4 → people_at flat_reader flags p s 12 ≡ none
  unfolding people_at
  people_cut e is found h = rw (identity_some s 12 e is found, word_none s e h)

-- the user and at most 256 groups, of which a walk tells
pub record Grouped (s : List ℕ) (e n : ℕ) (r : Walk) : Type 0 where
  pub head : Headed s 12 e n
  pub few : n ≤ 256
  pub walk : walked (Some r) ≡ told virtual_group (many (group_at flat_reader) n s (e + 4))

-- and what follows them, of which another tells
pub record Peopled (flags : ℕ) (s : List ℕ) (e n : ℕ) (r w : Walk) : Type 0 where
  pub groups : Grouped s e n r
  pub rest : walked (Some w) ≡ told (rest_breaks flags) (confinement_at flat_reader (confined flags) s r.next)

module _ (flags p : ℕ) {s : List ℕ} {e n : ℕ} where
  pub people_many : Headed s 12 e n → 256 < n → people_at flat_reader flags p s 12 ≡ none
  unfolding people_at
  people_many h k = rw (headed_identity h, headed_word h, lt-leb n 256 k)

  pub people_lost : Headed s 12 e n → n ≤ 256 → walked None ≡ told virtual_group (many (group_at flat_reader) n s (e + 4)) →
      people_at flat_reader flags p s 12 ≡ none
  unfolding people_at
  people_lost h few k =
      rw (
        headed_identity h,
        headed_word h,
        le-leb n 256 few,
        walk_none virtual_group (many (group_at flat_reader) n s (e + 4)) k,
      )

  pub people_restless : {r : Walk} → Grouped s e n r →
      walked None ≡ told (rest_breaks flags) (confinement_at flat_reader (confined flags) s r.next) →
      people_at flat_reader flags p s 12 ≡ none
  unfolding people_at
  people_restless {r} g k =
      rw (
        headed_identity g.head,
        headed_word g.head,
        le-leb n 256 g.few,
        (walk_some virtual_group (many (group_at flat_reader) n s (e + 4)) r g.walk).read,
        walk_none (rest_breaks flags) (confinement_at flat_reader (confined flags) s r.next) k,
      )

module _ (flags p : ℕ) {s : List ℕ} {e n : ℕ} {r w : Walk} (g : Peopled flags s e n r w) where
  groups : Told virtual_group (many (group_at flat_reader) n s (e + 4)) r.breaks r.next
  groups = walk_some virtual_group (many (group_at flat_reader) n s (e + 4)) r g.groups.walk

  confinement : Told (rest_breaks flags) (confinement_at flat_reader (confined flags) s r.next) w.breaks w.next
  confinement = walk_some (rest_breaks flags) (confinement_at flat_reader (confined flags) s r.next) w g.rest

  token : Token
  token = record {
    flags = flags;
    privileges = p;
    user = part s 12 e;
    groups = groups.a;
    confinement = confinement.a;
  }

  people_done : people_at flat_reader flags p s 12 ≡ some token w.next
  unfolding people_at token
  people_done =
      rw (
        headed_identity g.groups.head,
        headed_word g.groups.head,
        le-leb n 256 g.groups.few,
        groups.read,
        confinement.read,
      )

  token_keeps : keeps token ≡ not (virtual (part s 12 e) || r.breaks || w.breaks)
  unfolding token
  token_keeps =
      keeps_is token (rest_unconfined flags s r.next confinement.a w.next confinement.read)
      ∙ rw (groups.tells, confinement.tells)

  token_place : T (are_bytes s) → confined_place token ≡ r.next
  unfolding token
  token_place b =
      let h = g.groups.head in
      let k : e + 4 ≤ length s = h.whole in
      let f = (many_form (group_kept flat_format) n b k groups.read).0 in
      let x : length (each (group_bytes flat_writer) groups.a) ≡ r.next - (e + 4) =
      ap length (sym f.bytes) ∙ length_part s (e + 4) r.next f.past f.inside
      in
      let a : 12 + 8 ≤ e = identity_after s 12 e h.is h.found in
      let y : length (part s 12 e) ≡ e - 12 = length_part s 12 e (omega arith) (omega arith) in
      let l : e + 4 ≤ r.next = f.past in
      omega arith

  pub people_longer : (w.next ≡ length s → ⊥) →
      judged_of (ended s (people_at flat_reader flags p s 12)) ≡ record { status = 3; confined_at = 0 }
  unfolding judged_of
  people_longer h = rw (people_done, ne_eqb w.next (length s) h)

  module _ (ends : w.next ≡ length s) where
    pub people_broken : virtual (part s 12 e) || r.breaks || w.breaks ≡ true →
        judged_of (ended s (people_at flat_reader flags p s 12)) ≡ record { status = 4; confined_at = 0 }
    unfolding judged_of
    people_broken h = rw (people_done, eq-eqb w.next (length s) ends, token_keeps, h)

    pub people_kept : T (are_bytes s) → virtual (part s 12 e) || r.breaks || w.breaks ≡ false →
        judged_of (ended s (people_at flat_reader flags p s 12)) ≡ record { status = 0; confined_at = r.next }
    unfolding judged_of
    people_kept b h = rw (people_done, eq-eqb w.next (length s) ends, token_keeps, h, token_place b)

-- ---- the whole listing

double_word_none : (s : List ℕ) (at : ℕ) → length s < at + 8 → double_word s at ≡ none
unfolding double_word
double_word_none s at h = rw (lt-ltb (length s) (at + 8) h)

double_word_some : (s : List ℕ) (at : ℕ) → at + 8 ≤ length s → double_word s at ≡ some (u32_at s at + 4294967296 * u32_at s (at + 4)) (at + 8)
unfolding double_word
double_word_some s at h = rw (le-ltb (length s) (at + 8) h)

module _ (s : List ℕ) where
  pub listing_cut : length s < 12 → read_listing s ≡ none
  unfolding read_listing fields_at
  listing_cut h = go (ltb (length s) 4) refl
    where
      after : (b : Bool) → ended {A = Token} s (only b none) ≡ none
      after true = refl
      after false = refl

      go : (b : Bool) → ltb (length s) 4 ≡ b → ended s (fields_at flat_reader s 0) ≡ none
      go true e = rw (word_none s 0 (ltb-true (length s) 4 e))
      go false e = rw (word_some s 0 (ltb-false (length s) 4 e), double_word_none s 4 h) (after (leb (u32_at s 0) 3))

  module _ (h : 12 ≤ length s) where
    pub listing_flags : 3 < u32_at s 0 → read_listing s ≡ none
    unfolding read_listing fields_at
    listing_flags k = rw (word_some s 0 (omega arith), lt-leb (u32_at s 0) 3 k)

    pub listing_people : u32_at s 0 ≤ 3 → read_listing s ≡ ended s (people_at flat_reader (u32_at s 0) (u32_at s 4 + 4294967296 * u32_at s 8) s 12)
    unfolding read_listing fields_at
    listing_people k = rw (word_some s 0 (omega arith), le-leb (u32_at s 0) 3 k, double_word_some s 4 h)
