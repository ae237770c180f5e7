-- Laws of the way from a record to its listing.
-- In order: what the judge says of what was unpacked, a reading that is refused and one that is taken, the extent of the listing in its
-- room, the listing there (Listed, listed_in_lem), the answer within a lent buffer.
-- Assumes nothing.
use Prim.Native.Nat.{ℕ, ◌<◌, ◌≤◌}
use mathlib.Core.Path.{◌≡◌, refl, sym, ap, ◌∙◌}
use mathlib.Core.List.{List, []}
use mathlib.Core.Bool.{Bool, true, false, cond}
use native.Mathlib.Omega.{arith}
use borrow.Author.Tests.{lt-ltb, le-ltb}
use lib.Dec.{T}
use lib.Pow.{are_bytes}
use lib.ListN.{length, take}
use lib.Seq.{length-sets}
use Rattle.base.specs.Bytes.{Read, part}
use Rattle.base.specs.Bytes.Read.{none, some}
use Rattle.base.proofs.BytesLaws.{part_front}
use Rattle.base.proofs.WriteLaws.{sets_front}
use Rattle.records.specs.Token.{Token}
use Rattle.records.specs.FlatListing.{read_listing, listing_of}
use Rattle.records.specs.TokenRecord.{read_record}
use Rattle.records.specs.TokenRules.{keeps}
use Rattle.records.specs.Converters.{Conversion, converted, as_listing, fitted, refusal}
use Rattle.records.specs.Crowd.{confined_place}
use Rattle.records.specs.Unpacking.{Unpacked, room_fits}
use Rattle.records.specs.Clean.{ReadKeeping}
use Rattle.records.proofs.RecordAnswer.{listing_some}
use Rattle.records.proofs.RoundTrip.{listing_back, record_form}
use Rattle.tokens.specs.declared.refusal.Refusal.{Refusal}
use Rattle.tokens.specs.declared.refusal.Refusal.TheVariants.{Misshapen, BreaksRule, TooLong}
use Rattle.tokens.specs.Answers.{answered, number_of}
use Rattle.tokens.specs.Judging.{Extent, Judged, judged_of, refused_extent, extent_of, holding, listed_in, room_after}
use Rattle.tokens.proofs.JudgePeople.{listing_cut}

-- ---- what was unpacked, judged

-- what lies in the buffer had room there
unpacked_room : (t : Token) (end : ℕ) (entry exit : List ℕ) (n : ℕ) → Unpacked (some t end) entry exit n → n ≤ length exit →
    n ≤ length entry
unpacked_room t end entry exit n u h =
    let l : length exit ≡ length entry = ap length u.1 ∙ length-sets entry 0 (listing_of t) in
    omega arith

module _ (s entry exit : List ℕ) (n : ℕ) (bytes : T (are_bytes s)) (room : n ≤ length exit) where
  judged_go : (q : Read Token) → read_record s ≡ q → Unpacked q entry exit n → judged_of (read_listing (part exit 0 n)) ≡ judged_of q
  unfolding judged_of
  judged_go none e u =
      let z : part exit 0 n ≡ [] = part_front exit n ∙ ap (λ (k : ℕ). take k exit) u.0 in
      rw (z, listing_cut [] (omega arith))
  judged_go (some t end) e u =
      let r = unpacked_room t end entry exit n u room in
      let w : part exit 0 n ≡ listing_of t = part_front exit n ∙ sets_front entry exit (listing_of t) n u.0 u.1 r in
      let l = listing_back t (record_form s t end bytes e).1 in
      rw (w, l)

  unpacked_judged : Unpacked (read_record s) entry exit n → judged_of (read_listing (part exit 0 n)) ≡ judged_of (read_record s)
  unpacked_judged u = judged_go (read_record s) refl u

-- ---- the answer with its listing

-- a reading that is refused, as a conversion
pub judged_refused : (f : Token → List ℕ) (q : Read Token) → ((judged_of q).status ≡ 0 → ⊥) →
    (converted f q ≡ refusal (judged_of q).status) × ((judged_of q).confined_at ≡ 0)
unfolding judged_of
judged_refused f none h = (refl, refl)
judged_refused f (some t end) h = test (keeps t) refl
  where
    test : (b : Bool) → keeps t ≡ b →
        (converted f (some t end) ≡ refusal (judged_of (some t end)).status) × ((judged_of (some t end)).confined_at ≡ 0)
    test true k = absurd (h (rw k))
    test false k = (rw k, rw k)

-- a reading that is taken
pub record Taken (q : Read Token) : Type 0 where
  pub token : Token
  pub end : ℕ
  pub read : q ≡ some token end
  pub kept : keeps token ≡ true

pub judged_taken : (q : Read Token) → (judged_of q).status ≡ 0 → Taken q
unfolding judged_of
judged_taken none h = absurd (omega arith)
judged_taken (some t end) h = test (keeps t) refl
  where
    test : (b : Bool) → keeps t ≡ b → Taken (some t end)
    test true k = record { token = t; end = end; read = refl; kept = k }
    test false k = let z : ◌≡◌ {A = ℕ} 4 0 = rw k at h in absurd (omega arith)

-- no refusal has the number of what is taken
pub refused_some : (r : Refusal) → number_of r ≡ 0 → ⊥
refused_some Misshapen h = omega arith
refused_some BreaksRule h = omega arith
refused_some TooLong h = omega arith

-- ---- the extent of the listing in its room

-- what the room holds
pub unpacked_holding : (q : Read Token) (entry exit : List ℕ) (n : ℕ) → Unpacked q entry exit n → exit ≡ holding q entry
unfolding holding
unpacked_holding none entry exit n u = u.1
unpacked_holding (some t end) entry exit n u = u.1

refused_extent_lem : (q : Read Token) → ((judged_of q).status ≡ 0 → ⊥) → refused_extent (judged_of q).status ≡ extent_of q
unfolding judged_of extent_of
refused_extent_lem none h = refl
refused_extent_lem (some t end) h = test (keeps t) refl
  where
    test : (b : Bool) → keeps t ≡ b → refused_extent (judged_of (some t end)).status ≡ extent_of (some t end)
    test true k = absurd (h (rw k))
    test false k = rw k

taken_extent : (q : Read Token) (entry exit : List ℕ) (n : ℕ) → Unpacked q entry exit n → (judged_of q).status ≡ 0 →
    record { status = 0; length = n; confined_at = (judged_of q).confined_at } ≡ extent_of q
unfolding judged_of extent_of
taken_extent none entry exit n u h = absurd (omega arith)
taken_extent (some t end) entry exit n u h = test (keeps t) refl
  where
    test : (b : Bool) → keeps t ≡ b →
        record { status = 0; length = n; confined_at = (judged_of (some t end)).confined_at } ≡ extent_of (some t end)
    test true k = rw (k, u.0)
    test false k = let z : ◌≡◌ {A = ℕ} 4 0 = rw k at h in absurd (omega arith)

-- where nothing is in the room
pub empty_extent : (room : ℕ) (s entry exit : List ℕ) → room_fits room (length s) ≡ true →
    Unpacked (cond (room_fits room (length s)) (read_record s) none) entry exit 0 → refused_extent 3 ≡ listed_in room s
unfolding extent_of
empty_extent room s entry exit e u = rw e (go (read_record s) (rw e at u))
  where
    go : (q : Read Token) → Unpacked q entry exit 0 → refused_extent 3 ≡ extent_of q
    go none v = refl
    go (some t end) v = absurd (omega (arith, v.0, listing_some t))

-- where something is, the room was long enough
pub filled_fit : (fits : Bool) (q : Read Token) (entry exit : List ℕ) (n : ℕ) → Unpacked (cond fits q none) entry exit n → 0 < n → fits ≡ true
filled_fit true q entry exit n u h = refl
filled_fit false q entry exit n u h = absurd (omega (arith, u.0))

-- where unpacking told already that the token keeps the rules
kept_read : (q : Read Token) (entry exit : List ℕ) (n : ℕ) → ReadKeeping q → Unpacked q entry exit n →
    record { status = 0; length = n; confined_at = n } ≡ extent_of q
unfolding extent_of
kept_read none entry exit n k u = absurd k
kept_read (some t end) entry exit n k u = rw (k.rules, k.ends, u.0)

pub kept_extent : (fits : Bool) (q : Read Token) (entry exit : List ℕ) (n : ℕ) → ReadKeeping (cond fits q none) →
    Unpacked (cond fits q none) entry exit n →
    record { status = 0; length = n; confined_at = n } ≡ cond fits (extent_of q) (refused_extent 11)
kept_extent true q entry exit n k u = kept_read q entry exit n k u
kept_extent false q entry exit n k u = absurd k

module _ (s entry exit : List ℕ) (n : ℕ) (j : Judged) (bytes : T (are_bytes s)) (inside : n ≤ length exit)
    (fit : room_fits (length entry) (length s) ≡ true)
    (all : Unpacked (cond (room_fits (length entry) (length s)) (read_record s) none) entry exit n)
    (is : j ≡ judged_of (read_listing (part exit 0 n))) where
  unpacked : Unpacked (read_record s) entry exit n
  unpacked = rw fit at all

  judged_is : j ≡ judged_of (read_record s)
  judged_is = is ∙ unpacked_judged s entry exit n bytes inside unpacked

  status_is : j.status ≡ (judged_of (read_record s)).status
  status_is = ap (λ (x : Judged). x.status) judged_is

  pub judged_unlisted : (j.status ≡ 0 → ⊥) → refused_extent j.status ≡ listed_in (length entry) s
  judged_unlisted h = rw (fit, status_is) (refused_extent_lem (read_record s) (λ z. h (status_is ∙ z)))

  pub judged_listed : j.status ≡ 0 → record { status = 0; length = n; confined_at = j.confined_at } ≡ listed_in (length entry) s
  judged_listed h =
      rw (fit, judged_is) (taken_extent (read_record s) entry exit n unpacked (sym status_is ∙ h))

-- ---- the listing in its room

-- by what is read of the record
listed_read : (q : Read Token) (entry exit : List ℕ) (r : Extent) → r ≡ extent_of q → exit ≡ holding q entry → r.length ≤ length entry →
    (r.status ≡ (converted listing_of q).status) × (r.length ≡ length (converted listing_of q).bytes)
    × (take r.length exit ≡ (converted listing_of q).bytes) × (r.confined_at ≡ (judged_of q).confined_at)
unfolding extent_of holding judged_of
listed_read none entry exit r e x h =
    let z : r.length ≡ 0 = ap (λ (y : Extent). y.length) e in
    (ap (λ (y : Extent). y.status) e, z, ap (λ (n : ℕ). take n exit) z, ap (λ (y : Extent). y.confined_at) e)
listed_read (some t end) entry exit r e x h = test (keeps t) refl
  where
    test : (b : Bool) → keeps t ≡ b →
        (r.status ≡ (converted listing_of (some t end)).status) × (r.length ≡ length (converted listing_of (some t end)).bytes)
        × (take r.length exit ≡ (converted listing_of (some t end)).bytes) × (r.confined_at ≡ (judged_of (some t end)).confined_at)
    test true k =
        let i : r ≡ record { status = 0; length = length (listing_of t); confined_at = confined_place t } = rw k at e in
        let l : r.length ≡ length (listing_of t) = ap (λ (y : Extent). y.length) i in
        rw k (
          ap (λ (y : Extent). y.status) i,
          l,
          sets_front entry exit (listing_of t) r.length l x h,
          ap (λ (y : Extent). y.confined_at) i,
        )
    test false k =
        let i : r ≡ refused_extent 4 = rw k at e in
        let z : r.length ≡ 0 = ap (λ (y : Extent). y.length) i in
        rw k (ap (λ (y : Extent). y.status) i, z, ap (λ (n : ℕ). take n exit) z, ap (λ (y : Extent). y.confined_at) i)

-- where the room was long enough: status, length and bytes are those of the conversion, and the place is that of the token; all 0 and
-- empty on refusal
pub record Listed (s : List ℕ) (r : Extent) (room : List ℕ) : Type 0 where
  pub status : r.status ≡ (as_listing s).status
  pub long : r.length ≡ length (as_listing s).bytes
  pub bytes : take r.length room ≡ (as_listing s).bytes
  pub place : r.confined_at ≡ (judged_of (read_record s)).confined_at

pub listed_in_lem : (s entry exit : List ℕ) (r : Extent) → room_fits (length entry) (length s) ≡ true →
    r ≡ listed_in (length entry) s → exit ≡ room_after s entry → r.length ≤ length entry → Listed s r exit
unfolding as_listing
listed_in_lem s entry exit r fit e x h =
    let f = listed_read (read_record s) entry exit r (rw fit at e) (rw fit at x) h in
    record { status = f.0; long = f.1; bytes = f.2; place = f.3 }

-- ---- the answer within a lent buffer

module _ (s : List ℕ) (r : Extent) (room : List ℕ) (listed : Listed s r room) (n : ℕ) where
  pub fitted_longer : n < r.length → fitted n (as_listing s) ≡ refusal 11
  unfolding fitted
  fitted_longer h = let k : n < length (as_listing s).bytes = rw listed.long at h in rw (lt-ltb n (length (as_listing s).bytes) k)

  fitted_within : r.length ≤ n → fitted n (as_listing s) ≡ as_listing s
  unfolding fitted
  fitted_within h = let k : length (as_listing s).bytes ≤ n = rw listed.long at h in rw (le-ltb n (length (as_listing s).bytes) k)

  pub within_answer : r.length ≤ n → record { status = r.status; length = r.length } ≡ answered (fitted n (as_listing s))
  within_answer h = rw (fitted_within h, listed.status, listed.long)

  pub within_bytes : r.length ≤ n → (fitted n (as_listing s)).bytes ≡ part room 0 r.length
  within_bytes h = ap (λ (x : Conversion). x.bytes) (fitted_within h) ∙ sym listed.bytes ∙ sym (part_front room r.length)
