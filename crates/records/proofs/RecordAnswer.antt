-- What the whole record comes to, by what the code read of it: version, flags and privileges first, then the people.
-- Assumes nothing.
use Prim.Native.Nat.{ℕ, ◌+◌, ◌<◌}
use mathlib.Core.Path.{◌≡◌, refl, sym, ap, ◌∙◌}
use mathlib.Core.List.{List, ◌++◌}
use mathlib.Core.Bool.{Bool, true, cond}
use native.Mathlib.Nat.{zero-add}
use native.Mathlib.Omega.{arith}
use borrow.Author.Tests.{eq-eqb, ne_eqb}
use lib.ListN.{length, replicate}
use Rattle.std.specs.Prelude.{Option, None, Some, is_none}
use Rattle.records.specs.declared.unpacking.Filled.{Filled}
use lib.Seq.{sets}
use Rattle.base.specs.Bytes.{Read, bind, little}
use Rattle.base.specs.Bytes.Read.{none, some}
use Rattle.base.specs.Sevens.{number, num_of}
use Rattle.base.specs.declared.sevens.Num.{Num}
use Rattle.base.proofs.SevensSteps.{num_some, num_none}
use Rattle.records.specs.Token.{Token}
use Rattle.records.specs.Fields.{people_at, ended, fields_bytes}
use Rattle.records.specs.TokenRecord.{packed_reader, read_record}
use Rattle.records.specs.FlatListing.{listing_of}
use Rattle.records.specs.Unpacking.{written, outcome, limited, people_copied, filled, Unpacks, Unpacked}
use Rattle.records.specs.Clean.{Such, Keeping, ReadKeeping}
use Rattle.records.specs.Unpacking.Outcome.{refused, done}
use Rattle.records.proofs.UnpackLaws.{then_some}
use Rattle.records.proofs.RecordBytes.{listing_is, fields_is}

-- ---- the answer for the whole record

-- from what the reading of the fields comes to
module _ (s entry exit : List ℕ) where
  ended_refused : (q : Read Token) → outcome (written listing_of q) entry 0 ≡ refused → Unpacks (ended s q) entry exit 0
  unfolding outcome
  ended_refused none e = refl
  ended_refused (some t end) e = let z : ◌≡◌ {A = ℕ} 0 1 = cc in absurd (omega arith)

  module _ (to next : ℕ) where
    ended_longer : (q : Read Token) → outcome (written listing_of q) entry 0 ≡ done exit to next → (next ≡ length s → ⊥) →
        Unpacks (ended s q) entry exit 0
    unfolding outcome
    ended_longer none e h = refl
    ended_longer (some t end) e h =
        let k : end ≡ next = cc in
        rw (k, ne_eqb next (length s) h) refl

    ended_done : (q : Read Token) → outcome (written listing_of q) entry 0 ≡ done exit to next → next
        ≡ length s → Unpacks (ended s q) entry exit to
    unfolding outcome
    ended_done none e h = let z : ◌≡◌ {A = ℕ} 0 1 = cc in absurd (omega arith)
    ended_done (some t end) e h =
        let k : end ≡ next = cc in
        let l : to ≡ 0 + length (listing_of t) = cc in
        let b : exit ≡ sets entry 0 (listing_of t) = cc in
        rw (k, eq-eqb next (length s) h) (l ∙ zero-add (length (listing_of t)), b)

    ended_keeping : (q : Read Token) → outcome (written listing_of q) entry 0 ≡ done exit to next → next ≡ length s → Such Keeping q →
        ReadKeeping (ended s q)
    unfolding outcome
    ended_keeping none e h x = let z : ◌≡◌ {A = ℕ} 0 1 = cc in absurd (omega arith)
    ended_keeping (some t end) e h x = let k : end ≡ next = cc in rw (k, eq-eqb next (length s) h) x

-- version 1, flags and privileges, as they were read
pub record Heading (s : List ℕ) (v f p : Num) : Type 0 where
  pub version : Some v ≡ num_of (number 32 s 0)
  pub one : v.value ≡ 1
  pub flags : Some f ≡ num_of (limited 3 s v.next)
  pub privileges : Some p ≡ num_of (number 64 s f.next)

module _ (s entry exit : List ℕ) where
  pub record_unversioned : None ≡ num_of (number 32 s 0) → Unpacks (read_record s) entry exit 0
  unfolding read_record
  record_unversioned is = rw (num_none (number 32 s 0) is) refl

  pub record_version : (v : Num) → Some v ≡ num_of (number 32 s 0) → (v.value ≡ 1 → ⊥) → Unpacks (read_record s) entry exit 0
  unfolding read_record
  record_version v is h = rw (num_some (number 32 s 0) v is, ne_eqb v.value 1 h) refl

record_is : (s : List ℕ) (v : Num) → Some v ≡ num_of (number 32 s 0) → v.value ≡ 1 →
    read_record s ≡ ended s (bind (limited 3 s v.next) (λ flags a. bind (number 64 s a) (λ p b. people_at packed_reader flags p s b)))
unfolding read_record
record_is s v is one =
    rw (num_some (number 32 s 0) v is, eq-eqb v.value 1 one) (ap (ended s) (fields_is s v.next))

module _ (s entry exit : List ℕ) (v : Num) (is : Some v ≡ num_of (number 32 s 0)) (one : v.value ≡ 1) where
  pub record_flags : None ≡ num_of (limited 3 s v.next) → Unpacks (read_record s) entry exit 0
  record_flags such = rw (record_is s v is one, num_none (limited 3 s v.next) such) refl

  pub record_privileges : (f : Num) → Some f ≡ num_of (limited 3 s v.next) → None ≡ num_of (number 64 s f.next) →
      Unpacks (read_record s) entry exit 0
  record_privileges f such so =
      rw (
        record_is s v is one,
        num_some (limited 3 s v.next) f such,
        num_none (number 64 s f.next) so,
      )
      refl

module _ {s : List ℕ} {v f p : Num} (h : Heading s v f p) where
  people : Read Token
  people = people_at packed_reader f.value p.value s p.next

  record_people : read_record s ≡ ended s people
  unfolding people
  record_people =
      rw (
        record_is s v h.version h.one,
        num_some (limited 3 s v.next) f h.flags,
        num_some (number 64 s f.next) p h.privileges,
      )

  -- the buffer with flags and privileges in it
  module _ (entry middle exit : List ℕ) (made : middle ≡ sets (sets entry 0 (little 4 f.value)) 4 (little 8 p.value)) where
    people_outcome : outcome (written listing_of people) entry 0 ≡ outcome (people_copied f.value s p.next) middle 12
    unfolding little people
    people_outcome =
        ap (λ (x : Read (List ℕ)). outcome x entry 0) (listing_is f.value p.value s p.next)
        ∙ then_some (people_copied f.value s) entry 0 (little 4 f.value ++ little 8 p.value) p.next
        ∙ ap (λ (l : List ℕ). outcome (people_copied f.value s p.next) l 12) (sym made)

    pub record_refused_lem : outcome (people_copied f.value s p.next) middle 12 ≡ refused → Unpacks (read_record s) entry exit 0
    record_refused_lem e = rw record_people (ended_refused s entry exit people (people_outcome ∙ e))

    module _ (to next : ℕ) (e : outcome (people_copied f.value s p.next) middle 12 ≡ done exit to next) where
      pub record_longer : (next ≡ length s → ⊥) → Unpacks (read_record s) entry exit 0
      record_longer k = rw record_people (ended_longer s entry exit to next people (people_outcome ∙ e) k)

      pub record_done : next ≡ length s → Unpacks (read_record s) entry exit to
      record_done k = rw record_people (ended_done s entry exit to next people (people_outcome ∙ e) k)

      pub record_keeping : next ≡ length s → Such Keeping (people_at packed_reader f.value p.value s p.next) →
          ReadKeeping (read_record s)
      unfolding people
      record_keeping k x = rw record_people (ended_keeping s entry exit to next people (people_outcome ∙ e) k x)

-- ---- a refusal leaves the buffer empty

pub none_filled : (r : Option Filled) → is_none r ≡ true → filled r ≡ 0
none_filled None e = refl
none_filled (Some r) e = cc

-- a listing has bytes
pub listing_some : (t : Token) → 0 < length (listing_of t)
unfolding listing_of fields_bytes little
listing_some t = omega arith

module _ (fits : Bool) (fit : fits ≡ true) (entry exit : List ℕ) (r : ℕ) where
  pub unpacked_none : (q : Read Token) (last : List ℕ) → Unpacks q entry exit r → r ≡ 0 → last ≡ replicate (length exit) 0 →
      length exit ≡ length entry → Unpacked (cond fits q none) entry last r
  unpacked_none none last u z e l = rw fit (u, e ∙ ap (λ (n : ℕ). replicate n 0) l)
  unpacked_none (some t end) last u z e l = absurd (omega (arith, u.0, listing_some t))
