-- What is written of a token is read back, and what is read is written so.
-- In order: the listing (listing_back, listing_form), the record (record_back, record_form), what an accepted conversion is (accepted), the
-- two converters one after the other (there_and_back, back_and_there, as_listing_inj, as_record_inj). Their lengths are in LimitLaws.
-- Assumes nothing.
use Prim.Native.Nat.{ℕ, ◌+◌}
use mathlib.Core.Path.{◌≡◌, refl, sym, ap, ◌∙◌}
use mathlib.Core.List.{List, ◌++◌}
use mathlib.Core.Bool.{Bool, true, false, cond}
use native.Mathlib.Nat.{zero-add}
use native.Mathlib.Omega.{arith}
use lib.Dec.{T, eqb}
use lib.Pow.{are_bytes}
use lib.ListN.{length}
use borrow.Author.Tests.{eq-eqb, eqb-true}
use Rattle.base.specs.Bytes.{Read, part}
use Rattle.base.specs.Bytes.Read.{none, some}
use Rattle.base.specs.Sevens.{number, packed}
use Rattle.base.proofs.BytesLaws.{part_whole}
use Rattle.base.proofs.PlaceLaws.{length_two, stands_left, stands_right, stands_whole, formed_append, formed_same}
use Rattle.base.proofs.ReadLaws.{bound, allowed, moved}
use Rattle.records.specs.Token.{Token}
use Rattle.records.specs.Shaped.{Shaped}
use Rattle.records.specs.Fields.{fields_at, fields_bytes}
use Rattle.records.specs.FlatListing.{read_listing, listing_of, flat_reader, flat_writer}
use Rattle.records.specs.TokenRecord.{read_record, record_of, packed_reader, packed_writer}
use Rattle.records.specs.TokenRules.{keeps}
use Rattle.records.specs.Converters.{Conversion, converted, full_result, refusal, as_listing, as_record}
use Rattle.records.proofs.FieldsLaws.{fields_kept}
use Rattle.records.proofs.ListingLaws.{flat_format}
use Rattle.records.proofs.RecordLaws.{number_32, packed_format}

-- ---- the listing

pub listing_back : (t : Token) → Shaped t → read_listing (listing_of t) ≡ some t (length (listing_of t))
unfolding read_listing listing_of
listing_back t o =
    let w = fields_bytes flat_writer t in
    rw ((fields_kept flat_format).back t o (stands_whole w), zero-add, eq-eqb (length w) (length w) refl)

pub listing_form : (s : List ℕ) (t : Token) (e : ℕ) → T (are_bytes s) → read_listing s ≡ some t e → (s ≡ listing_of t) × Shaped t
unfolding read_listing listing_of
listing_form s t e b h =
    let x = bound (fields_at flat_reader s 0) _ _ _ h in
    let l = allowed (eqb x.next (length s)) _ _ _ x.then in
    let f = (fields_kept flat_format).form b (omega arith) x.first in
    let n : x.next ≡ length s = eqb-true _ _ l.0 in
    let w : s ≡ fields_bytes flat_writer x.a = sym (part_whole s) ∙ ap (part s 0) (sym n) ∙ f.0.bytes in
    moved (λ t n. (s ≡ fields_bytes flat_writer t) × Shaped t) l.1 (w, f.1)

-- ---- the record

pub record_back : (t : Token) → Shaped t → read_record (record_of t) ≡ some t (length (record_of t))
unfolding read_record record_of
record_back t o =
    let v = packed 1 in
    let w = fields_bytes packed_writer t in
    let x = stands_whole (v ++ w) in
    let e : 0 + length v + length w ≡ length (v ++ w) = length_two 0 v w ∙ zero-add (length (v ++ w)) in
    rw (
      number_32.back 1 (omega arith) (stands_left v w x),
      (fields_kept packed_format).back t o (stands_right v w x),
      eq-eqb (0 + length v + length w) (length (v ++ w)) e,
    )
    (ap (some t) e)

pub record_form : (s : List ℕ) (t : Token) (e : ℕ) → T (are_bytes s) → read_record s ≡ some t e → (s ≡ record_of t) × Shaped t
unfolding read_record record_of
record_form s t e b h =
    let x = bound (number 32 s 0) _ _ _ h in
    let l = allowed (eqb x.a 1) _ _ _ x.then in
    let y = bound (fields_at packed_reader s x.next) _ _ _ l.1 in
    let m = allowed (eqb y.next (length s)) _ _ _ y.then in
    let g = number_32.form b (omega arith) x.first in
    let h = (fields_kept packed_format).form b g.0.inside y.first in
    let v : packed x.a ≡ packed 1 = ap packed (eqb-true _ _ l.0) in
    let f = formed_append (formed_same v g.0) h.0 in
    let n : y.next ≡ length s = eqb-true _ _ m.0 in
    let w = sym (part_whole s) ∙ ap (part s 0) (sym n) ∙ f.bytes in
    moved (λ t n. (s ≡ packed 1 ++ fields_bytes packed_writer t) × Shaped t) m.1 (w, h.1)

-- ---- the converters

-- what was read, where a conversion gave bytes
pub record Accepted (f : Token → List ℕ) (r : Read Token) (bs : List ℕ) : Type 0 where
  pub token : Token
  pub end : ℕ
  pub read : r ≡ some token end
  pub kept : keeps token ≡ true
  pub written : f token ≡ bs

pub accepted : (f : Token → List ℕ) (r : Read Token) (bs : List ℕ) → converted f r ≡ full_result bs → Accepted f r bs
accepted f none bs e = let z : ◌≡◌ {A = ℕ} 3 0 = ap (λ (c : Conversion). c.status) e in absurd (omega arith)
accepted f (some t n) bs e = go (keeps t) refl e
  where
    go : (u : Bool) → keeps t ≡ u → cond u (full_result (f t)) (refusal 4) ≡ full_result bs → Accepted f (some t n) bs
    go true k q = record { token = t; end = n; read = refl; kept = k; written = ap (λ (c : Conversion). c.bytes) q }
    go false k q = let z : ◌≡◌ {A = ℕ} 4 0 = ap (λ (c : Conversion). c.status) q in absurd (omega arith)

-- and the other way: what is read of a token that keeps the rules is converted
pub converted_kept : (f : Token → List ℕ) (r : Read Token) (t : Token) (n : ℕ) → r ≡ some t n → keeps t ≡ true →
    converted f r ≡ full_result (f t)
converted_kept f r t n e k = rw (e, k)

pub there_and_back : (s l : List ℕ) → T (are_bytes s) → as_listing s ≡ full_result l → as_record l ≡ full_result s
unfolding as_listing as_record
there_and_back s l b e =
    let a = accepted listing_of (read_record s) l e in
    let f = record_form s a.token a.end b a.read in
    let r : read_listing l ≡ some a.token (length (listing_of a.token)) =
    ap read_listing (sym a.written) ∙ listing_back a.token f.1 in
    converted_kept record_of (read_listing l) a.token (length (listing_of a.token)) r a.kept ∙ ap full_result (sym f.0)

pub back_and_there : (l s : List ℕ) → T (are_bytes l) → as_record l ≡ full_result s → as_listing s ≡ full_result l
unfolding as_listing as_record
back_and_there l s b e =
    let a = accepted record_of (read_listing l) s e in
    let f = listing_form l a.token a.end b a.read in
    let r : read_record s ≡ some a.token (length (record_of a.token)) =
    ap read_record (sym a.written) ∙ record_back a.token f.1 in
    converted_kept listing_of (read_record s) a.token (length (record_of a.token)) r a.kept ∙ ap full_result (sym f.0)

-- so no two records have one listing, and no two listings one record
pub as_listing_inj : (s s' l : List ℕ) → T (are_bytes s) → T (are_bytes s') → as_listing s ≡ full_result l → as_listing s' ≡ full_result l → s ≡ s'
as_listing_inj s s' l b b' e e' =
    ap (λ (c : Conversion). c.bytes) (sym (there_and_back s l b e) ∙ there_and_back s' l b' e')

pub as_record_inj : (l l' s : List ℕ) → T (are_bytes l) → T (are_bytes l') → as_record l ≡ full_result s → as_record l' ≡ full_result s → l ≡ l'
as_record_inj l l' s b b' e e' =
    ap (λ (c : Conversion). c.bytes) (sym (back_and_there l s b e) ∙ back_and_there l' s b' e')
