-- How long a listing and a record are at most, by shape (listing_short, record_short) and where they are accepted (accepted_listing_short,
-- accepted_record_short, as_listing_short, as_record_short). That each bound is reached is in LargestLaws.
-- Assumes nothing.
use Prim.Native.Nat.{ℕ, ◌*◌, ◌≤◌}
use mathlib.Core.Path.{◌≡◌, refl}
use mathlib.Core.List.{List}
use mathlib.Core.Bool.{true}
use native.Mathlib.Omega.{arith}
use lib.Dec.{T}
use lib.Pow.{are_bytes}
use lib.ListN.{length, length-append}
use Rattle.base.specs.Bytes.{byte_at, u32_at, u48_be_at}
use Rattle.base.specs.Sevens.{packed, sevens}
use Rattle.base.proofs.ValueLaws.{length_little}
use Rattle.base.proofs.WordsLaws.{u48_be_at_lt}
use Rattle.base.proofs.SevensLaws.{packed_length}
use Rattle.sids.proofs.SidLaws.{sid_shape, is_sid_short}
use Rattle.records.specs.Token.{Token}
use Rattle.records.specs.Shaped.{Identity, Shaped}
use Rattle.records.specs.FlatListing.{read_listing, listing_of, flat_writer}
use Rattle.records.specs.TokenRecord.{read_record, record_of, pack_identity, packed_writer, packed_words}
use Rattle.records.specs.TokenRules.{all_restricted, keeps}
use Rattle.records.specs.Converters.{as_listing, as_record, full_result}
use Rattle.records.proofs.RoundTrip.{record_form, listing_form, accepted}
use Rattle.records.proofs.LengthLaws.{Widths, Longest, each_short, fields_short, accepted_short}
use Rattle.records.proofs.RecordLaws.{words_at, words_packed, words_fit, length_words}

-- ---- the listing

pub sid_short : (w : List ℕ) → Identity w → length w ≤ 68
sid_short w o = is_sid_short w o.whole

abbrev pub flat_widths : Widths
flat_widths = record { flags = 4; privileges = 8; many = 4; few = 4; attributes = 4; identity = 68 }

pub flat_longest : Longest flat_writer flat_widths
flat_longest =
    record {
      flags = λ v h. omega (arith, length_little 4 v);
      privileges = λ v h. omega (arith, length_little 8 v);
      many = λ v h. omega (arith, length_little 4 v);
      few = λ v h. omega (arith, length_little 4 v);
      attributes = λ v h. omega (arith, length_little 4 v);
      identity = sid_short;
    }

pub listing_short : (t : Token) → Shaped t → length (listing_of t) ≤ 22940
unfolding listing_of
listing_short t o = fields_short flat_longest t o

pub accepted_listing_short : (t : Token) → Shaped t → keeps t ≡ true → length (listing_of t) ≤ 22888
unfolding listing_of
accepted_listing_short t o e = accepted_short flat_longest t o e

-- ---- the record

pub words_short : (n : ℕ) (w : List ℕ) (at : ℕ) → Identity w → length (packed_words n w at) ≤ n * 5
words_short n w at o =
    let a = each_short packed 5 (λ v h. packed_length 4 v (omega arith) (omega arith)) (words_at n w at) (words_fit n w at o.bytes) in
    rw (words_packed n w at) (rw length_words at a)

pub pack_identity_short : (w : List ℕ) → Identity w → length (pack_identity w) ≤ 83
unfolding pack_identity
pack_identity_short w o =
    let x = sid_shape w o.whole in
    let f = x.few in
    let a = packed_length 0 (byte_at w 1) (omega arith) (omega arith) in
    let l = u48_be_at_lt w 2 o.bytes in
    let b = packed_length 6 (u48_be_at w 2) (omega arith) (omega (arith, l)) in
    let c = words_short (byte_at w 1) w 8 o in
    simp length-append (omega (arith, a, b, c))

abbrev pub packed_widths : Widths
packed_widths = record { flags = 1; privileges = 10; many = 2; few = 1; attributes = 5; identity = 83 }

pub packed_longest : Longest packed_writer packed_widths
packed_longest =
    record {
      flags = λ v h. packed_length 0 v (omega arith) (omega arith);
      privileges = λ v h. packed_length 9 v (omega arith) (omega arith);
      many = λ v h. packed_length 1 v (omega arith) (omega arith);
      few = λ v h. packed_length 0 v (omega arith) (omega arith);
      attributes = λ v h. packed_length 4 v (omega arith) (omega arith);
      identity = pack_identity_short;
    }

pub record_short : (t : Token) → Shaped t → length (record_of t) ≤ 28021
unfolding record_of
record_short t o =
    let a = packed_length 0 1 (omega arith) (omega arith) in
    let b = fields_short packed_longest t o in
    simp length-append (omega (arith, a, b))

-- S-1-15-2-2 packed is 02 0F 02 02
pub length_restricted : length (pack_identity all_restricted) ≡ 4
unfolding pack_identity packed_words sevens u32_at u48_be_at
length_restricted = refl

pub accepted_record_short : (t : Token) → Shaped t → keeps t ≡ true → length (record_of t) ≤ 27942
unfolding record_of
accepted_record_short t o e =
    let a = packed_length 0 1 (omega arith) (omega arith) in
    let b = accepted_short packed_longest t o e in
    simp length-append (omega (arith, a, b, length_restricted))

-- ---- what a converter gives

pub as_listing_short : (s l : List ℕ) → T (are_bytes s) → as_listing s ≡ full_result l → length l ≤ 22888
unfolding as_listing
as_listing_short s l b e =
    let a = accepted listing_of (read_record s) l e in
    let f = record_form s a.token a.end b a.read in
    rw (← a.written) (accepted_listing_short a.token f.1 a.kept)

pub as_record_short : (l s : List ℕ) → T (are_bytes l) → as_record l ≡ full_result s → length s ≤ 27942
unfolding as_record
as_record_short l s b e =
    let a = accepted record_of (read_listing l) s e in
    let f = listing_form l a.token a.end b a.read in
    rw (← a.written) (accepted_record_short a.token f.1 a.kept)
