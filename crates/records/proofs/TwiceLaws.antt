-- A record is at most twice as long as the listing of the same token (record_twice): so is each part of it.
-- In order: a sequence (each_twice), the fields (fields_twice), the two formats. Assumes nothing.
use Prim.Native.Nat.{ℕ, suc, ◌*◌, ◌^◌, ◌<◌, ◌≤◌}
use mathlib.Core.List.{List, [], ◌∷◌}
use mathlib.Core.Bool.{Bool, true, false}
use native.Mathlib.Omega.{arith}
use lib.ListN.{length, length-append}
use Rattle.base.specs.Bytes.{byte_at, u48_be_at}
use Rattle.base.proofs.ValueLaws.{length_little}
use Rattle.base.proofs.WordsLaws.{u48_be_at_lt}
use Rattle.base.proofs.SevensLaws.{packed_length}
use Rattle.sids.proofs.SidLaws.{sid_shape}
use Rattle.records.specs.Token.{Group, Confined, Token, confined}
use Rattle.records.specs.Shaped.{All, Identity, ShapedGroup, Confinement, Shaped}
use Rattle.records.specs.Fields.{Writer, each, group_bytes, confinement_bytes, people_bytes, fields_bytes}
use Rattle.records.specs.FlatListing.{listing_of, flat_writer}
use Rattle.records.specs.TokenRecord.{record_of, pack_identity, packed_writer}
use Rattle.records.proofs.LimitLaws.{words_short}

module _ {A : Type 0} {Ok : A → Type 0} (w v : A → List ℕ) (twice : (a : A) → Ok a → length (w a) ≤ 2 * length (v a)) where
  each_twice : (l : List A) → All Ok l → length (each w l) ≤ 2 * length (each v l)
  unfolding each
  each_twice [] o = omega arith
  each_twice (a ∷ l) o =
      let h = twice a o.0 in
      let k = each_twice l o.1 in
      simp length-append (omega arith)

-- each part that one writer writes is at most twice as long as the other's; the flags leave a byte for the version
pub record Twice (w v : Writer) : Type 0 where
  pub flags : (x : ℕ) → x ≤ 3 → suc (length (w.flags x)) ≤ 2 * length (v.flags x)
  pub privileges : (x : ℕ) → x < 2 ^ 64 → length (w.privileges x) ≤ 2 * length (v.privileges x)
  pub count : (x : ℕ) → x ≤ 256 → length (w.count x) ≤ 2 * length (v.count x)
  pub attributes : (x : ℕ) → x < 2 ^ 32 → length (w.attributes x) ≤ 2 * length (v.attributes x)
  pub identity : (x : List ℕ) → Identity x → length (w.identity x) ≤ 2 * length (v.identity x)

module _ {w v : Writer} (k : Twice w v) where
  group_twice : (g : Group) → ShapedGroup g → length (group_bytes w g) ≤ 2 * length (group_bytes v g)
  group_twice g o =
      let a = k.identity g.sid o.sid in
      let b = k.attributes g.attributes o.attributes in
      simp length-append (omega arith)

  confinement_twice : (t : Bool) (x : Confined) → Confinement t x →
      length (confinement_bytes w t x) ≤ 2 * length (confinement_bytes v t x)
  unfolding confinement_bytes
  confinement_twice false x o = omega arith
  confinement_twice true x o =
      let a = k.identity x.identity o.identity in
      let f = o.few in
      let b = k.count (length x.capabilities) (omega arith) in
      let c = each_twice w.identity v.identity k.identity x.capabilities o.capabilities in
      simp length-append (omega arith)

  fields_twice : (t : Token) → Shaped t → suc (length (fields_bytes w t)) ≤ 2 * length (fields_bytes v t)
  unfolding fields_bytes people_bytes
  fields_twice t o =
      let a = k.flags t.flags o.flags in
      let b = k.privileges t.privileges o.privileges in
      let d = k.identity t.user o.user in
      let e = k.count (length t.groups) o.few in
      let f = each_twice (group_bytes w) (group_bytes v) group_twice t.groups o.groups in
      let g = confinement_twice (confined t.flags) t.confinement o.confinement in
      simp length-append (omega arith)

-- ---- the two formats

-- 8 + 4 n bytes give at most 1 + 7 + 5 n
identity_twice : (w : List ℕ) → Identity w → length (pack_identity w) ≤ 2 * length w
unfolding pack_identity
identity_twice w o =
    let x = sid_shape w o.whole in
    let f = x.few in
    let m = x.long in
    let a = packed_length 0 (byte_at w 1) (omega arith) (omega arith) in
    let l = u48_be_at_lt w 2 o.bytes in
    let b = packed_length 6 (u48_be_at w 2) (omega arith) (omega (arith, l)) in
    let c = words_short (byte_at w 1) w 8 o in
    simp length-append (omega (arith, a, b, c))

packed_twice : Twice packed_writer flat_writer
packed_twice =
    record {
      flags = λ x h. let a = packed_length 0 x (omega arith) (omega arith) in omega (arith, length_little 4 x);
      privileges = λ x h. let a = packed_length 9 x (omega arith) (omega arith) in omega (arith, length_little 8 x);
      count = λ x h. let a = packed_length 1 x (omega arith) (omega arith) in omega (arith, length_little 4 x);
      attributes = λ x h. let a = packed_length 4 x (omega arith) (omega arith) in omega (arith, length_little 4 x);
      identity = identity_twice;
    }

pub record_twice : (t : Token) → Shaped t → length (record_of t) ≤ 2 * length (listing_of t)
unfolding record_of listing_of
record_twice t o =
    let a = packed_length 0 1 (omega arith) (omega arith) in
    let b = fields_twice packed_twice t o in
    simp length-append (omega (arith, a, b))
