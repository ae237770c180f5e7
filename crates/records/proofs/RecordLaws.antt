-- The packed record as a format: its numbers and its identities are read back and have one form (packed_format).
-- In order: a number (number_kept), the words of an identity (words-..), an identity (packed_identity_kept).
-- Assumes nothing.
use Prim.Native.Nat.{ℕ, zero, suc, ◌+◌, ◌*◌, ◌^◌, ◌<◌, ◌≤◌}
use mathlib.Core.Path.{◌≡◌, refl, sym, ap, ap₂, ◌∙◌}
use mathlib.Core.List.{List, [], ◌∷◌, ◌++◌, append-nil}
use native.Mathlib.Omega.{arith}
use lib.Dec.{T, leb}
use lib.Pow.{are_bytes}
use lib.ListN.{length, length-append}
use lib.Seq.{drop_at}
use borrow.Author.Tests.{lt-ltb, le-leb, leb-true}
use Rattle.base.specs.Bytes.{byte_at, u32_at, u48_be_at, part, little, big}
use Rattle.base.specs.Bytes.Read.{some}
use Rattle.base.specs.Sevens.{number, packed}
use Rattle.base.proofs.BytesLaws.{part_append, part_whole, part_empty, part_cons, bytes_append}
use Rattle.base.proofs.ValueLaws.{length_little, length_big, little_bytes, big_bytes}
use Rattle.base.proofs.WordsLaws.{u32_at_lt, u32_at_back, little_of_u32_at, u48_be_at_lt, u48_be_at_back, big_of_u48}
use Rattle.base.proofs.SevensLaws.{number_lt, number_bounds, number_of_drop, number_form}
use Rattle.base.proofs.PlaceLaws.{length_three, Stands, stands_left, stands_right, Formed, formed_append, formed_same}
use Rattle.base.proofs.ReadLaws.{bound, allowed, moved}
use Rattle.sids.proofs.SidLaws.{sid_shape, sid_of_shape}
use Rattle.records.specs.Shaped.{All, Identity}
use Rattle.records.specs.Fields.{many, each}
use Rattle.records.specs.TokenRecord.{packed_identity, packed_reader, packed_words, pack_identity, packed_writer}
use Rattle.records.proofs.FormatLaws.{Kept, many_back, many_form}
use Rattle.records.proofs.FieldsLaws.{Format}

-- ---- numbers

pub number_kept : (bits : ℕ) → bits ≤ 64 → Kept (number bits) packed (λ v. v < 2 ^ bits)
number_kept bits h =
    record {
      back = λ v o {s} {at} {q} x. number_of_drop bits h s q at v o x.here;
      form = λ {s} {at} {n} {a = v} b i e.
          let p = number_bounds bits s at v n e in (
            record { past = omega (arith, p.0); inside = p.1; bytes = number_form bits h s at v n b e },
            number_lt bits s at v n e,
          );
    }

pub number_32 : Kept (number 32) packed (λ v. v < 2 ^ 32)
number_32 = number_kept 32 (omega arith)

pub number_48 : Kept (number 48) packed (λ v. v < 2 ^ 48)
number_48 = number_kept 48 (omega arith)

-- ---- the words of an identity

-- the numbers in the n words from a place
unfoldable pub words_at : ℕ → List ℕ → ℕ → List ℕ
words_at zero w at = []
words_at (suc n) w at = u32_at w at ∷ words_at n w (at + 4)

pub length_words : (n : ℕ) (w : List ℕ) (at : ℕ) → length (words_at n w at) ≡ n
unfolding words_at
length_words zero w at = refl
length_words (suc n) w at = ap suc (length_words n w (at + 4))

pub words_fit : (n : ℕ) (w : List ℕ) (at : ℕ) → T (are_bytes w) → All (λ v. v < 2 ^ 32) (words_at n w at)
unfolding words_at
words_fit zero w at b = tt
words_fit (suc n) w at b = (u32_at_lt w at b, words_fit n w (at + 4) b)

-- packed, one after the other
pub words_packed : (n : ℕ) (w : List ℕ) (at : ℕ) → packed_words n w at ≡ each packed (words_at n w at)
unfolding words_at packed_words each
words_packed zero w at = refl
words_packed (suc n) w at = ap (λ (l : List ℕ). packed (u32_at w at) ++ l) (words_packed n w (at + 4))

-- and in four bytes each
pub words_little : (n : ℕ) (w : List ℕ) (at e : ℕ) → T (are_bytes w) → e ≡ at + 4 * n → e ≤ length w →
    part w at e ≡ each (little 4) (words_at n w at)
unfolding words_at each
words_little zero w at e b h k = let z : e ≡ at = omega arith in rw z (part_empty w at)
words_little (suc n) w at e b h k =
    sym (part_append w at (at + 4) e (omega arith) (omega arith))
    ∙ ap₂ ◌++◌ (little_of_u32_at w at b (omega arith)) (words_little n w (at + 4) e b (omega arith) k)

-- words that stand in four bytes each are read
pub words_stand : (ws : List ℕ) {w : List ℕ} {at : ℕ} {q : List ℕ} → All (λ v. v < 2 ^ 32) ws → Stands w at (each (little 4) ws) q →
    words_at (length ws) w at ≡ ws
unfolding words_at each
words_stand [] o x = refl
words_stand (v ∷ ws) {w} {at} {q} o x =
    let l = length_little 4 v in
    let f = stands_left (little 4 v) (each (little 4) ws) x in
    let g : Stands w (at + 4) (each (little 4) ws) q = rw l at (stands_right (little 4 v) (each (little 4) ws) x) in
    ap₂ ◌∷◌ (u32_at_back w (each (little 4) ws ++ q) at v f.inside f.here o.0) (words_stand ws o.1 g)

pub length_each_little : (ws : List ℕ) → length (each (little 4) ws) ≡ 4 * length ws
unfolding each
length_each_little [] = refl
length_each_little (v ∷ ws) =
    let l = length_little 4 v in
    let h = length_each_little ws in
    rw (length-append (little 4 v) (each (little 4) ws)) (omega arith)

each_little_bytes : (ws : List ℕ) → T (are_bytes (each (little 4) ws))
unfolding each
each_little_bytes [] = tt
each_little_bytes (v ∷ ws) = bytes_append (little 4 v) (each (little 4) ws) (little_bytes 4 v) (each_little_bytes ws)

-- ---- an identity

-- its bytes, from its count, authority and words
abbrev pub sid_bytes : ℕ → ℕ → List ℕ → List ℕ
sid_bytes n v ws = 1 ∷ n ∷ (big 6 v ++ each (little 4) ws)

pub sid_bytes_lem : (w : List ℕ) → Identity w → sid_bytes (byte_at w 1) (u48_be_at w 2) (words_at (byte_at w 1) w 8) ≡ w
sid_bytes_lem w o =
    let x = sid_shape w o.whole in
    let l = x.long in
    let n = byte_at w 1 in
    let a : part w 0 (length w) ≡ byte_at w 0 ∷ part w 1 (length w) = part_cons w 0 (length w) (omega arith) (omega arith) in
    let b : part w 1 (length w) ≡ byte_at w 1 ∷ part w 2 (length w) = part_cons w 1 (length w) (omega arith) (omega arith) in
    let c : part w 2 8 ++ part w 8 (length w) ≡ part w 2 (length w) = part_append w 2 8 (length w) (omega arith) (omega arith) in
    let d : part w 2 8 ≡ big 6 (u48_be_at w 2) = big_of_u48 w 2 o.bytes (omega arith) in
    let e : part w 8 (length w) ≡ each (little 4) (words_at (byte_at w 1) w 8) =
    words_little (byte_at w 1) w 8 (length w) o.bytes l (omega arith) in
    sym (sym (part_whole w) ∙ a ∙ ap₂ ◌∷◌ x.one (b ∙ ap (λ (l : List ℕ). byte_at w 1 ∷ l) (sym c ∙ ap₂ ◌++◌ d e)))

module _ (n v : ℕ) (ws : List ℕ) (long : length ws ≡ n) (few : n ≤ 15) (fits : v < 2 ^ 48) (each-Fits : All (λ x. x < 2 ^ 32) ws) where
  length_sid_bytes : length (sid_bytes n v ws) ≡ 8 + 4 * n
  length_sid_bytes =
      let a = length-append (big 6 v) (each (little 4) ws) in
      let b = length_big 6 v in
      let c = length_each_little ws in
      omega arith

  sid_bytes_identity : Identity (sid_bytes n v ws)
  sid_bytes_identity =
      record {
        whole = sid_of_shape (sid_bytes n v ws) (record { one = refl; few = few; long = length_sid_bytes });
        bytes = rw (lt-ltb n 256 (omega arith)) (bytes_append (big 6 v) (each (little 4) ws) (big_bytes 6 v) (each_little_bytes ws));
      }

  sid_bytes_words : words_at n (sid_bytes n v ws) 8 ≡ ws
  sid_bytes_words =
      let x : Stands (sid_bytes n v ws) 8 (each (little 4) ws) [] =
      record {
        inside = let l = length_sid_bytes in omega arith;
        here = drop_at (big 6 v) (each (little 4) ws) 6 (length_big 6 v) ∙ sym (append-nil (each (little 4) ws));
      } in
      ap (λ (m : ℕ). words_at m (sid_bytes n v ws) 8) (sym long) ∙ words_stand ws each-Fits x

  pack_sid_bytes : pack_identity (sid_bytes n v ws) ≡ packed n ++ (packed v ++ each packed ws)
  unfolding pack_identity
  pack_sid_bytes =
      let l = length_sid_bytes in
      let a : u48_be_at (sid_bytes n v ws) 2 ≡ v = u48_be_at_back (sid_bytes n v ws) (each (little 4) ws) 2 v (omega arith) refl fits in
      let b : packed_words n (sid_bytes n v ws) 8 ≡ each packed ws = words_packed n (sid_bytes n v ws) 8 ∙ ap (each packed) sid_bytes_words in
      ap₂ (λ (x : ℕ) (y : List ℕ). packed n ++ (packed x ++ y)) a b

pub packed_identity_kept : Kept packed_identity pack_identity Identity
unfolding packed_identity pack_identity
packed_identity_kept =
    record {
      back = λ w o {s} {at} {q} x.
          let n = byte_at w 1 in
          let v = u48_be_at w 2 in
          let ws = words_at (byte_at w 1) w 8 in
          let e : Stands s at (packed n ++ (packed v ++ each packed ws)) q = rw (words_packed (byte_at w 1) w 8) at x in
          let y = stands_right (packed n) (packed v ++ each packed ws) e in
          let d = sid_shape w o.whole in
          let f = d.few in
          let m : many (number 32) n s (at + length (packed n) + length (packed v)) ≡
          some ws (at + length (packed n) + length (packed v) + length (each packed ws)) =
          let r = many_back number_32 ws (words_fit (byte_at w 1) w 8 o.bytes) (stands_right (packed v) (each packed ws) y) in
          rw length_words at r in
          rw (
            number_32.back (byte_at w 1) (omega arith) (stands_left (packed n) (packed v ++ each packed ws) e),
            le-leb (byte_at w 1) 15 f,
            number_48.back (u48_be_at w 2) (u48_be_at_lt w 2 o.bytes) (stands_left (packed v) (each packed ws) y),
            m,
          )
          (ap₂ some (sid_bytes_lem w o)
          (length_three at (packed n) (packed v) (each packed ws)
          ∙ ap (λ (l : List ℕ). at + length (packed n ++ (packed v ++ l))) (sym (words_packed (byte_at w 1) w 8))));
      form = λ {s} {at} b i e.
          let x = bound _ _ _ _ e in
          let l = allowed (leb x.a 15) _ _ _ x.then in
          let y = bound _ _ _ _ l.1 in
          let z = bound _ _ _ _ y.then in
          let g = number_32.form b i x.first in
          let h = number_48.form b g.0.inside y.first in
          let j = many_form number_32 x.a b h.0.inside z.first in
          let few = leb-true _ _ l.0 in
          moved (λ w n. Formed s at n (pack_identity w) × Identity w) z.then (
            formed_same (sym (pack_sid_bytes x.a y.a z.a j.1 few h.1 j.2))
                (formed_append g.0 (formed_append h.0 j.0)),
            sid_bytes_identity x.a y.a z.a j.1 few h.1 j.2,
          );
    }

pub packed_format : Format packed_reader packed_writer
packed_format =
    record {
      flags = number_32;
      privileges = number_kept 64 (omega arith);
      count = number_32;
      attributes = number_32;
      identity = packed_identity_kept;
    }
