-- The flat listing as a format: its numbers and its identities are read back and have one form (flat_format).
-- Assumes nothing.
use Prim.Native.Nat.{ℕ, ◌+◌, ◌*◌, ◌/◌, ◌%◌, ◌^◌, ◌<◌, ◌≤◌}
use mathlib.Core.Path.{◌≡◌, refl, sym, ap, ap₂, ◌∙◌}
use mathlib.Core.List.{List, ◌++◌}
use native.Mathlib.Omega.{arith}
use lib.Dec.{T, ltb, eqb}
use lib.Pow.{are_bytes}
use lib.ListN.{length}
use borrow.Author.Tests.{le-ltb, ltb-false, ne_eqb, eqb-false}
use Rattle.base.specs.Bytes.{u32_at, part, little}
use Rattle.base.specs.Bytes.Read.{some}
use Rattle.base.proofs.BytesLaws.{part_of_drop, bytes_part}
use Rattle.base.proofs.ValueLaws.{length_little, little_eight}
use Rattle.base.proofs.WordsLaws.{u32_at_lt, u32_at_back, little_of_u32_at}
use Rattle.base.proofs.PlaceLaws.{Stands, stands_end, stands_left, stands_right, Formed, formed_append, formed_same}
use Rattle.base.proofs.ReadLaws.{passed, moved}
use Rattle.sids.specs.Sid.{sid_end}
use Rattle.sids.proofs.SidLaws.{sid_end_bounds, sid_of_part, is_sid_long}
use Rattle.records.specs.Shaped.{Identity}
use Rattle.records.specs.FlatListing.{word, double_word, flat_identity, flat_reader, flat_writer}
use Rattle.records.proofs.FormatLaws.{Kept}
use Rattle.records.proofs.FieldsLaws.{Format}
use Rattle.records.proofs.IdentityLaws.{sid_end_stands}

-- ---- numbers

formed_word : (s : List ℕ) (at n : ℕ) → T (are_bytes s) → at + 4 ≡ n → n ≤ length s → Formed s at n (little 4 (u32_at s at))
formed_word s at n b e i =
    record { past = omega arith; inside = i; bytes = ap (part s at) (sym e) ∙ little_of_u32_at s at b (omega arith) }

pub word_kept : Kept word (little 4) (λ v. v < 2 ^ 32)
unfolding word
word_kept =
    record {
      back = λ v o {s} {at} {q} x.
          let l = length_little 4 v in
          let i = stands_end x in
          rw (le-ltb (length s) (at + 4) (omega arith), u32_at_back s q at v x.inside x.here o) (ap (some v) (omega arith));
      form = λ {s} {at} b i e.
          let p = passed (ltb (length s) (at + 4)) _ _ _ e in
          moved (λ v n. Formed s at n (little 4 v) × (v < 2 ^ 32)) p.1
          (formed_word s at (at + 4) b refl (ltb-false _ _ p.0), u32_at_lt s at b);
    }

pub double_word_kept : Kept double_word (little 8) (λ v. v < 2 ^ 64)
unfolding double_word
double_word_kept =
    record {
      back = λ v o {s} {at} {q} x.
          let a = little 4 (v % 4294967296) in
          let b = little 4 (v / 4294967296) in
          let d : v ≡ v % 4294967296 + 4294967296 * (v / 4294967296) = omega arith in
          let l = length_little 8 v in
          let m = length_little 4 (v % 4294967296) in
          let i = stands_end x in
          let y : Stands s at (a ++ b) q = rw (← little_eight (v % 4294967296) (v / 4294967296) (omega arith), ← d) x in
          let f = stands_left a b y in
          let g : Stands s (at + 4) b q = rw m at (stands_right a b y) in
          rw (
            le-ltb (length s) (at + 8) (omega arith),
            u32_at_back s (b ++ q) at (v % 4294967296) f.inside f.here (omega arith),
            u32_at_back s q (at + 4) (v / 4294967296) g.inside g.here (omega arith),
          )
          (ap₂ some (omega arith) (omega arith));
      form = λ {s} {at} b i e.
          let p = passed (ltb (length s) (at + 8)) _ _ _ e in
          let j : at + 8 ≤ length s = ltb-false _ _ p.0 in
          let l = u32_at_lt s at b in
          let h = u32_at_lt s (at + 4) b in
          moved (λ v n. Formed s at n (little 8 v) × (v < 2 ^ 64)) p.1 (
            formed_same (sym (little_eight (u32_at s at) (u32_at s (at + 4)) l))
                (formed_append (formed_word s at (at + 4) b refl (omega arith)) (formed_word s (at + 4) (at + 8) b (omega arith) j)),
            omega (arith, l, h),
          );
    }

-- ---- identities

pub flat_identity_kept : Kept flat_identity (λ w. w) Identity
unfolding flat_identity
flat_identity_kept =
    record {
      back = λ w o {s} {at} {q} x.
          let e = sid_end_stands o.whole x in
          let l = is_sid_long w o.whole in
          rw (e, ne_eqb (at + length w) 0 (λ z. omega (arith, l)), part_of_drop s w q at x.here);
      form = λ {s} {at} b i e.
          let p = passed (eqb (sid_end s at) 0) _ _ _ e in
          let h : (sid_end s at ≡ 0 → ⊥) = eqb-false _ _ p.0 in
          let k = sid_end_bounds s at h in
          moved (λ w n. Formed s at n w × Identity w) p.1 (
            record { past = omega (arith, k.0); inside = k.1; bytes = refl },
            record { whole = sid_of_part s at (sid_end s at) refl h; bytes = bytes_part s at (sid_end s at) b },
          );
    }

pub flat_format : Format flat_reader flat_writer
flat_format =
    record {
      flags = word_kept;
      privileges = double_word_kept;
      count = word_kept;
      attributes = word_kept;
      identity = flat_identity_kept;
    }
