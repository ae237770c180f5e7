-- How long the trail of a question file may be: never more than 9/16 of its bytes (file_trail_bound), and so at most 36864 bytes
-- (file_trail_most). Before that: descriptor and policy stand in the file (InFile, question_inside).
-- Assumes nothing.
use Prim.Native.Nat.{ℕ, ◌+◌, ◌*◌, ◌≤◌}
use mathlib.Core.Path.{◌≡◌, refl}
use mathlib.Core.List.{List}
use mathlib.Core.Bool.{Bool, true, false, cond}
use native.Mathlib.Omega.{arith}
use lib.Dec.{T, ltb, leb, eqb}
use lib.Pow.{are_bytes}
use lib.ListN.{length}
use borrow.Author.Tests.{ltb-false, leb-true}
use Rattle.base.specs.Bytes.{Read, bind, only, part}
use Rattle.base.specs.Bytes.Read.{none, some}
use Rattle.base.specs.Sevens.{number}
use Rattle.base.proofs.BytesLaws.{length_part, bytes_part}
use Rattle.base.proofs.ReadLaws.{bound, allowed, moved}
use Rattle.base.proofs.SevensLaws.{number_bounds}
use Rattle.access.specs.Status.{Question}
use Rattle.access.specs.Reported.{refusal}
use Rattle.questions.specs.QuestionFile.{blob_at, question_of, reporting, file_report}
use Rattle.demands.proofs.TrailBoundLaws.{trail_bound}

-- ---- the parts of a file

-- a part of a file, read from a place up to another: its bytes stand between them
record BlobAt (s : List ℕ) (at : ℕ) (w : List ℕ) (e : ℕ) : Type 0 where
  after : at + length w ≤ e
  inside : e ≤ length s
  bytes : T (are_bytes s) → T (are_bytes w)

blob_at_lem : (s : List ℕ) (at : ℕ) (w : List ℕ) (e : ℕ) → blob_at s at ≡ some w e → BlobAt s at w e
unfolding blob_at
blob_at_lem s at w e h =
    let b = bound (number 32 s at) (λ n a. only (leb (a + n) (length s)) (some (part s a (a + n)) (a + n))) w e h in
    let i = number_bounds 32 s at b.a b.next b.first in
    let o = allowed (leb (b.next + b.a) (length s)) (some (part s b.next (b.next + b.a)) (b.next + b.a)) w e b.then in
    let k : b.next + b.a ≤ length s = leb-true _ _ o.0 in
    let m = length_part s b.next (b.next + b.a) (omega arith) k in
    moved (λ (x : List ℕ) (y : ℕ). BlobAt s at x y) o.1
    (record { after = omega (arith, i.0, m); inside = k; bytes = bytes_part s b.next (b.next + b.a) })

-- descriptor and policy stand in the file one after the other
pub record InFile (s : List ℕ) (q : Question) : Type 0 where
  pub long : length q.descriptor + length q.policy ≤ length s
  pub descriptor : T (are_bytes s) → T (are_bytes q.descriptor)
  pub policy : T (are_bytes s) → T (are_bytes q.policy)

-- from the descriptor on
module _ (s : List ℕ) (kind mask : ℕ) (token self : List ℕ) where
  abbrev posing : List ℕ → List ℕ → Question
  posing d p = record { kind = kind; mask = mask; token = token; self = self; descriptor = d; policy = p }

  ends_inside : (at : ℕ) (q : Question) (e : ℕ) →
      bind (blob_at s at) (λ d x. bind (blob_at s x) (λ p y. only (eqb y (length s)) (some (posing d p) y))) ≡ some q e → InFile s q
  ends_inside at q e h =
      let d = bound (blob_at s at) (λ d x. bind (blob_at s x) (λ p y. only (eqb y (length s)) (some (posing d p) y))) q e h in
      let p = bound (blob_at s d.next) (λ p y. only (eqb y (length s)) (some (posing d.a p) y)) q e d.then in
      let o = allowed (eqb p.next (length s)) (some (posing d.a p.a) p.next) q e p.then in
      let x : BlobAt s at d.a d.next = blob_at_lem s at d.a d.next d.first in
      let y : BlobAt s d.next p.a p.next = blob_at_lem s d.next p.a p.next p.first in
      moved (λ (z : Question) (n : ℕ). InFile s z) o.1
      (record { long = omega (arith, x.after, y.after, y.inside); descriptor = x.bytes; policy = y.bytes })

pub question_inside : (s : List ℕ) (q : Question) (e : ℕ) → question_of s ≡ some q e → InFile s q
unfolding question_of
question_inside s q e h =
    let k = bound (number 32 s 0) _ q e h in
    let m = bound (number 32 s k.next) _ q e k.then in
    let t = bound (blob_at s m.next) _ q e m.then in
    let i = bound (blob_at s t.next) _ q e t.then in
    ends_inside s k.a m.a t.a i.a i.next q e i.then

-- ---- the trail

pub file_trail_bound : (s : List ℕ) → T (are_bytes s) → 16 * length (file_report s).trail ≤ 9 * length s
unfolding file_report
file_trail_bound s b = go (ltb 65536 (length s)) (question_of s) refl
  where
    go : (t : Bool) (r : Read Question) → question_of s ≡ r → 16 * length (cond t (refusal 12) (reporting r)).trail ≤ 9 * length s
    go true r e = omega arith
    go false none e = omega arith
    go false (some q n) e =
        let i : InFile s q = question_inside s q n e in
        let z = trail_bound q (i.descriptor b) (i.policy b) in
        omega (arith, z, i.long)

-- "above 65,536 bytes" a file is refused
pub file_trail_most : (s : List ℕ) → T (are_bytes s) → length (file_report s).trail ≤ 36864
unfolding file_report
file_trail_most s b = go (ltb 65536 (length s)) refl (file_trail_bound s b)
  where
    go : (t : Bool) → ltb 65536 (length s) ≡ t →
        16 * length (cond t (refusal 12) (reporting (question_of s))).trail ≤ 9 * length s →
        length (cond t (refusal 12) (reporting (question_of s))).trail ≤ 36864
    go true e k = omega arith
    go false e k = let z : length s ≤ 65536 = ltb-false _ _ e in omega (arith, k, z)
