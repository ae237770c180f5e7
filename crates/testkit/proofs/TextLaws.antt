-- Laws of words, lines, and of bytes in pairs of digits.
-- In order: `found_none found_some is_found after_none`, words at a place; `next_past next_in_lem line_found line_open`, a line from a place on; `under_none under_some`, a value that is told or not;
-- `front`, what is left of a text read in place; `fill_start`, before the first turn of `filled`; `fill_full fill_end
-- fill_done fill_short fill_bad fill_more`, one for each way through a turn.
-- Assumes nothing.
use Prim.Native.Nat.{ℕ, suc, ◌+◌, ◌-◌, ◌*◌, ◌≤◌, ◌<◌}
use mathlib.Core.Path.{◌≡◌, refl, ap, ◌∙◌}
use mathlib.Core.List.{List, [], ◌∷◌}
use mathlib.Core.Bool.{Bool, true, false, cond, not}
use native.Mathlib.Omega.{arith}
use borrow.Author.Tests.{le-leb, lt-leb, lt-ltb, le-ltb, eq-eqb, ne_eqb, ltb-true, ltb-false, eqb-true}
use lib.Dec.{eqb, ltb}
use lib.ListN.{length, take, drop, set, get_or}
use Rattle.std.specs.Prelude.{Option, Some, None, is_some, min, ◌==◌}
use Rattle.std.specs.List.{position, position_or_len}
use Rattle.std.proofs.lemmas.List.{get_or-drop}
use Rattle.std.proofs.Common.{length-drop}
use Rattle.std.proofs.lemmas.List.{take_all}
use Rattle.base.specs.Bytes.{byte_at}
use Rattle.testkit.specs.Text.{no_place, found, after, under, line_length, next_line, byte_of, unfilled, good, filled}

pub found_none : (n : ℕ) → None ≡ found n → n ≡ no_place
found_none n h = go (eqb n no_place) refl h
  where
    go : (v : Bool) → eqb n no_place ≡ v → None ≡ cond v None (Some n) → n ≡ no_place
    go true e h = eqb-true n no_place e
    go false e h = cc

pub found_some : (n v : ℕ) → Some v ≡ found n → v ≡ n
found_some n v h = go (eqb n no_place) h
  where
    go : (b : Bool) → Some v ≡ cond b None (Some n) → v ≡ n
    go true h = cc
    go false h = cc

pub is_found : (n : ℕ) → is_some (found n) ≡ not (eqb n no_place)
is_found n = go (eqb n no_place)
  where
    go : (b : Bool) → is_some (cond b None (Some n)) ≡ not b
    go true = refl
    go false = refl

pub after_none : (text words : List ℕ) → length text < no_place + length words → after text no_place words ≡ no_place
unfolding after
after_none text words h = rw (lt-leb (no_place + length words) (length text) h)

pub next_past : (s : List ℕ) (at : ℕ) → length s ≤ at → next_line s at ≡ length s
unfolding next_line
next_past s at h = rw (le-ltb at (length s) h)

pub next_in_lem : (s : List ℕ) (at : ℕ) → at < length s → next_line s at ≡ at + line_length (drop at s)
unfolding next_line
next_in_lem s at h = rw (lt-ltb at (length s) h)

step : (b n p l : ℕ) → n ≡ min (p + 1) l → cond (eqb b 10) 1 (suc n) ≡ min (cond (not (eqb b 10)) (1 + p) 0 + 1) (suc l)
step b n p l h = go (eqb b 10)
  where
    go : (v : Bool) → cond v 1 (suc n) ≡ min (cond (not v) (1 + p) 0 + 1) (suc l)
    go true = omega arith
    go false = omega (arith, h)

-- a line ends with the first line end, or with the text
line_least : (s : List ℕ) → line_length s ≡ min (position_or_len (λ b. b == 10) s + 1) (length s)
unfolding line_length
line_least [] = omega arith
line_least (b ∷ s) = step b (line_length s) (position_or_len (λ b. b == 10) s) (length s) (line_least s)

at_some : (p l k : ℕ) → Some k ≡ cond (ltb p l) (Some p) None → (k ≡ p) × (p < l)
at_some p l k h = go (ltb p l) refl h
  where
    go : (v : Bool) → ltb p l ≡ v → Some k ≡ cond v (Some p) None → (k ≡ p) × (p < l)
    go true e h = (cc, ltb-true p l e)
    go false e h = cc

at_none : (p l : ℕ) → None ≡ cond (ltb p l) (Some p) None → l ≤ p
at_none p l h = go (ltb p l) refl h
  where
    go : (v : Bool) → ltb p l ≡ v → None ≡ cond v (Some p) None → l ≤ p
    go true e h = cc
    go false e h = ltb-false p l e

pub line_found : (s : List ℕ) (k : ℕ) → Some k ≡ position (λ b. b == 10) s → line_length s ≡ k + 1
line_found s k h =
    let p = at_some (position_or_len (λ b. b == 10) s) (length s) k h in omega (arith, line_least s, p.0, p.1)

pub line_open : (s : List ℕ) → None ≡ position (λ b. b == 10) s → line_length s ≡ length s
line_open s h = omega (arith, line_least s, at_none (position_or_len (λ b. b == 10) s) (length s) h)

-- a text from a place on, as the code reads it
pub whole_rest : (i : ℕ) (s : List ℕ) → take (length s - i) (drop i s) ≡ drop i s
whole_rest i s = take_all (length s - i) (drop i s) (omega (arith, length-drop i s))

pub under_some : (most n v : ℕ) → Some v ≡ under most n → (v ≡ n) × (n < most)
under_some most n v h = at_some n most v h

pub under_none : (most n : ℕ) → None ≡ under most n → most ≤ n
under_none most n h = at_none n most h

pub front :
    (text rest : List ℕ) (i : ℕ) → rest ≡ drop i text
    → (byte_at text i ≡ get_or rest 0 0) × (byte_at text (i + 1) ≡ get_or rest 1 0) × (length rest ≡ length text - i)
front text rest i e =
    let h : i + 0 ≡ i = omega arith in (
      rw (e, get_or-drop i text 0 0, h),
      rw (e, get_or-drop i text 1 0),
      rw e (length-drop i text),
    )

pub fill_start : (text out : List ℕ) (stop : ℕ) → filled text stop (length out) out 0 0 ≡ filled text stop (length out - 0) out 0 0
fill_start text out stop = let e : length out ≡ length out - 0 = omega arith in ap (λ (k : ℕ). filled text stop k out 0 0) e

module _ (text out : List ℕ) (stop room less n i : ℕ) where
  pub fill_full : room ≡ 0 → filled text stop room out n i ≡ unfilled out
  unfolding filled
  fill_full e = rw e

  pub fill_end : room ≡ suc less → length text ≤ i → filled text stop room out n i ≡ unfilled out
  unfolding filled
  fill_end e h = rw (e, le-leb (length text) i h)

  pub fill_done : room ≡ suc less → i < length text → byte_at text i ≡ stop → filled text stop room out n i ≡ good n out
  unfolding filled
  fill_done e h q = rw (e, lt-leb (length text) i h, eq-eqb (byte_at text i) stop q)

  pub fill_short :
      room ≡ suc less → i < length text → (byte_at text i ≡ stop → ⊥) → length text - i < 2 → filled text stop room out n i ≡ unfilled out
  unfolding filled
  fill_short e h q l = rw (e, lt-leb (length text) i h, ne_eqb (byte_at text i) stop q, lt-ltb (length text - i) 2 l)

  pub fill_bad :
      room ≡ suc less → i < length text → (byte_at text i ≡ stop → ⊥) → 2 ≤ length text - i
      → 255 < byte_of (byte_at text i) (byte_at text (i + 1)) → filled text stop room out n i ≡ unfilled out
  unfolding filled
  fill_bad e h q l b =
      rw (
        e,
        lt-leb (length text) i h,
        ne_eqb (byte_at text i) stop q,
        le-ltb (length text - i) 2 l,
        lt-ltb 255 (byte_of (byte_at text i) (byte_at text (i + 1))) b,
      )

  pub fill_more :
      (v : ℕ) → v ≡ byte_of (byte_at text i) (byte_at text (i + 1)) → room ≡ suc less → i < length text → (byte_at text i ≡ stop → ⊥)
      → 2 ≤ length text - i → v ≤ 255 → filled text stop room out n i ≡ filled text stop less (set out n v) (n + 1) (i + 2)
  unfolding filled
  fill_more v p e h q l b =
      rw (
        p,
        e,
        lt-leb (length text) i h,
        ne_eqb (byte_at text i) stop q,
        le-ltb (length text - i) 2 l,
        le-ltb 255 (byte_of (byte_at text i) (byte_at text (i + 1))) (omega arith),
      )
