-- Bytes at a place of a list. `Stands s at w q` says that w stands there and q after it; `Formed s at n w` that the bytes up to n are w.
-- In order: what stands (stands_left stands_end stands_right stands_whole), places after a sequence (length_two length_three
-- length_four), what was read (formed_none formed_append formed_same). Assumes nothing.
use Prim.Native.Nat.{ℕ, ◌+◌, ◌≤◌}
use mathlib.Core.Path.{◌≡◌, sym, ap, ap₂, ◌∙◌}
use mathlib.Core.List.{List, [], ◌++◌, append_assoc, append-nil}
use native.Mathlib.Omega.{arith}
use lib.ListN.{length, drop, length-append, length-drop}
use lib.Seq.{drop-drop, drop-append_seam}
use Rattle.base.specs.Bytes.{part}
use Rattle.base.proofs.BytesLaws.{part_append, part_empty}

-- ---- bytes that stand at a place

-- w stands at a place of s, and q after it
pub record Stands (s : List ℕ) (at : ℕ) (w q : List ℕ) : Type 0 where
  pub inside : at ≤ length s
  pub here : drop at s ≡ w ++ q

pub stands_left : {s : List ℕ} {at : ℕ} (v w : List ℕ) {q : List ℕ} → Stands s at (v ++ w) q → Stands s at v (w ++ q)
stands_left v w {q} x = record { inside = x.inside; here = x.here ∙ append_assoc v w q }

pub stands_end : {s : List ℕ} {at : ℕ} {w q : List ℕ} → Stands s at w q → at + length w ≤ length s
stands_end {s} {at} {w} {q} x =
    let e = sym (length-drop at s) ∙ ap length x.here ∙ length-append w q in
    omega (arith, e, x.inside)

pub stands_right : {s : List ℕ} {at : ℕ} (v w : List ℕ) {q : List ℕ} → Stands s at (v ++ w) q → Stands s (at + length v) w q
stands_right {s} {at} v w {q} x =
    let y = stands_left v w x in
    record {
      inside = stands_end y;
      here = sym (drop-drop (length v) at s) ∙ ap (drop (length v)) y.here ∙ drop-append_seam v (w ++ q);
    }

-- the whole of a list stands at its start
pub stands_whole : (w : List ℕ) → Stands w 0 w []
stands_whole w = record { inside = omega arith; here = sym (append-nil w) }

-- places after a sequence of two, three and four
pub length_two : (at : ℕ) (a b : List ℕ) → at + length a + length b ≡ at + length (a ++ b)
length_two at a b = rw (length-append a b) (omega arith)

pub length_three : (at : ℕ) (a b c : List ℕ) → at + length a + length b + length c ≡ at + length (a ++ (b ++ c))
length_three at a b c = rw (length-append a (b ++ c), length-append b c) (omega arith)

pub length_four : (at : ℕ) (a b c d : List ℕ) → at + length a + length b + length c + length d ≡ at + length (a ++ (b ++ (c ++ d)))
length_four at a b c d = rw (length-append a (b ++ (c ++ d)), length-append b (c ++ d), length-append c d) (omega arith)

-- ---- the form of what is read

-- the bytes from a place up to another are w
pub record Formed (s : List ℕ) (at n : ℕ) (w : List ℕ) : Type 0 where
  pub past : at ≤ n
  pub inside : n ≤ length s
  pub bytes : part s at n ≡ w

pub formed_none : (s : List ℕ) (at : ℕ) → at ≤ length s → Formed s at at []
formed_none s at i = record { past = omega arith; inside = i; bytes = part_empty s at }

pub formed_append : {s : List ℕ} {a b e : ℕ} {v w : List ℕ} → Formed s a b v → Formed s b e w → Formed s a e (v ++ w)
formed_append {s} {a} {b} {e} x y =
    record {
      past = omega (arith, x.past, y.past);
      inside = y.inside;
      bytes = sym (part_append s a b e x.past y.past) ∙ ap₂ ◌++◌ x.bytes y.bytes;
    }

pub formed_same : {s : List ℕ} {a b : ℕ} {v w : List ℕ} → v ≡ w → Formed s a b v → Formed s a b w
formed_same e x = record { past = x.past; inside = x.inside; bytes = x.bytes ∙ e }
