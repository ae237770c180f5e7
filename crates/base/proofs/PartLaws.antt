-- Bytes of a part, by their places in the whole: one byte (byte_of_part), a number of two bytes (u16_of_part).
-- Not here: a part as a whole, BytesLaws. Assumes nothing.
use Prim.Native.Nat.{ℕ, ◌+◌, ◌-◌, ◌*◌, ◌<◌, ◌≤◌}
use mathlib.Core.Path.{◌≡◌, sym, ap, ap₂, ◌∙◌}
use mathlib.Core.List.{List}
use native.Mathlib.Omega.{arith}
use lib.ListN.{length, drop}
use lib.Seq.{get_or-take, get_or-drop}
use Rattle.base.specs.Bytes.{byte_at, u16_at, part}
use Rattle.base.proofs.BytesLaws.{length_part}
use Rattle.base.proofs.WordsLaws.{u16_at_in}

pub byte_of_part : (s : List ℕ) (a e i : ℕ) → a + i < e → byte_at (part s a e) i ≡ byte_at s (a + i)
byte_of_part s a e i h = get_or-take (e - a) (drop a s) i 0 (omega arith) ∙ get_or-drop a s i 0

pub u16_of_part : (s : List ℕ) (a e i : ℕ) → a + i + 2 ≤ e → e ≤ length s → u16_at (part s a e) i ≡ u16_at s (a + i)
u16_of_part s a e i h k =
    let n : length (part s a e) ≡ e - a = length_part s a e (omega arith) k in
    let p : a + (i + 1) ≡ a + i + 1 = omega arith in
    u16_at_in (part s a e) i (omega arith)
    ∙ ap₂
    (λ (x y : ℕ). x + 256 * y)
    (byte_of_part s a e i (omega arith))
    (byte_of_part s a e (i + 1) (omega arith) ∙ ap (byte_at s) p)
    ∙ sym (u16_at_in s (a + i) (omega arith))
