-- Laws of the key (specs: Key): it is below 512; the pairs of words that are left, in a walk over them. And of the last word.
-- Assumes nothing.
use Prim.Native.Nat.{ℕ, suc, ◌+◌, ◌-◌, ◌/◌, ◌<◌, ◌≤◌}
use mathlib.Core.List.{List}
use mathlib.Core.Path.{◌≡◌}
use native.Mathlib.Nat.{mod-lt}
use native.Mathlib.Omega.{arith}
use borrow.Author.Tests.{lt-ltb, le-ltb}
use lib.ListN.{length}
use Rattle.base.specs.Bits.{differ}
use Rattle.base.specs.Bytes.{u32_at, u64_at}
use Rattle.seats.specs.Key.{mixed_from, mixed, key_of, last_of}

pub key_lt : (w : List ℕ) → key_of w < 512
unfolding key_of
key_lt w = mod-lt _ (omega arith)

-- ---- all words in one number, by each way of the code

-- the pairs from a place up to another
abbrev pub Mixing : List ℕ → ℕ → ℕ → ℕ → ℕ
Mixing w k at x = mixed_from w ((k - at + 7) / 8) at x

module _ (w : List ℕ) where
  pub mixed_short : length w < 8 → mixed w ≡ 0
  unfolding mixed
  mixed_short h = rw (lt-ltb (length w) 8 h)

  module _ (k : ℕ) (long : k + 8 ≡ length w) where
    pub mixed_start : (x : ℕ) → x ≡ u64_at w k → mixed w ≡ Mixing w k 8 x
    unfolding mixed
    mixed_start x e =
        let z : length w - 8 ≡ k = omega arith in
        rw (le-ltb (length w) 8 (omega arith), z, e)

    pub mixed_more : (at x : ℕ) → at < k → Mixing w k at x ≡ Mixing w k (at + 8) (differ x (u64_at w at))
    unfolding mixed_from
    mixed_more at x h =
        let n : (k - at + 7) / 8 ≡ suc ((k - (at + 8) + 7) / 8) = omega arith in
        rw n

    pub mixed_end : (at x : ℕ) → k ≤ at → Mixing w k at x ≡ x
    unfolding mixed_from
    mixed_end at x h =
        let n : (k - at + 7) / 8 ≡ 0 = omega arith in
        rw n

-- ---- the last word

module _ (w : List ℕ) where
  pub last_none : length w < 4 → last_of w ≡ 0
  unfolding last_of
  last_none h = rw (lt-ltb (length w) 4 h)

  pub last_some : 4 ≤ length w → last_of w ≡ u32_at w (length w - 4)
  unfolding last_of
  last_some h = rw (le-ltb (length w) 4 h)
