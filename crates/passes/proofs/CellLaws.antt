-- A cell gives back what was put into it (specs: Chains). Assumes nothing.
use Prim.Native.Nat.{ℕ, ◌+◌, ◌-◌, ◌*◌, ◌/◌, ◌%◌, ◌<◌}
use mathlib.Core.Bool.{Bool, true, false, cond}
use mathlib.Core.List.{List}
use mathlib.Core.Path.{◌≡◌}
use native.Mathlib.Omega.{arith}
use borrow.Author.Tests.{eq-eqb, ne_eqb}
use lib.Dec.{eqb}
use Rattle.base.specs.Bytes.{part}
use Rattle.records.specs.Crowd.{Member}
use Rattle.passes.specs.Chains.{cell_of, from_in, to_in, next_in, allows_in, denies_in, last_in, member_in}

-- a bit of a cell as a number
abbrev once : Bool → ℕ
once b = cond b 1 0

once_lt : (b : Bool) → once b < 2
once_lt true = omega arith
once_lt false = omega arith

once_is : (b : Bool) (n : ℕ) → n ≡ once b → eqb n 1 ≡ b
once_is true n e = eq-eqb n 1 e
once_is false n e = ne_eqb n 1 (λ z. omega arith)

times : (b : Bool) (n : ℕ) → cond b n 0 ≡ n * once b
times true n = omega arith
times false n = omega arith

-- ---- six numbers side by side

module _ (f q h a d t : ℕ) (fs : f < 32768) (qs : q < 32) (hs : h < 512) (bs : a < 2) (ds : d < 2) (x : ℕ)
    (is : x ≡ f + 32768 * q + 1048576 * h + 536870912 * a + 1073741824 * d + 4294967296 * t) where
  first : x % 32768 ≡ f
  first = omega arith

  second : x / 32768 % 32 ≡ q
  second = omega arith

  third : x / 1048576 % 512 ≡ h
  third = omega arith

  fourth : x / 536870912 % 2 ≡ a
  fourth = omega arith

  fifth : x / 1073741824 % 2 ≡ d
  fifth = omega arith

  sixth : x / 4294967296 ≡ t
  sixth = omega arith

module _ (from to next : ℕ) (allows denies : Bool) (word q : ℕ) (low : from < 32768) (small : q < 32) (ends : to ≡ from + 4 * q)
    (few : next < 512) where
  abbrev made : ℕ
  made = cell_of from to next allows denies word

  cell_is : made ≡ from + 32768 * q + 1048576 * next + 536870912 * once allows + 1073741824 * once denies + 4294967296 * word
  cell_is =
      let p : from % 32768 ≡ from = omega arith in
      let r : (to - from) / 4 % 32 ≡ q = omega arith in
      let n : next % 512 ≡ next = omega arith in
      rw (p, r, n, times allows 536870912, times denies 1073741824)

  pub cell_from : from_in made ≡ from
  cell_from = first from q next (once allows) (once denies) word low small few (once_lt allows) (once_lt denies) _ cell_is

  pub cell_to : to_in made ≡ to
  cell_to =
      let f : made % 32768 ≡ from = cell_from in
      let s : made / 32768 % 32 ≡ q =
      second from q next (once allows) (once denies) word low small few (once_lt allows) (once_lt denies) _ cell_is in
      omega arith

  pub cell_next : next_in made ≡ next
  cell_next = third from q next (once allows) (once denies) word low small few (once_lt allows) (once_lt denies) _ cell_is

  cell_allows : allows_in made ≡ allows
  cell_allows =
      once_is allows _ (fourth from q next (once allows) (once denies) word low small few (once_lt allows) (once_lt denies) _ cell_is)

  cell_denies : denies_in made ≡ denies
  cell_denies =
      once_is denies _ (fifth from q next (once allows) (once denies) word low small few (once_lt allows) (once_lt denies) _ cell_is)

  pub cell_last : last_in made ≡ word
  cell_last = sixth from q next (once allows) (once denies) word low small few (once_lt allows) (once_lt denies) _ cell_is

  pub cell_member : (s : List ℕ) → ◌≡◌ {A = Member} (member_in s made)
      (record { sid = part s from to; allows = allows; denies = denies })
  cell_member s = rw (cell_to, cell_from, cell_allows, cell_denies)
