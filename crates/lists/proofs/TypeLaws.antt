-- Types of entries: callback ones, those that hold a mask and one SID, and those whose shape is judged. Assumes nothing.
use Prim.Native.Nat.{ℕ, ◌<◌, ◌≤◌}
use mathlib.Core.Path.{◌≡◌, refl}
use mathlib.Core.Bool.{true, false}
use native.Mathlib.Omega.{arith}
use lib.Dec.{eqb}
use borrow.Author.Tests.{lt-ltb, le-ltb, eq-eqb, ne_eqb}
use Rattle.lists.specs.Acl.{callback, named, audits, judges}

module _ (t : ℕ) where
  pub callback_nine : t ≡ 9 → callback t ≡ true
  unfolding callback
  callback_nine h = rw (eq-eqb t 9 h)

  pub callback_other : (t ≡ 9 → ⊥) → callback t ≡ eqb t 10
  unfolding callback
  callback_other h = rw (ne_eqb t 9 h)

  pub callback_low : t < 2 → callback t ≡ false
  unfolding callback
  callback_low h = rw (ne_eqb t 9 (λ q. omega arith), ne_eqb t 10 (λ q. omega arith))

  pub named_low : t < 2 → named t ≡ true
  unfolding named
  named_low h = rw (lt-ltb t 2 h)

  pub named_high : 2 ≤ t → named t ≡ callback t
  unfolding named
  named_high h = rw (le-ltb t 2 h)

  pub audits_low : t < 2 → audits t ≡ false
  unfolding audits
  audits_low h = ne_eqb t 2 (λ q. omega arith)

  pub judges_deep : judges true t ≡ named t
  unfolding judges
  judges_deep = refl

  pub judges_shallow : judges false t ≡ audits t
  unfolding judges
  judges_shallow = refl
