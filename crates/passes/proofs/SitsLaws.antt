-- Laws of one cell, as a search meets it (specs: Chains): whether its identity is the SID, and matches, by the last words first (sits_other,
-- sits_out, sits_idle, sits_same); and what a cell adds to those after it (joined_is). Assumes nothing.
use Prim.Native.Nat.{ℕ, ◌<◌, ◌≤◌}
use mathlib.Core.Bool.{Bool, true, false, cond, ◌&&◌, and-false}
use mathlib.Core.List.{List, ◌∷◌}
use mathlib.Core.Path.{◌≡◌, refl, sym, ap, ◌∙◌}
use borrow.Author.Tests.{lt-ltb, le-ltb}
use lib.Dec.{ltb, eqb}
use lib.ListN.{length}
use Rattle.base.proofs.BytesLaws.{same_eq}
use Rattle.base.specs.Bytes.{part, same}
use Rattle.records.specs.Crowd.{Member}
use Rattle.passes.specs.Chains.{from_in, to_in, last_in, allows_in, denies_in, member_in, holds_one, sits_in, joined}
use Rattle.seats.specs.Key.{last_of}
use Rattle.passes.specs.Matching.{among}

module _ (allow : Bool) (s : List ℕ) (x : ℕ) (w : List ℕ) where
  abbrev sid : List ℕ
  sid = part s (from_in x) (to_in x)

  abbrev side : Bool
  side = cond allow (allows_in x) (denies_in x)

  -- the SID's last word is another
  pub sits_other : eqb (last_in x) (last_of w) ≡ false → sits_in allow s x w ≡ false
  sits_other d = go (same sid w) refl
    where
      either : (b : Bool) → cond b false false ≡ false
      either true = refl
      either false = refl

      go : (b : Bool) → same sid w ≡ b → (holds_one s x && (b && side)) ≡ false
      go true e = rw (ap last_of (same_eq sid w e), d, either (ltb (length s) (to_in x)))
      go false e = and-false (holds_one s x)

  pub sits_out : length s < to_in x → sits_in allow s x w ≡ false
  sits_out h = rw (lt-ltb (length s) (to_in x) h)

  pub sits_idle : side ≡ false → sits_in allow s x w ≡ false
  sits_idle e = rw (e, and-false (same sid w), and-false (holds_one s x))

  pub sits_same : eqb (last_in x) (last_of w) ≡ true → to_in x ≤ length s → side ≡ true → same sid w ≡ sits_in allow s x w
  sits_same d h e = go (same sid w) refl
    where
      go : (b : Bool) → same sid w ≡ b → b ≡ (holds_one s x && (b && side))
      go true p = rw (le-ltb (length s) (to_in x) h, ap last_of (same_eq sid w p), d, e)
      go false p = sym (and-false (holds_one s x))

  -- the identity of a cell, then the others
  pub joined_is : (ms : List Member) → among allow (joined s x ms) w ≡ cond (sits_in allow s x w) true (among allow ms w)
  unfolding among
  joined_is ms = go (holds_one s x)
    where
      go : (b : Bool) → among allow (cond b (member_in s x ∷ ms) ms) w ≡ cond (b && (same sid w && side)) true (among allow ms w)
      go true = refl
      go false = refl

  pub joined_hit : (ms : List Member) → sits_in allow s x w ≡ true → among allow (joined s x ms) w ≡ true
  joined_hit ms e = joined_is ms ∙ rw e

  pub joined_miss : (ms : List Member) → sits_in allow s x w ≡ false → among allow (joined s x ms) w ≡ among allow ms w
  joined_miss ms e = joined_is ms ∙ rw e
