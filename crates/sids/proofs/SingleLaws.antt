-- Laws of SIDs of one word (specs: Sid), compared as three numbers of four bytes.
-- In order: the virtual identities are such (owner_rights_single, principal_self_single); its length and the number at each place
-- (length_single, single_first, single_authority, single_word); what has another length or another number is not it (single_long,
-- single_miss), and where all but the first are its own the first decides (single_test). Assumes nothing.
use Prim.Native.Nat.{ℕ, ◌^◌, ◌<◌}
use mathlib.Core.Path.{◌≡◌, refl, sym, ap, ap₂, ◌∙◌}
use mathlib.Core.List.{List, [], ◌++◌}
use mathlib.Core.Bool.{Bool, true, false}
use native.Mathlib.Omega.{arith}
use lib.Dec.{T, eqb}
use lib.Pow.{are_bytes}
use lib.ListN.{length}
use borrow.Author.Tests.{eqb-true, eqb-false}
use Rattle.base.specs.Bytes.{part, u32_at, same, little}
use Rattle.base.proofs.BytesLaws.{part_append, part_whole, same_false_of_ne, eq_same}
use Rattle.base.proofs.WordsLaws.{u32_at_little, little_of_u32_at}
use Rattle.sids.specs.Sid.{owner_rights, principal_self, single}

-- ---- the virtual identities

pub owner_rights_single : single 50331648 4 ≡ owner_rights
unfolding single little
owner_rights_single = refl

pub principal_self_single : single 83886080 10 ≡ principal_self
unfolding single little
principal_self_single = refl

-- ---- its numbers

module _ (a w : ℕ) where
  pub length_single : length (single a w) ≡ 12
  unfolding single little
  length_single = refl

  pub single_first : u32_at (single a w) 0 ≡ 257
  unfolding single
  single_first = u32_at_little [] (little 4 a ++ little 4 w) 257 (omega arith)

  pub single_authority : a < 2 ^ 32 → u32_at (single a w) 4 ≡ a
  unfolding single little
  single_authority h = u32_at_little (little 4 257) (little 4 w) a h

  pub single_word : w < 2 ^ 32 → u32_at (single a w) 8 ≡ w
  unfolding single little
  single_word h = u32_at_little (little 4 257 ++ little 4 a) [] w h

-- ---- equal to it

module _ (s : List ℕ) (a w : ℕ) where
  -- what differs in its length or in a number is another
  pub single_long : (length s ≡ 12 → ⊥) → same s (single a w) ≡ false
  single_long h = same_false_of_ne s (single a w) (λ e. h (ap length e ∙ length_single a w))

  pub single_miss : (at v : ℕ) → u32_at (single a w) at ≡ v → (u32_at s at ≡ v → ⊥) → same s (single a w) ≡ false
  single_miss at v p h = same_false_of_ne s (single a w) (λ e. h (ap (λ (l : List ℕ). u32_at l at) e ∙ p))

  single_is : T (are_bytes s) → length s ≡ 12 → u32_at s 0 ≡ 257 → u32_at s 4 ≡ a → u32_at s 8 ≡ w → s ≡ single a w
  unfolding single
  single_is b l f g h =
      let first = little_of_u32_at s 0 b (omega arith) ∙ ap (little 4) f in
      let second = little_of_u32_at s 4 b (omega arith) ∙ ap (little 4) g in
      let third = little_of_u32_at s 8 b (omega arith) ∙ ap (little 4) h in
      sym (part_whole s) ∙ ap (part s 0) l ∙ sym (part_append s 0 4 12 (omega arith) (omega arith))
      ∙ ap₂ ◌++◌ first (sym (part_append s 4 8 12 (omega arith) (omega arith)) ∙ ap₂ ◌++◌ second third)

-- where the other two are its own, the first number decides
module _ (s : List ℕ) (a w : ℕ) where
  pub single_test : T (are_bytes s) → length s ≡ 12 → u32_at s 4 ≡ a → u32_at s 8 ≡ w → eqb (u32_at s 0) 257 ≡ same s (single a w)
  single_test b l g h = go (eqb (u32_at s 0) 257) refl
    where
      go : (t : Bool) → eqb (u32_at s 0) 257 ≡ t → t ≡ same s (single a w)
      go true e = sym (eq_same s (single a w) (single_is s a w b l (eqb-true _ _ e) g h))
      go false e = sym (single_miss s a w 0 257 (single_first a w) (eqb-false _ _ e))
