-- The numbers of the parts, from the table's own conditions: descriptor_number_is (6, 7, 8) and policy_number_is (9, 10).
-- The idea: a part's verdict is a row of tests; a table of their values is closed by computation. Assumes nothing.
use Prim.Native.Nat.{ℕ}
use mathlib.Core.Path.{◌≡◌, refl}
use mathlib.Core.List.{List, [], ◌∷◌}
use mathlib.Core.Bool.{Bool, true, false, cond, not, ◌&&◌, ◌||◌}
use native.Mathlib.Omega.{arith}
use lib.ListN.{length}
use lib.Dec.{ltb, eqb}
use borrow.Author.Tests.{eqb-true}
use Rattle.base.specs.Bytes.{byte_at, u32_at}
use Rattle.sids.specs.Sid.{sid_end}
use Rattle.lists.specs.Descriptor as descriptor
use Rattle.lists.specs.Descriptor.{
  heading,
  sid_piece,
  owner_piece,
  group_piece,
  sacl_piece,
  dacl_piece,
  bad,
  absent,
  alien,
  refused_parts,
  whole_parts,
  judged,
  parts_of,
}
use Rattle.lists.specs.Descriptor.{Parts}
use Rattle.lists.specs.Descriptor.{Piece}
use Rattle.lists.specs.Descriptor.Verdict.{Misshapen, Ownerless, ForeignEntry}
use Rattle.policy.specs.Policy as policy
use Rattle.policy.specs.Policy.{rules_shaped, rules_unread, standing, standing_of}
use Rattle.policy.specs.Standing.Standing.{Sound, Misshapen as Unshaped}
use Rattle.access.specs.Status.{descriptor_number, policy_number}
use Rattle.demands.specs.Conditions.{◌when◌, lowest, descriptor_misshapen, ownerless, foreign_dacl, policy_misshapen, policy_unread}

-- ---- the descriptor

-- an owner is absent exactly where its offset is 0
absent_is : (d : List ℕ) (off : ℕ) → absent (sid_piece d off) ≡ eqb off 0
unfolding sid_piece
absent_is d off = go (eqb off 0) (ltb off 20) (eqb (sid_end d off) 0)
  where
    go : (x y z : Bool) → absent (cond x Piece.Absent (cond y Piece.Bad (cond z Piece.Bad (Piece.At off (sid_end d off))))) ≡ x
    go true y z = refl
    go false true z = refl
    go false false true = refl
    go false false false = refl

module _ (whole : Parts) (sound : descriptor.number_of whole.verdict ≡ 0) where
  verdict : (h o g s a n f : Bool) → Parts
  verdict h o g s a n f =
      cond h
      (cond o (refused_parts Misshapen)
      (cond g (refused_parts Misshapen)
      (cond s (refused_parts Misshapen)
      (cond a (refused_parts Misshapen) (cond n (refused_parts Ownerless) (cond f (refused_parts ForeignEntry) whole))))))
      (refused_parts Misshapen)

  verdict_number : (h o g s a n f : Bool) →
      descriptor.number_of (verdict h o g s a n f).verdict ≡ lowest ((6 when (not h || o || g || s || a)) ∷ (7 when n) ∷ (8 when f) ∷ [])
  unfolding descriptor.number_of verdict lowest
  verdict_number false o g s a n f = refl
  verdict_number true true g s a n f = refl
  verdict_number true false true s a n f = refl
  verdict_number true false false true a n f = refl
  verdict_number true false false false true n f = refl
  verdict_number true false false false false true f = refl
  verdict_number true false false false false false true = refl
  verdict_number true false false false false false false = sound

pub descriptor_number_is : (d : List ℕ) →
    descriptor_number d ≡ lowest ((6 when descriptor_misshapen d) ∷ (7 when ownerless d) ∷ (8 when foreign_dacl d) ∷ [])
unfolding descriptor.number_of parts_of judged verdict descriptor_misshapen ownerless foreign_dacl
descriptor_number_is d =
    rw (← absent_is d (u32_at d 4))
    (verdict_number (whole_parts (owner_piece d) (group_piece d) (sacl_piece d) (dacl_piece d)) refl (heading d) (bad (owner_piece d))
    (bad (group_piece d)) (bad (sacl_piece d)) (bad (dacl_piece d)) (absent (owner_piece d)) (alien (dacl_piece d)))

-- ---- the policy

-- no rule of an empty policy is read
unread_empty : (p : List ℕ) → length p ≡ 0 → rules_unread p (u32_at p 1) 5 ≡ false
unfolding rules_unread u32_at
unread_empty p e = rw e

standing_number : (e l s v m w u : Bool) → (e ≡ true → u ≡ false) →
    policy.number_of (cond e Sound (cond l Unshaped (cond s Unshaped (cond v (cond m Unshaped (standing w u)) Unshaped))))
    ≡ lowest ((9 when not e && (l || s || not v || m || not w)) ∷ (10 when u) ∷ [])
unfolding policy.number_of lowest
standing_number true l s v m w true h = let z = h refl in let c : ◌≡◌ {A = ℕ} 0 1 = cc in absurd (omega arith)
standing_number true l s v m w false h = refl
standing_number false true s v m w u h = refl
standing_number false false true v m w u h = refl
standing_number false false false false m w u h = refl
standing_number false false false true true w u h = refl
standing_number false false false true false false u h = refl
standing_number false false false true false true true h = refl
standing_number false false false true false true false h = refl

pub policy_number_is : (p : List ℕ) → policy_number p ≡ lowest ((9 when policy_misshapen p) ∷ (10 when policy_unread p) ∷ [])
unfolding standing_of policy_misshapen policy_unread
policy_number_is p =
    standing_number (eqb (length p) 0) (ltb 262144 (length p)) (ltb (length p) 5) (eqb (byte_at p 0) 1) (ltb 256 (u32_at p 1))
    (rules_shaped p (u32_at p 1) 5) (rules_unread p (u32_at p 1) 5) (λ e. unread_empty p (eqb-true (length p) 0 e))
