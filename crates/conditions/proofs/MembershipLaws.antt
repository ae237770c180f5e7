-- Laws of membership: the SIDs of a list one by one; `Meeting` is the invariant of the walk over them (meeting_start -stop -end -decided
-- -more); the four tests of membership (reply-..), what the latest operand is told (outcome_told), no
-- condition (admits_none), and no SID (none_told). Assumes nothing.
use Prim.Native.Nat.{ℕ, zero, suc, ◌+◌, ◌<◌, ◌≤◌}
use mathlib.Core.Path.{◌≡◌, refl, ap, ◌∙◌}
use mathlib.Core.List.{List, [], ◌∷◌}
use mathlib.Core.Bool.{Bool, true, false, not}
use native.Mathlib.Omega.{arith}
use lib.ListN.{length}
use borrow.Author.Tests.{eq-eqb, ne_eqb}
use Rattle.base.specs.Bytes.{part}
use Rattle.conditions.specs.Condition.{Item, literal_end, told_by, outcome_by}
use Rattle.conditions.specs.Condition.Item.{truth, sids}
use Rattle.conditions.specs.Membership.{sids_at, sids_of, all_of, any_of, meets, reply, told_of, outcome, admits}
use Rattle.conditions.proofs.OperandLaws.{enclosed_short, literal_none, literal_bounds}

-- ---- the SIDs of a list

sids_stop : (l : List ℕ) (n at : ℕ) → literal_end l at ≡ 0 → sids_at l n at ≡ []
unfolding sids_at
sids_stop l zero at h = refl
sids_stop l (suc n) at h = rw (eq-eqb (literal_end l at) 0 h)

sids_more : (l : List ℕ) (n at to : ℕ) → to ≡ literal_end l at → (to ≡ 0 → ⊥) → sids_at l (suc n) at ≡ part l (at + 5) to ∷ sids_at l n to
unfolding sids_at
sids_more l n at to q h = rw (q, ne_eqb (literal_end l at) 0 (λ z. h (q ∙ z)))

-- ---- the walk

module _ (f : List ℕ → Bool) where
  meets_none : (every : Bool) → meets f every [] ≡ every
  unfolding all_of any_of
  meets_none true = refl
  meets_none false = refl

  meets_decided : (every : Bool) (w : List ℕ) (l : List (List ℕ)) → f w ≡ not every → meets f every (w ∷ l) ≡ not every
  unfolding all_of any_of
  meets_decided true w l h = rw h
  meets_decided false w l h = rw h

  meets_more : (every : Bool) (w : List ℕ) (l : List (List ℕ)) → f w ≡ every → meets f every (w ∷ l) ≡ meets f every l
  unfolding all_of any_of
  meets_more true w l h = rw h
  meets_more false w l h = rw h

module _ (f : List ℕ → Bool) (every : Bool) (l : List ℕ) where
  -- the list is met as its literals from a place on are, in some number of steps that is enough for them
  abbrev pub Meeting : ℕ → Type 0
  Meeting at = (n : ℕ) × ((length l ≤ at + n) × (meets f every (sids_of l) ≡ meets f every (sids_at l n at)))

  pub meeting_start : Meeting 0
  unfolding sids_of
  meeting_start = (length l, (omega arith, refl))

  module _ (at : ℕ) where
    pub meeting_stop : Meeting at → literal_end l at ≡ 0 → meets f every (sids_of l) ≡ every
    meeting_stop (n, (k, e)) h = e ∙ ap (meets f every) (sids_stop l n at h) ∙ meets_none f every

    pub meeting_end : Meeting at → length l ≤ at → meets f every (sids_of l) ≡ every
    meeting_end m h = meeting_stop m (literal_none l at (enclosed_short l at (omega arith)))

    module _ (to : ℕ) (lt : at < length l) (q : to ≡ literal_end l at) (h : to ≡ 0 → ⊥) where
      pub meeting_decided : Meeting at → f (part l (at + 5) to) ≡ not every → meets f every (sids_of l) ≡ not every
      meeting_decided (zero, (k, e)) g = absurd (omega arith)
      meeting_decided (suc n, (k, e)) g =
          e ∙ ap (meets f every) (sids_more l n at to q h) ∙ meets_decided f every (part l (at + 5) to) (sids_at l n to) g

      pub meeting_more : Meeting at → f (part l (at + 5) to) ≡ every → Meeting to
      meeting_more (zero, (k, e)) g = absurd (omega arith)
      meeting_more (suc n, (k, e)) g =
          let b : (at + 5 ≤ literal_end l at) × (literal_end l at ≤ length l) = literal_bounds l at (λ z. h (q ∙ z)) in (
            n,
            (
              omega arith,
              e ∙ ap (meets f every) (sids_more l n at to q h) ∙ meets_more f every (part l (at + 5) to) (sids_at l n to) g,
            ),
          )

-- ---- the four tests of membership

module _ (f : List ℕ → Bool) (b : ℕ) (l : List (List ℕ)) where
  pub reply_all : b ≡ 0x89 → reply f b l ≡ meets f true l
  unfolding reply
  reply_all h = rw (eq-eqb b 0x89 h)

  pub reply_any : b ≡ 0x8b → reply f b l ≡ meets f false l
  unfolding reply
  reply_any h = rw (ne_eqb b 0x89 (λ q. omega arith), eq-eqb b 0x8b h)

  pub reply_not_all : b ≡ 0x90 → reply f b l ≡ not (meets f true l)
  unfolding reply
  reply_not_all h = rw (ne_eqb b 0x89 (λ q. omega arith), ne_eqb b 0x8b (λ q. omega arith), eq-eqb b 0x90 h)

  pub reply_not_any : (b ≡ 0x89 → ⊥) → (b ≡ 0x8b → ⊥) → (b ≡ 0x90 → ⊥) → reply f b l ≡ not (meets f false l)
  unfolding reply
  reply_not_any x y z = rw (ne_eqb b 0x89 x, ne_eqb b 0x8b y, ne_eqb b 0x90 z)

-- ---- the latest operand

-- one who replies by the SIDs of the list that is handed tells what the definition tells
told_by_reply : (f : List ℕ → Bool) (s : List ℕ) (b : ℕ) (st : List Item) →
    told_by (λ b l. reply f b (sids_of l)) s b st ≡ told_of f s b st
unfolding told_by told_of
told_by_reply f s b [] = refl
told_by_reply f s b (truth t ∷ st) = refl
told_by_reply f s b (sids a e ∷ st) = refl

pub outcome_told : (f : List ℕ → Bool) (s : List ℕ) → outcome_by (told_by (λ b l. reply f b (sids_of l)) s) s ≡ outcome f s
outcome_told f s = ap (λ (tell : ℕ → List Item → Bool). outcome_by tell s) (λ i b st. told_by_reply f s b st i)

-- ---- what admits

module _ (f : List ℕ → Bool) where
  pub admits_none : admits f [] ≡ true
  unfolding admits
  admits_none = refl

  -- of no SID: all of them are members, and none is
  pub none_told : (reply f 0x89 [] ≡ true) × (reply f 0x8b [] ≡ false) × (reply f 0x90 [] ≡ false) × (reply f 0x92 [] ≡ true)
  unfolding reply all_of any_of
  none_told = (refl, refl, refl, refl)
