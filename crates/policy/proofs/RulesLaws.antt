-- What the rules of a policy come to. In order: rules after rules (ruled_append); bit by bit, what is left (left_bit, left_bit_all) and
-- where staging differs (differ_bit); whether a rule that applies has a SACL (audits_some, staged_audits_some); one rule more never adds a
-- bit (ruled_within); masks of 32 bits (ruled_left_lt, result_lt, ruled_differ_lt); crowds among whom the same SIDs match are left the same
-- (ruled_alike). Assumes nothing.
use Prim.Native.Nat.{ℕ, ◌^◌, ◌<◌, ◌≤◌}
use mathlib.Core.Path.{◌≡◌, refl, sym, ap, ◌∙◌}
use mathlib.Core.List.{List, [], ◌∷◌, ◌++◌}
use mathlib.Core.Bool.{Bool, true, false, cond, not, xor, ◌&&◌, ◌||◌, and-true, or-false, or_assoc, and_assoc}
use native.Mathlib.Omega.{arith}
use lib.Bits as B
use Rattle.base.specs.Bits.{and, or, differ, has, bit, Within}
use Rattle.base.proofs.BitLaws as base
use Rattle.lists.specs.Acl.{Entry}
use Rattle.records.specs.Crowd.{Member}
use Rattle.masks.specs.KindsAndMasks.{system_security}
use Rattle.passes.specs.OnePass.{passed}
use Rattle.passes.specs.NormalEvaluation.{listed, names_owner, privileges_give, normal_of}
use Rattle.passes.proofs.OnePassLaws.{passed_lt}
use Rattle.passes.proofs.CrowdsLaws.{Alike, admits_alike, normal_alike}
use Rattle.passes.specs.declared.matching.Hits.{Hits}
use Rattle.policy.specs.Rules.{Lists, result_of, ruled, unruled, there, applies_to, narrowed_by, judged_by, ruled_from, ruled_by}
use Rattle.policy.specs.Rules.{every_rule, some_stage, some_audit, some_staged_audit}
use Rattle.policy.specs.declared.rules.Ruled.{Ruled}

-- ---- tests

-- a test that may be left out holds no less often without
and_skip : (a b c : Bool) → (a && (b && c)) ≡ true → (a && c) ≡ true
and_skip true true c e = e
and_skip true false c e = let z : ◌≡◌ {A = ℕ} 0 1 = cc in absurd (omega arith)
and_skip false b c e = e

-- a mask or none
either_lt : (b : Bool) (m : ℕ) → m < 2 ^ 32 → cond b m 0 < 2 ^ 32
either_lt true m l = l
either_lt false m l = omega arith

module _ (kind : ℕ) (ms : List Member) (h : Hits) (p : ℕ) where
  -- ---- rules after rules

  pub ruled_append : (st : Ruled) (rs qs : List Lists) →
      ruled_from kind ms h p st (rs ++ qs) ≡ ruled_from kind ms h p (ruled_from kind ms h p st rs) qs
  unfolding ruled_from
  ruled_append st [] qs = refl
  ruled_append st (r ∷ rs) qs = ruled_append (judged_by kind ms h p st r) rs qs

  -- ---- bit by bit

  left_step : (st : Ruled) (r : Lists) (i : ℕ) →
      bit (judged_by kind ms h p st r).left.0 i
      ≡ (bit st.left.0 i && cond (applies_to ms h r) (bit (result_of kind ms h p r.effective) i) true)
  unfolding judged_by narrowed_by
  left_step st r i = go (applies_to ms h r)
    where
      e : ℕ
      e = result_of kind ms h p r.effective

      go : (b : Bool) → bit (cond b (narrowed_by kind ms h p st r) st).left.0 i ≡ (bit st.left.0 i && cond b (bit e i) true)
      go true = base.and_bit st.left.0 e i
      go false = sym (and-true (bit st.left.0 i))

  pub left_bit : (st : Ruled) (rs : List Lists) (i : ℕ) →
      bit (ruled_from kind ms h p st rs).left.0 i ≡ (bit st.left.0 i && every_rule kind ms h p rs i)
  unfolding ruled_from every_rule
  left_bit st [] i = sym (and-true (bit st.left.0 i))
  left_bit st (r ∷ rs) i =
      left_bit (judged_by kind ms h p st r) rs i
      ∙ ap (λ (b : Bool). b && every_rule kind ms h p rs i) (left_step st r i)
      ∙ and_assoc (bit st.left.0 i) (cond (applies_to ms h r) (bit (result_of kind ms h p r.effective) i) true)
      (every_rule kind ms h p rs i)

  pub left_bit_all : (rs : List Lists) (i : ℕ) → i < 32 → bit (ruled_by kind ms h p rs).left.0 i ≡ every_rule kind ms h p rs i
  left_bit_all rs i l =
      left_bit unruled rs i
      ∙ ap (λ (b : Bool). b && every_rule kind ms h p rs i) (base.flip_bit 0 i (omega arith) l ∙ ap not (base.zero_bit i))

  differ_step : (st : Ruled) (r : Lists) (i : ℕ) (q : Bool) →
      (bit (judged_by kind ms h p st r).differ.0 i || q)
      ≡ (bit st.differ.0 i
      || cond (applies_to ms h r && r.stages)
      (xor (bit (result_of kind ms h p r.effective) i) (bit (result_of kind ms h p r.staged) i) || q) q)
  unfolding judged_by narrowed_by
  differ_step st r i q = go (applies_to ms h r) r.stages
    where
      e : ℕ
      e = result_of kind ms h p r.effective

      t : ℕ
      t = result_of kind ms h p r.staged

      narrowed : Bool → Ruled
      narrowed b =
          ruled (and st.left.0 e) (cond b (or st.differ.0 (differ e t)) st.differ.0) (st.has_sacl || there r.sacl)
          (st.has_staged_sacl || there r.staged_sacl)

      go : (a b : Bool) →
          (bit (cond a (narrowed b) st).differ.0 i || q)
          ≡ (bit st.differ.0 i || cond (a && b) (xor (bit e i) (bit t i) || q) q)
      go true true =
          ap
          (λ (b : Bool). b || q)
          (base.or_bit st.differ.0 (differ e t) i ∙ ap (λ (b : Bool). bit st.differ.0 i || b) (base.differ_bit e t i))
          ∙ or_assoc (bit st.differ.0 i) (xor (bit e i) (bit t i)) q
      go true false = refl
      go false b = refl

  pub differ_bit : (st : Ruled) (rs : List Lists) (i : ℕ) →
      bit (ruled_from kind ms h p st rs).differ.0 i ≡ (bit st.differ.0 i || some_stage kind ms h p rs i)
  unfolding ruled_from some_stage
  differ_bit st [] i = sym (or-false (bit st.differ.0 i))
  differ_bit st (r ∷ rs) i = differ_bit (judged_by kind ms h p st r) rs i ∙ differ_step st r i (some_stage kind ms h p rs i)

  -- ---- SACLs of rules that apply

  pub audits_some : (st : Ruled) (rs : List Lists) → (ruled_from kind ms h p st rs).has_sacl ≡ (st.has_sacl || some_audit ms h rs)
  unfolding ruled_from judged_by narrowed_by some_audit
  audits_some st [] = sym (or-false st.has_sacl)
  audits_some st (r ∷ rs) = audits_some (judged_by kind ms h p st r) rs ∙ go (applies_to ms h r)
    where
      q : Bool
      q = some_audit ms h rs

      go : (b : Bool) → ((cond b (narrowed_by kind ms h p st r) st).has_sacl || q) ≡ (st.has_sacl || cond b (there r.sacl || q) q)
      go true = or_assoc st.has_sacl (there r.sacl) q
      go false = refl

  pub staged_audits_some : (st : Ruled) (rs : List Lists) →
      (ruled_from kind ms h p st rs).has_staged_sacl ≡ (st.has_staged_sacl || some_staged_audit ms h rs)
  unfolding ruled_from judged_by narrowed_by some_staged_audit
  staged_audits_some st [] = sym (or-false st.has_staged_sacl)
  staged_audits_some st (r ∷ rs) = staged_audits_some (judged_by kind ms h p st r) rs ∙ go (applies_to ms h r)
    where
      q : Bool
      q = some_staged_audit ms h rs

      go : (b : Bool) → ((cond b (narrowed_by kind ms h p st r) st).has_staged_sacl || q)
          ≡ (st.has_staged_sacl || cond b (there r.staged_sacl || q) q)
      go true = or_assoc st.has_staged_sacl (there r.staged_sacl) q
      go false = refl

  -- ---- one rule more never adds a bit

  pub ruled_within : (st : Ruled) (rs : List Lists) (r : Lists) (qs : List Lists) →
      Within (ruled_from kind ms h p st (rs ++ r ∷ qs)).left.0 (ruled_from kind ms h p st (rs ++ qs)).left.0
  unfolding Within every_rule
  ruled_within st rs r qs i e =
      let before = ruled_from kind ms h p st rs in
      let d : (bit before.left.0 i && every_rule kind ms h p (r ∷ qs) i) ≡ true =
      sym (left_bit before (r ∷ qs) i)
      ∙ sym (ap (λ (x : Ruled). bit x.left.0 i) (ruled_append st rs (r ∷ qs)))
      ∙ e in
      ap (λ (x : Ruled). bit x.left.0 i) (ruled_append st rs qs)
      ∙ left_bit before qs i
      ∙ and_skip (bit before.left.0 i) (cond (applies_to ms h r) (bit (result_of kind ms h p r.effective) i) true)
      (every_rule kind ms h p qs i) d

  -- ---- masks of 32 bits

  left_le : (st : Ruled) (rs : List Lists) → (ruled_from kind ms h p st rs).left.0 ≤ st.left.0
  unfolding ruled_from judged_by narrowed_by
  left_le st [] = omega arith
  left_le st (r ∷ rs) = omega (arith, left_le (judged_by kind ms h p st r) rs, go (applies_to ms h r))
    where
      go : (b : Bool) → (cond b (narrowed_by kind ms h p st r) st).left.0 ≤ st.left.0
      go true = B.and_le_l st.left.0 (result_of kind ms h p r.effective)
      go false = omega arith

  pub ruled_left_lt : (rs : List Lists) → (ruled_by kind ms h p rs).left.0 < 2 ^ 32
  ruled_left_lt rs = omega (arith, left_le unruled rs)

  -- one result is a mask
  pub result_lt : (es : List Entry) → result_of kind ms h p es < 2 ^ 32
  unfolding normal_of
  result_lt es =
      B.or_lt 32 (passed kind ms h es) _ (passed_lt kind ms h es)
      (B.or_lt 32 _ (privileges_give p) (either_lt (h.owner.allow && not (names_owner es)) 0x60000 (omega arith))
      (B.or_lt 32 _ _ (either_lt (has p 0x200) 0x80000 (omega arith)) (either_lt (has p 0x100) system_security (omega arith))))

  pub ruled_differ_lt : ((es : List Entry) → result_of kind ms h p es < 2 ^ 32) → (st : Ruled) (rs : List Lists) → st.differ.0 < 2 ^ 32 →
      (ruled_from kind ms h p st rs).differ.0 < 2 ^ 32
  unfolding ruled_from judged_by narrowed_by
  ruled_differ_lt f st [] l = l
  ruled_differ_lt f st (r ∷ rs) l = ruled_differ_lt f (judged_by kind ms h p st r) rs (go (applies_to ms h r) r.stages)
    where
      e : ℕ
      e = result_of kind ms h p r.effective

      t : ℕ
      t = result_of kind ms h p r.staged

      narrowed : Bool → Ruled
      narrowed b =
          ruled (and st.left.0 e) (cond b (or st.differ.0 (differ e t)) st.differ.0) (st.has_sacl || there r.sacl)
          (st.has_staged_sacl || there r.staged_sacl)

      go : (a b : Bool) → (cond a (narrowed b) st).differ.0 < 2 ^ 32
      go true true = B.or_lt 32 st.differ.0 (differ e t) l (B.xor_lt 32 e t (f r.effective) (f r.staged))
      go true false = l
      go false b = l

-- ---- crowds among whom the same SIDs match

module _ (ms ns : List Member) (same : Alike ms ns) (kind : ℕ) (h : Hits) (p : ℕ) where
  judged_alike : (st : Ruled) (r : Lists) → judged_by kind ms h p st r ≡ judged_by kind ns h p st r
  unfolding judged_by narrowed_by
  judged_alike st r =
      rw (
        admits_alike ms ns same h r.applies,
        normal_alike ms ns same kind h p (listed r.effective),
        normal_alike ms ns same kind h p (listed r.staged),
      )

  pub ruled_alike : (st : Ruled) (rs : List Lists) → ruled_from kind ms h p st rs ≡ ruled_from kind ns h p st rs
  unfolding ruled_from
  ruled_alike st [] = refl
  ruled_alike st (r ∷ rs) =
      ap (λ (x : Ruled). ruled_from kind ms h p x rs) (judged_alike st r) ∙ ruled_alike (judged_by kind ns h p st r) rs
