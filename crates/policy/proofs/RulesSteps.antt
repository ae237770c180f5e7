-- What the rules of a policy leave, by each step of the code. For the functions of `rules`.
-- In order: a rule as the code answers it (found-..), the walk over all rules (walk-..), a section with bytes in it (section_there), one
-- result (result_is), one rule more (narrowed-.., judged-.., left-..).
-- Not here: what all rules come to, RulesLaws. Assumes nothing.
use Prim.Native.Nat.{ℕ, suc, ◌-◌, ◌<◌, ◌≤◌}
use mathlib.Core.Path.{◌≡◌, refl, sym, ap, ◌∙◌}
use mathlib.Core.List.{List, [], ◌∷◌}
use mathlib.Core.Bool.{Bool, true, false, cond, ◌||◌}
use native.Mathlib.Omega.{arith}
use lib.Dec.{ltb, eqb}
use borrow.Author.Tests.{lt-ltb, le-ltb, ltb-true, ltb-false}
use Rattle.std.specs.Prelude.{None, Some}
use Rattle.base.specs.Bits.{and, or, differ}
use Rattle.base.proofs.BytesLaws.{length_part}
use Rattle.lists.specs.Acl.{Entry}
use Rattle.records.specs.Crowd.{Member}
use Rattle.passes.specs.NormalEvaluation.{normal_of}
use Rattle.passes.specs.OneWalk.{walked_of, normal_by}
use Rattle.passes.specs.declared.matching.Hits.{Hits}
use Rattle.passes.specs.declared.walk.Walked.{Walked}
use Rattle.policy.specs.Policy.{bytes_of, Lies, found}
use Rattle.policy.specs.Rules.{Lists, result_of, ruled, there, applies_to, narrowed_by, judged_by, ruled_from}
use Rattle.policy.specs.ByLengths.{rule_by_lengths, lists_by_lengths, rules_by_lengths_at}
use Rattle.lists.specs.declared.descriptor.Extent.{Extent}
use Rattle.policy.specs.declared.one_rule.Rule.{Rule}
use Rattle.policy.specs.declared.rules.Ruled.{Ruled}

-- a rule, as the code answers it
pub found_some : (r x : Rule) → Some r ≡ found x → (r ≡ x) × (eqb x.next 0 ≡ false)
found_some r x h = go (eqb x.next 0) refl h
  where
    go : (b : Bool) → eqb x.next 0 ≡ b → Some r ≡ cond b None (Some x) → (r ≡ x) × (eqb x.next 0 ≡ false)
    go true e f = absurd (cc)
    go false e f = (cc, e)

pub found_none : (x : Rule) → None ≡ found x → eqb x.next 0 ≡ true
found_none x h = go (eqb x.next 0) refl h
  where
    go : (b : Bool) → eqb x.next 0 ≡ b → None ≡ cond b None (Some x) → eqb x.next 0 ≡ true
    go true e f = e
    go false e f = absurd (cc)

-- ---- the walk over all rules

module _ (s : List ℕ) (n at : ℕ) where
  pub walk_over : n ≡ 0 → rules_by_lengths_at s n at ≡ []
  unfolding rules_by_lengths_at
  walk_over e = rw e

  pub walk_stops : (n ≡ 0 → ⊥) → None ≡ found (rule_by_lengths s at) → rules_by_lengths_at s n at ≡ []
  unfolding rules_by_lengths_at
  walk_stops f h = let k : n ≡ suc (n - 1) = omega arith in rw (k, found_none _ h)

  pub walk_more : (r : Rule) → (n ≡ 0 → ⊥) → Some r ≡ found (rule_by_lengths s at) →
      rules_by_lengths_at s n at ≡ lists_by_lengths s r ∷ rules_by_lengths_at s (n - 1) r.next
  unfolding rules_by_lengths_at
  walk_more r f h =
      let k : n ≡ suc (n - 1) = omega arith in
      let p = found_some r _ h in
      ap (λ (m : ℕ). rules_by_lengths_at s m at) k ∙ rw (p.1, p.0)

-- a section that lies within the bytes has bytes if it ends after its start
pub section_there : (s : List ℕ) (x : Extent) → Lies s x → ltb x.from x.to ≡ there (bytes_of s x)
section_there s x l = rw (length_part s x.from x.to l.0 l.1) (go (ltb x.from x.to) refl)
  where
    go : (b : Bool) → ltb x.from x.to ≡ b → ltb x.from x.to ≡ ltb 0 (x.to - x.from)
    go true e = let k : x.from < x.to = ltb-true _ _ e in e ∙ sym (lt-ltb 0 (x.to - x.from) (omega arith))
    go false e = let k : x.to ≤ x.from = ltb-false _ _ e in e ∙ sym (le-ltb 0 (x.to - x.from) (omega arith))

module _ (kind : ℕ) (ms : List Member) (h : Hits) (p : ℕ) where
  -- one result, from the walk over its list
  pub result_is : (es : List Entry) (w : Walked) (x : ℕ) → w ≡ walked_of kind ms h es → x ≡ normal_by kind true w h p →
      x ≡ result_of kind ms h p es
  unfolding normal_by normal_of
  result_is es w x e f = f ∙ rw e

  -- one rule more
  module _ (st : Ruled) (r : Lists) (e : ℕ) (effective : e ≡ result_of kind ms h p r.effective) (a b : Bool)
      (audits : a ≡ (st.has_sacl || there r.sacl)) (stages : b ≡ (st.has_staged_sacl || there r.staged_sacl)) where
    pub narrowed_plain : r.stages ≡ false → ruled (and st.left.0 e) st.differ.0 a b ≡ narrowed_by kind ms h p st r
    unfolding narrowed_by
    narrowed_plain t = rw (t, effective, audits, stages)

    pub narrowed_staged : (q : ℕ) → q ≡ result_of kind ms h p r.staged → r.stages ≡ true →
        ruled (and st.left.0 e) (or st.differ.0 (differ e q)) a b ≡ narrowed_by kind ms h p st r
    unfolding narrowed_by
    narrowed_staged q staged t = rw (t, effective, staged, audits, stages)

  -- where it applies, and where not
  module _ (st : Ruled) (r : Lists) where
    pub judged_applies : applies_to ms h r ≡ true → judged_by kind ms h p st r ≡ narrowed_by kind ms h p st r
    unfolding judged_by
    judged_applies t = rw t

    pub judged_passed : applies_to ms h r ≡ false → judged_by kind ms h p st r ≡ st
    unfolding judged_by
    judged_passed t = rw t

  -- the rules that are left, one fewer or none
  pub left_more : (st next : Ruled) (rs : List Lists) (r : Lists) (qs : List Lists) → rs ≡ r ∷ qs → next ≡ judged_by kind ms h p st r →
      ruled_from kind ms h p st rs ≡ ruled_from kind ms h p next qs
  unfolding ruled_from
  left_more st next rs r qs e f = rw (e, f)

  pub left_none : (st : Ruled) (rs : List Lists) → rs ≡ [] → ruled_from kind ms h p st rs ≡ st
  unfolding ruled_from
  left_none st rs e = rw e
