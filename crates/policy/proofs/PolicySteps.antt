-- What a policy is, by each test in its order. In order: the walk over all rules (Left, rules-..), the whole (standing-..). For the
-- functions of `shape`.
-- Not here: a rule, OneRuleSteps; what an accepted policy is, PolicyLaws. Assumes nothing.
use Prim.Native.Nat.{ℕ, suc, ◌+◌, ◌-◌, ◌<◌, ◌≤◌}
use mathlib.Core.Path.{◌≡◌, refl, ap}
use mathlib.Core.List.{List}
use mathlib.Core.Bool.{Bool, true, false, cond, ◌||◌}
use native.Mathlib.Omega.{arith}
use lib.ListN.{length}
use borrow.Author.Tests.{lt-ltb, le-ltb, eq-eqb, ne_eqb}
use Rattle.base.specs.Bytes.{byte_at, u32_at}
use Rattle.std.specs.Prelude.{None, Some}
use Rattle.policy.proofs.RulesSteps.{found_none, found_some}
use Rattle.policy.specs.Policy.{found, rule_at, rules_shaped, rules_unread, standing, standing_of}
use Rattle.policy.specs.declared.one_rule.Rule.{Rule}
use Rattle.policy.specs.Standing.{Standing}
use Rattle.policy.specs.Standing.Standing.{Sound, Misshapen, Unread}

-- ---- the walk over all rules

-- what m rules from a place come to, after something unread was met or not
abbrev pub Left : List ℕ → Bool → ℕ → ℕ → Standing
Left s met m at = standing (rules_shaped s m at) (met || rules_unread s m at)

module _ (s : List ℕ) (met : Bool) (m k at : ℕ) where
  pub rules_end : m ≤ k → at ≡ length s → Left s met (m - k) at ≡ cond met Unread Sound
  unfolding rules_shaped rules_unread
  rules_end h e = let z : m - k ≡ 0 = omega arith in rw (z, eq-eqb at (length s) e) (go met)
    where
      go : (t : Bool) → cond (t || false) Unread Sound ≡ cond t Unread Sound
      go true = refl
      go false = refl

  pub rules_over : m ≤ k → (at ≡ length s → ⊥) → Left s met (m - k) at ≡ Misshapen
  unfolding rules_shaped
  rules_over h e = let z : m - k ≡ 0 = omega arith in rw (z, ne_eqb at (length s) e)

  -- one rule more, as the code reads it
  pub rules_broken : k < m → None ≡ found (rule_at s at) → Left s met (m - k) at ≡ Misshapen
  unfolding rules_shaped
  rules_broken h e = let n : m - k ≡ suc (m - (k + 1)) = omega arith in rw (n, found_none _ e)

  pub rules_more : (r : Rule) → k < m → Some r ≡ found (rule_at s at) → Left s met (m - k) at ≡ Left s (met || r.unread) (m - (k + 1)) r.next
  unfolding rules_shaped rules_unread
  rules_more r h e =
      let n : m - k ≡ suc (m - (k + 1)) = omega arith in
      let p = found_some r _ e in
      rw (n, p.1, ← p.0)
      (ap (standing (rules_shaped s (m - (k + 1)) r.next)) (go (rules_unread s (m - (k + 1)) r.next) met r.unread))
    where
      go : (q t u : Bool) → (t || cond u true q) ≡ ((t || u) || q)
      go q true true = refl
      go q true false = refl
      go q false true = refl
      go q false false = refl

-- ---- the whole

module _ (s : List ℕ) where
  pub standing_empty : length s ≡ 0 → standing_of s ≡ Sound
  unfolding standing_of
  standing_empty h = rw (eq-eqb (length s) 0 h)

  pub standing_long : 262144 < length s → standing_of s ≡ Misshapen
  unfolding standing_of
  standing_long h = rw (ne_eqb (length s) 0 (omega arith), lt-ltb 262144 (length s) h)

  module _ (within : length s ≤ 262144) where
    pub standing_short : (length s ≡ 0 → ⊥) → length s < 5 → standing_of s ≡ Misshapen
    unfolding standing_of
    standing_short f h = rw (ne_eqb (length s) 0 f, le-ltb 262144 (length s) within, lt-ltb (length s) 5 h)

    pub standing_other : 5 ≤ length s → (byte_at s 0 ≡ 1 → ⊥) → standing_of s ≡ Misshapen
    unfolding standing_of
    standing_other f h =
        rw (ne_eqb (length s) 0 (omega arith), le-ltb 262144 (length s) within, le-ltb (length s) 5 f, ne_eqb (byte_at s 0) 1 h)

    pub standing_many : 5 ≤ length s → byte_at s 0 ≡ 1 → 256 < u32_at s 1 → standing_of s ≡ Misshapen
    unfolding standing_of
    standing_many f v h =
        rw (
          ne_eqb (length s) 0 (omega arith),
          le-ltb 262144 (length s) within,
          le-ltb (length s) 5 f,
          eq-eqb (byte_at s 0) 1 v,
          lt-ltb 256 (u32_at s 1) h,
        )

    pub standing_rules : 5 ≤ length s → byte_at s 0 ≡ 1 → u32_at s 1 ≤ 256 → standing_of s ≡ Left s false (u32_at s 1) 5
    unfolding standing_of
    standing_rules f v h =
        rw (
          ne_eqb (length s) 0 (omega arith),
          le-ltb 262144 (length s) within,
          le-ltb (length s) 5 f,
          eq-eqb (byte_at s 0) 1 v,
          le-ltb 256 (u32_at s 1) h,
        )
