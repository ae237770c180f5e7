-- Demand 3, second half: a policy that gains one rule grants no bit it did not grant before. The index:
-- found_gained: what is found has no bit more. gained_rule: so of the answer. That the rules leave no more is `ruled_within` of policy.
-- Assumes nothing.
use Prim.Native.Nat.{ℕ}
use mathlib.Core.List.{List, ◌∷◌, ◌++◌}
use Rattle.base.specs.Bits.{and, Within}
use Rattle.base.proofs.BitsLaws.{within_refl, and_mono}
use Rattle.lists.specs.Descriptor.{owner_of}
use Rattle.records.specs.Token.{Token}
use Rattle.records.specs.Crowd.{crowd_of}
use Rattle.masks.specs.KindsAndMasks.{asked}
use Rattle.passes.specs.Matching.{hits_of}
use Rattle.passes.specs.NormalEvaluation.{Dacl, normal_of}
use Rattle.passes.specs.Confinement.{confinement_of}
use Rattle.policy.specs.Rules.{Lists, unruled}
use Rattle.policy.proofs.RulesLaws.{ruled_within}
use Rattle.answers.specs.Granted.{answer_of}
use Rattle.access.specs.Evaluated.{found_of}
use Rattle.access.specs.Status.{Question, dacl_in, answer_to, checked}
use Rattle.demands.specs.Accepted.{Accepted, token_in, by_rules}
use Rattle.demands.specs.Strangers.{SameButOneRule}
use Rattle.demands.proofs.AcceptedLaws.{accepted_is}

found_gained : (kind : ℕ) (t : Token) (owner self : List ℕ) (d : Dacl) (before : List Lists) (r : Lists) (after : List Lists) →
    Within (found_of kind t owner self d (before ++ r ∷ after)).ruled.0 (found_of kind t owner self d (before ++ after)).ruled.0
unfolding found_of
found_gained kind t owner self d before r after =
    let h = hits_of (crowd_of t) owner self in
    let c = and (normal_of kind (crowd_of t) h t.privileges d) (confinement_of kind t owner self d) in
    and_mono c c _ _ (within_refl c) (ruled_within kind (crowd_of t) h t.privileges unruled before r after)

rules_gained : (p q : Question) → SameButOneRule p q → Within (by_rules q (token_in q)).granted.0 (by_rules p (token_in p)).granted.0
unfolding answer_to answer_of
rules_gained p q s =
    let g = s.policy in
    rw (← s.kind, ← s.mask, ← s.token, ← s.self, ← s.descriptor, g.old, g.new)
    (and_mono (asked p.kind p.mask) (asked p.kind p.mask) _ _ (within_refl _)
    (found_gained p.kind (token_in p) (owner_of p.descriptor) p.self (dacl_in p.descriptor) g.before g.gained g.after))

pub gained_rule : (p q : Question) → Accepted p → Accepted q → SameButOneRule p q → Within (checked q).granted.0 (checked p).granted.0
gained_rule p q a b s = rw (accepted_is p a, accepted_is q b) (rules_gained p q s)
