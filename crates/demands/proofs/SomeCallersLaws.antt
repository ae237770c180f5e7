-- Request 103. In order: every entry of an accepted list is conditioned (conditioned); an entry whose condition is false says nothing
-- (silent), and with a true one it does what it would without (spoken); S-1-3-4 is named with any condition (owner_named); a stranger's
-- entry is struck out with any (stranger_struck); a rule that does not apply changes no answer (ruled_apart, found_apart, stages_apart,
-- ruled_on_apart, rule_apart). Assumes nothing.
use Prim.Native.Nat.{ℕ, zero, suc}
use mathlib.Core.Path.{◌≡◌, refl, sym, ap, subst, ◌∙◌}
use mathlib.Core.List.{List, [], ◌∷◌, ◌++◌}
use mathlib.Core.Bool.{Bool, true, false, cond, ◌||◌, and-false}
use Rattle.base.specs.Bytes.{u16_at}
use Rattle.base.proofs.BoolLaws.{true_false}
use Rattle.conditions.specs.Condition.{shape}
use Rattle.conditions.specs.Membership.{admits}
use Rattle.conditions.proofs.MembershipLaws.{admits_none}
use Rattle.conditions.specs.Scanning.{Scan}
use Rattle.conditions.specs.Scanning.Scan.{Plain}
use Rattle.lists.specs.Acl.{callback, scan_of, Entry, ace_at, condition_of, entry_of, entries_at, entries_of}
use Rattle.lists.specs.Descriptor.{owner_of}
use Rattle.lists.proofs.AclLaws.{All, judged_of, content_of_lem, entries_more, Plainly, plain_of_scan, plain_more}
use Rattle.records.specs.Token.{Token}
use Rattle.records.specs.Crowd.{Member, crowd_of}
use Rattle.masks.specs.declared.tally.Tally.{Tally}
use Rattle.passes.specs.Matching.{hits_of}
use Rattle.passes.specs.OnePass.{skipped, member, taken}
use Rattle.passes.specs.NormalEvaluation.{Dacl, names_owner}
use Rattle.passes.specs.declared.matching.Hits.{Hits}
use Rattle.policy.specs.Rules.{Lists, applies_to, judged_by, ruled_from}
use Rattle.policy.specs.declared.rules.Ruled.{Ruled}
use Rattle.policy.proofs.RulesSteps.{judged_passed}
use Rattle.audit.specs.Events.{rule_stages, stages_audit}
use Rattle.audit.specs.declared.firing.Sought.{Sought}
use Rattle.answers.specs.Granted.{answer_of, flagged}
use Rattle.access.specs.Evaluated.{found_of, sought_of}
use Rattle.access.specs.Status.{Question, dacl_in, answer_to, checked}
use Rattle.answers.specs.declared.answer.Found.{Found}
use Rattle.demands.specs.Accepted.{Accepted, token_in, by_rules, ruled_on}
use Rattle.demands.specs.Strangers.{known, struck, SameButOneRule}
use Rattle.demands.specs.SomeCallers.{applies, Conditioned, conditioned_by}
use Rattle.demands.proofs.AcceptedLaws.{accepted_is}

-- ---- the entries of an accepted list

-- a test that holds picks the scan of the condition
picked : (b : Bool) (x : Scan) → cond b x Plain ≡ Plain → b ≡ true → x ≡ Plain
picked true x q t = q
picked false x q t = true_false (sym t)

entry_conditioned : (l : List ℕ) (at : ℕ) → judged_of l (ace_at l at) ≡ Plain → Conditioned (entry_of l (ace_at l at))
entry_conditioned l at q =
    record { expression = picked (callback (ace_at l at).kind) (shape (condition_of l (ace_at l at))) q; none = λ t. rw t }

entries_conditioned : (l : List ℕ) (n at : ℕ) → Plainly l n at → All Conditioned (entries_at l n at)
unfolding entries_at
entries_conditioned l zero at p = tt
entries_conditioned l (suc n) at p =
    let o = plain_more l n at p in
    rw (entries_more l n at o.some)
    (entry_conditioned l at (sym (content_of_lem l at o.some) ∙ o.content), entries_conditioned l n (ace_at l at).next o.rest)

one_of : (P : Entry → Type 0) (before : List Entry) (e : Entry) (after : List Entry) → All P (before ++ e ∷ after) → P e
one_of P [] e after a = a.0
one_of P (x ∷ before) e after a = one_of P before e after a.1

pub conditioned : (l : List ℕ) → scan_of true l ≡ Plain → (before : List Entry) (e : Entry) (after : List Entry) →
    entries_of l ≡ before ++ e ∷ after → Conditioned e
unfolding entries_of
conditioned l p before e after q =
    one_of Conditioned before e after (subst (All Conditioned) q (entries_conditioned l (u16_at l 4) 8 (plain_of_scan l p)))

-- ---- an entry that does not speak

pub silent : (kind : ℕ) (ms : List Member) (h : Hits) (t : Tally) (e : Entry) → admits (member ms h) e.condition ≡ false →
    taken kind ms h t e ≡ t
unfolding taken
silent kind ms h t e f = rw (f, and-false _) (go (skipped e))
  where
    go : (b : Bool) → cond b t t ≡ t
    go true = refl
    go false = refl

-- one whose condition is true does what it would without one
pub spoken : (kind : ℕ) (ms : List Member) (h : Hits) (t : Tally) (e : Entry) → admits (member ms h) e.condition ≡ true →
    taken kind ms h t e ≡ taken kind ms h t (conditioned_by [] e)
unfolding taken
spoken kind ms h t e f = rw (f, admits_none (member ms h))

-- whether S-1-3-4 is named does not depend on a condition
pub owner_named : (c : List ℕ) (e : Entry) (es : List Entry) → names_owner (conditioned_by c e ∷ es) ≡ names_owner (e ∷ es)
unfolding names_owner
owner_named c e es = refl

pub stranger_struck : (t : Token) (e : Entry) (c : List ℕ) (es : List Entry) → known t e.sid ≡ false →
    struck t (conditioned_by c e ∷ es) ≡ struck t es
unfolding struck
stranger_struck t e c es k = rw k

-- ---- a rule that does not apply

module _ (kind : ℕ) (ms : List Member) (h : Hits) (p : ℕ) where
  ruled_apart : (before : List Lists) (r : Lists) (after : List Lists) (st : Ruled) → applies_to ms h r ≡ false →
      ruled_from kind ms h p st (before ++ r ∷ after) ≡ ruled_from kind ms h p st (before ++ after)
  unfolding ruled_from
  ruled_apart [] r after st a = ap (λ (x : Ruled). ruled_from kind ms h p x after) (judged_passed kind ms h p st r a)
  ruled_apart (x ∷ before) r after st a = ruled_apart before r after (judged_by kind ms h p st x) a

found_apart : (kind : ℕ) (t : Token) (owner self : List ℕ) (d : Dacl) (before : List Lists) (r : Lists) (after : List Lists) →
    applies_to (crowd_of t) (hits_of (crowd_of t) owner self) r ≡ false →
    found_of kind t owner self d (before ++ r ∷ after) ≡ found_of kind t owner self d (before ++ after)
unfolding found_of
found_apart kind t owner self d before r after a =
    rw (ruled_apart kind (crowd_of t) (hits_of (crowd_of t) owner self) t.privileges before r after _ a)

stages_apart : (s : Sought) (ms : List Member) (h : Hits) (before : List Lists) (r : Lists) (after : List Lists) →
    applies_to ms h r ≡ false → stages_audit s ms h (before ++ r ∷ after) ≡ stages_audit s ms h (before ++ after)
unfolding stages_audit
stages_apart s ms h [] r after a = rw (a, and-false _)
stages_apart s ms h (x ∷ before) r after a = ap (λ (b : Bool). rule_stages s ms h x || b) (stages_apart s ms h before r after a)

ruled_on_apart : (kind mask : ℕ) (t : Token) (owner self : List ℕ) (d : Dacl) (before : List Lists) (r : Lists) (after : List Lists) →
    applies_to (crowd_of t) (hits_of (crowd_of t) owner self) r ≡ false →
    ruled_on kind mask t owner self d (before ++ r ∷ after) ≡ ruled_on kind mask t owner self d (before ++ after)
ruled_on_apart kind mask t owner self d before r after a =
    let h = hits_of (crowd_of t) owner self in
    ap (λ (f : Found). flagged (answer_of kind mask f)
    (stages_audit (sought_of kind mask (answer_of kind mask f)) (crowd_of t) h (before ++ r ∷ after)))
    (found_apart kind t owner self d before r after a)
    ∙ ap (flagged (answer_of kind mask (found_of kind t owner self d (before ++ after)))) (stages_apart _ (crowd_of t) h before r after a)

rules_apart : (p q : Question) (s : SameButOneRule p q) → applies p s.policy.gained ≡ false →
    by_rules q (token_in q) ≡ by_rules p (token_in p)
unfolding answer_to
rules_apart p q s a =
    let g = s.policy in
    rw (← s.kind, ← s.mask, ← s.token, ← s.self, ← s.descriptor, g.old, g.new)
    (ruled_on_apart p.kind p.mask (token_in p) (owner_of p.descriptor) p.self (dacl_in p.descriptor) g.before g.gained
    g.after a)

pub rule_apart : (p q : Question) → Accepted p → Accepted q → (s : SameButOneRule p q) → applies p s.policy.gained ≡ false →
    checked q ≡ checked p
rule_apart p q a b s n = accepted_is q b ∙ rules_apart p q s n ∙ sym (accepted_is p a)
