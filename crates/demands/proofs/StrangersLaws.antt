-- Demand 3, first half: entries of strangers change no answer, and no event but in its entry number. The index, from a list up to the
-- answer: a list without its strangers: taken_stranger run_struck names_struck; two lists that read the same without: passed_alike
-- normal_alike. The whole: ruled_alike found_alike lists_alike rules_alike answer_strangers events_strangers. Not here: that a stranger
-- matches nobody, UnknownLaws; SACLs, AuditStrangersLaws. Assumes nothing.
use Prim.Native.Nat.{ℕ}
use mathlib.Core.Path.{◌≡◌, refl, sym, ap, ◌∙◌}
use mathlib.Core.List.{List, [], ◌∷◌}
use mathlib.Core.Bool.{Bool, true, false, cond, ◌&&◌}
use Rattle.lists.specs.Acl.{Entry}
use Rattle.lists.specs.Descriptor.{owner_of, sacl_of}
use Rattle.records.specs.Token.{Token}
use Rattle.records.specs.Crowd.{Member, crowd_of, confined_of}
use Rattle.passes.specs.Matching.{hits_of}
use Rattle.passes.specs.OnePass.{skipped, taken, run, passed}
use Rattle.passes.specs.NormalEvaluation.{Dacl, listed, counts, names_owner, list_gives, normal_of}
use Rattle.passes.specs.Confinement.{confinement_of}
use Rattle.passes.specs.declared.matching.Hits.{Hits}
use Rattle.masks.specs.declared.tally.Tally.{Tally}
use Rattle.policy.specs.Rules.{Lists, rules_of, unruled, applies_to, narrowed_by, judged_by, ruled_from}
use Rattle.policy.specs.declared.rules.Ruled.{Ruled}
use Rattle.answers.specs.Granted.{answer_of, flagged}
use Rattle.access.specs.Evaluated.{found_of}
use Rattle.access.specs.Status.{Question, dacl_in, by_lists, sought_for, hits_for, raised_for, answer_to, checked}
use Rattle.answers.specs.declared.answer.Answer.{Answer}
use Rattle.demands.specs.Accepted.{Accepted, token_in, by_rules, events_given}
use Rattle.demands.specs.Strangers.{known, struck, AlikeRule, AlikeRules, SameButStrangers, unnumbered}
use Rattle.demands.specs.Strangers.AlikeRules.{no_rules, one_more}
use Rattle.demands.proofs.AcceptedLaws.{accepted_is}
use Rattle.demands.proofs.UnknownLaws.{Stranger, known_false, Deaf, deaf_crowd, deaf_confined}
use Rattle.demands.proofs.AuditStrangersLaws.{stages_alike, events_alike}

-- ---- a list without its strangers

module _ (kind : ℕ) (t : Token) (ms : List Member) (deaf : Deaf t ms) (h : Hits) where
  taken_stranger : (tl : Tally) (e : Entry) → Stranger t e.sid → taken kind ms h tl e ≡ tl
  unfolding taken Deaf
  taken_stranger tl e s = rw (deaf h _ e.sid s) (go (skipped e))
    where
      go : (b : Bool) → cond b tl tl ≡ tl
      go true = refl
      go false = refl

  run_struck : (tl : Tally) (es : List Entry) → run kind ms h tl es ≡ run kind ms h tl (struck t es)
  unfolding run struck
  run_struck tl [] = refl
  run_struck tl (e ∷ es) = go (λ x. run_struck x es) (known t e.sid) refl
    where
      go : ((x : Tally) → run kind ms h x es ≡ run kind ms h x (struck t es)) → (b : Bool) → known t e.sid ≡ b →
          run kind ms h tl (e ∷ es) ≡ run kind ms h tl (cond b (e ∷ struck t es) (struck t es))
      go rest true k = rest (taken kind ms h tl e)
      go rest false k = rw (taken_stranger tl e (known_false t e.sid k)) (rest tl)

  passed_alike : (es fs : List Entry) → struck t es ≡ struck t fs → passed kind ms h es ≡ passed kind ms h fs
  passed_alike es fs e =
      ap (λ (x : Tally). x.allowed.0) (run_struck _ es ∙ ap (run kind ms h _) e ∙ sym (run_struck _ fs))

  gives_alike : (d e : Dacl) → d.present ≡ e.present → struck t d.entries ≡ struck t e.entries →
      list_gives kind ms h d ≡ list_gives kind ms h e
  gives_alike d e p q = rw (p, passed_alike d.entries e.entries q)

-- whatever else counts, an entry that does not name S-1-3-4 leaves the rest to say
unnamed : (counted rest : Bool) → cond (counted && false) true rest ≡ rest
unnamed true rest = refl
unnamed false rest = refl

names_struck : (t : Token) (es : List Entry) → names_owner es ≡ names_owner (struck t es)
unfolding names_owner struck
names_struck t [] = refl
names_struck t (e ∷ es) = go (names_struck t es) (known t e.sid) refl
  where
    go : names_owner es ≡ names_owner (struck t es) → (b : Bool) → known t e.sid ≡ b →
        names_owner (e ∷ es) ≡ names_owner (cond b (e ∷ struck t es) (struck t es))
    go rest true k = rw rest
    go rest false k = rw (known_false t e.sid k).owner (unnamed (counts e) (names_owner es) ∙ rest)

names_alike : (t : Token) (es fs : List Entry) → struck t es ≡ struck t fs → names_owner es ≡ names_owner fs
names_alike t es fs e = names_struck t es ∙ ap names_owner e ∙ sym (names_struck t fs)

-- ---- the whole

-- what an answer goes by: the bits left and those that differ, and not which SACLs were met
record Agree (x y : Ruled) : Type 0 where
  left : x.left ≡ y.left
  differ : x.differ ≡ y.differ

module _ (kind : ℕ) (t : Token) (h : Hits) (p : ℕ) where
  normal_alike : (d e : Dacl) → d.present ≡ e.present → struck t d.entries ≡ struck t e.entries →
      normal_of kind (crowd_of t) h p d ≡ normal_of kind (crowd_of t) h p e
  unfolding normal_of
  normal_alike d e x y = rw (gives_alike kind t (crowd_of t) (deaf_crowd t) h d e x y, names_alike t d.entries e.entries y)

  judged_alike : (x y : Ruled) (r q : Lists) → Agree x y → AlikeRule t r q →
      Agree (judged_by kind (crowd_of t) h p x r) (judged_by kind (crowd_of t) h p y q)
  unfolding judged_by narrowed_by
  judged_alike x y r q g a = rw a.applies (go (applies_to (crowd_of t) h q))
    where
      go : (b : Bool) → Agree (cond b (narrowed_by kind (crowd_of t) h p x r) x) (cond b (narrowed_by kind (crowd_of t) h p y q) y)
      go true =
          let effective = normal_alike (listed r.effective) (listed q.effective) refl a.effective in
          let staged = normal_alike (listed r.staged) (listed q.staged) refl a.staged in
          record { left = rw (effective, g.left); differ = rw (effective, staged, a.stages, g.differ) }
      go false = g

  ruled_alike : {rs qs : List Lists} → AlikeRules t rs qs → (x y : Ruled) → Agree x y →
      Agree (ruled_from kind (crowd_of t) h p x rs) (ruled_from kind (crowd_of t) h p y qs)
  unfolding ruled_from
  ruled_alike no_rules x y g = g
  ruled_alike (one_more {r = r} {q = q} a rest) x y g = ruled_alike rest _ _ (judged_alike x y r q g a)

confinement_alike : (kind : ℕ) (t : Token) (owner self : List ℕ) (d e : Dacl) → d.present ≡ e.present →
    struck t d.entries ≡ struck t e.entries → confinement_of kind t owner self d ≡ confinement_of kind t owner self e
unfolding confinement_of
confinement_alike kind t owner self d e x y =
    rw (gives_alike kind t (confined_of t) (deaf_confined t) (hits_of (confined_of t) owner self) d e x y)

-- what is found may differ in whether a rule has a SACL, and is read off alike for every mask
found_alike : (kind mask : ℕ) (t : Token) (owner self : List ℕ) (d e : Dacl) (rs qs : List Lists) → d.present ≡ e.present →
    struck t d.entries ≡ struck t e.entries → AlikeRules t rs qs →
    answer_of kind mask (found_of kind t owner self d rs) ≡ answer_of kind mask (found_of kind t owner self e qs)
unfolding found_of answer_of
found_alike kind mask t owner self d e rs qs x y z =
    let h = hits_of (crowd_of t) owner self in
    let ruled = ruled_alike kind t h t.privileges z unruled unruled (record { left = refl; differ = refl }) in
    rw (normal_alike kind t h t.privileges d e x y, confinement_alike kind t owner self d e x y, ruled.left, ruled.differ)

-- and so is the answer by the access lists
lists_alike : (p q : Question) → SameButStrangers p q → by_lists p (token_in p) ≡ by_lists q (token_in q)
lists_alike p q s =
    rw (← s.kind, ← s.mask, ← s.token, ← s.self, ← s.owner)
    (found_alike p.kind p.mask (token_in p) (owner_of p.descriptor) p.self (dacl_in p.descriptor) (dacl_in q.descriptor)
    (rules_of p.policy) (rules_of q.policy) s.present s.list s.rules)

-- the audit goes by the same, once the answer by the lists is
pub sought_alike : (p q : Question) → SameButStrangers p q → sought_for p (token_in p) ≡ sought_for q (token_in q)
sought_alike p q s = rw (lists_alike p q s, s.kind, s.mask)

rules_alike : (p q : Question) → SameButStrangers p q → by_rules p (token_in p) ≡ by_rules q (token_in q)
unfolding answer_to
rules_alike p q s =
    ap (λ (a : Answer). flagged a (raised_for p (token_in p))) (lists_alike p q s)
    ∙ ap (flagged (by_lists q (token_in q)))
    (rw (sought_alike p q s, ← s.token, ← s.self, ← s.owner) (stages_alike _ (token_in p) (hits_for p (token_in p)) s.rules))

pub answer_strangers : (p q : Question) → Accepted p → Accepted q → SameButStrangers p q → checked p ≡ checked q
answer_strangers p q a b s = accepted_is p a ∙ rules_alike p q s ∙ sym (accepted_is q b)

pub events_strangers : (p q : Question) → SameButStrangers p q → unnumbered (events_given p) ≡ unnumbered (events_given q)
events_strangers p q s =
    rw (sought_alike p q s, ← s.token, ← s.self, ← s.owner)
    (events_alike _ (token_in p) (hits_for p (token_in p)) (sacl_of p.descriptor) (sacl_of q.descriptor) s.sacl s.rules)

pub strangers_both : (p q : Question) → Accepted p → Accepted q → SameButStrangers p q →
    (checked p ≡ checked q) × (unnumbered (events_given p) ≡ unnumbered (events_given q))
strangers_both p q a b s = (answer_strangers p q a b s, events_strangers p q s)
