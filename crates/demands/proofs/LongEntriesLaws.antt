-- Request 101: lists that read the same have the same answer. It follows from demand 3, with nobody struck out on one side that is not struck
-- out on the other (rule_read, rules_read, as_strangers, answer_read). They have the same events too, with their entry numbers
-- (rules_events_read, events_read). Assumes nothing.
use Prim.Native.Nat.{ℕ, ◌+◌}
use mathlib.Core.Path.{◌≡◌, refl, ap}
use mathlib.Core.List.{List, [], ◌∷◌, map}
use native.Mathlib.Omega.{arith}
use Rattle.records.specs.Token.{Token}
use Rattle.records.specs.Crowd.{Member, crowd_of}
use Rattle.passes.specs.declared.matching.Hits.{Hits}
use Rattle.policy.specs.Rules.{Lists, rules_of}
use Rattle.audit.specs.Events.{rules_events}
use Rattle.audit.specs.declared.firing.Sought.{Sought}
use Rattle.access.specs.Status.{Question, sought_for, hits_for, checked}
use Rattle.demands.specs.Accepted.{Accepted, token_in, events_given}
use Rattle.demands.specs.Strangers.{struck, struck_audits, AlikeRule, AlikeRules, SameButStrangers}
use Rattle.demands.specs.Strangers.AlikeRules.{no_rules, one_more}
use Rattle.demands.specs.LongEntries.{Said, said_by, ReadTheSame}
use Rattle.demands.proofs.StrangersLaws.{sought_alike, answer_strangers}

first : Said → List Said → Said
first r [] = r
first r (q ∷ qs) = q

rest : List Said → List Said
rest [] = []
rest (r ∷ rs) = rs

-- ---- the answer

rule_read : (t : Token) (r q : Lists) → said_by r ≡ said_by q → AlikeRule t r q
rule_read t r q e =
    record {
      applies = ap (λ (x : Said). x.applies) e;
      effective = ap (λ (x : Said). struck t x.effective) e;
      stages = ap (λ (x : Said). x.stages) e;
      staged = ap (λ (x : Said). struck t x.staged) e;
      sacl = ap (λ (x : Said). struck_audits t x.sacl) e;
      stages_sacl = ap (λ (x : Said). x.stages_sacl) e;
      staged_sacl = ap (λ (x : Said). struck_audits t x.staged_sacl) e;
    }

rules_read : (t : Token) (rs qs : List Lists) → map said_by rs ≡ map said_by qs → AlikeRules t rs qs
unfolding first rest
rules_read t [] [] e = no_rules
rules_read t [] (q ∷ qs) e = let z : ◌≡◌ {A = ℕ} 0 1 = cc in absurd (omega arith)
rules_read t (r ∷ rs) [] e = let z : ◌≡◌ {A = ℕ} 0 1 = cc in absurd (omega arith)
rules_read t (r ∷ rs) (q ∷ qs) e = one_more (rule_read t r q (ap (first (said_by r)) e)) (rules_read t rs qs (ap rest e))

as_strangers : (p q : Question) → ReadTheSame p q → SameButStrangers p q
as_strangers p q s =
    record {
      kind = s.kind;
      mask = s.mask;
      token = s.token;
      self = s.self;
      owner = s.owner;
      present = s.present;
      list = ap (struck (token_in p)) s.list;
      sacl = ap (struck_audits (token_in p)) s.sacl;
      rules = rules_read (token_in p) (rules_of p.policy) (rules_of q.policy) s.rules;
    }

pub answer_read : (p q : Question) → Accepted p → Accepted q → ReadTheSame p q → checked p ≡ checked q
answer_read p q a b s = answer_strangers p q a b (as_strangers p q s)

-- ---- the events

rules_events_read : (s : Sought) (ms : List Member) (h : Hits) (i : ℕ) (rs qs : List Lists) → map said_by rs ≡ map said_by qs →
    rules_events s ms h i rs ≡ rules_events s ms h i qs
unfolding rules_events first rest
rules_events_read s ms h i [] [] e = refl
rules_events_read s ms h i [] (q ∷ qs) e = let z : ◌≡◌ {A = ℕ} 0 1 = cc in absurd (omega arith)
rules_events_read s ms h i (r ∷ rs) [] e = let z : ◌≡◌ {A = ℕ} 0 1 = cc in absurd (omega arith)
rules_events_read s ms h i (r ∷ rs) (q ∷ qs) e =
    let one = ap (first (said_by r)) e in
    rw (ap (λ (x : Said). x.applies) one, ap (λ (x : Said). x.sacl) one, rules_events_read s ms h (i + 1) rs qs (ap rest e))

pub events_read : (p q : Question) → ReadTheSame p q → events_given p ≡ events_given q
events_read p q s =
    let t = token_in q in
    rw (
      sought_alike p q (as_strangers p q s),
      s.token,
      s.self,
      s.owner,
      s.sacl,
      rules_events_read (sought_for q t) (crowd_of t) (hits_for q t) 1 (rules_of p.policy) (rules_of q.policy) s.rules,
    )
