-- Demand 3's words. "Entries naming nobody of the token and no virtual identity": a stranger's. Nobody of the token: not the user, no listed group
-- whatever its attributes, not the confinement identity, no capability.
use Rattle.std.specs.Prelude.{ℕ, ◌≡◌, List, [], ◌∷◌, ◌++◌, Bool, true, false, cond, ◌&&◌, ◌||◌}
use Rattle.base.specs.Bytes.{same}
use Rattle.lists.specs.Acl.{Entry}
use Rattle.lists.specs.Descriptor.{owner_of, sacl_of}
use Rattle.records.specs.Token.{Group, Token}
use Rattle.records.specs.TokenRules.{lists}
use Rattle.sids.specs.Sid.{virtual}
use Rattle.policy.specs.Rules.{Lists, rules_of, there}
use Rattle.audit.specs.Events.{Audit, audits_of, Event}
use Rattle.access.specs.Status.{Question, dacl_in}
use Rattle.demands.specs.Accepted.{token_in}

unfoldable pub in_groups : List ℕ → List Group → Bool
in_groups w [] = false
in_groups w (g ∷ gs) = let r = in_groups w gs in cond (same g.sid w) true r

-- somebody of the token, or a virtual identity
unfoldable pub known : Token → List ℕ → Bool
known t w =
    same t.user w
    || in_groups w t.groups
    || same t.confinement.identity w
    || lists w t.confinement.capabilities
    || virtual w

-- a list with the strangers' entries struck out. "An entry naming a stranger remains a stranger's with any condition" (request 103)
unfoldable pub struck : Token → List Entry → List Entry
struck t [] = []
struck t (e ∷ es) = let r = struck t es in cond (known t e.sid) (e ∷ r) r

-- a SACL "with strangers and other types struck out and an absent one reading as empty" (request 105)
unfoldable pub struck_audits : Token → List Audit → List Audit
struck_audits t [] = []
struck_audits t (a ∷ xs) = let r = struck_audits t xs in cond (a.audits && known t a.sid) (a ∷ r) r

-- two rules, both with a staged list or neither, whose lists read the same once strangers are struck out; "demand 3 also needs equal
-- applies_to sections" (request 103). "Demand 3's lists now include all these SACLs, .. each rule's effective and staged one, .. and asks
-- for the staged SACL in the same rules" (request 105)
pub record AlikeRule (t : Token) (r q : Lists) : Type 0 where
  pub applies : r.applies ≡ q.applies
  pub effective : struck t r.effective ≡ struck t q.effective
  pub stages : r.stages ≡ q.stages
  pub staged : struck t r.staged ≡ struck t q.staged
  pub sacl : struck_audits t (audits_of r.sacl) ≡ struck_audits t (audits_of q.sacl)
  pub stages_sacl : there r.staged_sacl ≡ there q.staged_sacl
  pub staged_sacl : struck_audits t (audits_of r.staged_sacl) ≡ struck_audits t (audits_of q.staged_sacl)

-- two lists of such rules, as many
pub data AlikeRules (t : Token) : List Lists → List Lists → Type 0 where
  no_rules : AlikeRules t [] []
  one_more : {r q : Lists} {rs qs : List Lists} → AlikeRule t r q → AlikeRules t rs qs → AlikeRules t (r ∷ rs) (q ∷ qs)

-- "two accepted checks alike in token, object kind, mask, self identity and owner; alike in whether the access list is present; with as many policy
-- rules, and staged lists in the same ones", every list reading the same once strangers are struck out, the descriptor's SACL too
pub record SameButStrangers (p q : Question) : Type 0 where
  pub kind : p.kind ≡ q.kind
  pub mask : p.mask ≡ q.mask
  pub token : p.token ≡ q.token
  pub self : p.self ≡ q.self
  pub owner : owner_of p.descriptor ≡ owner_of q.descriptor
  pub present : (dacl_in p.descriptor).present ≡ (dacl_in q.descriptor).present
  pub list : struck (token_in p) (dacl_in p.descriptor).entries ≡ struck (token_in p) (dacl_in q.descriptor).entries
  pub sacl : struck_audits (token_in p) (audits_of (sacl_of p.descriptor)) ≡ struck_audits (token_in p) (audits_of (sacl_of q.descriptor))
  pub rules : AlikeRules (token_in p) (rules_of p.policy) (rules_of q.policy)

-- "it compares events without entry numbers" (request 105)
pub record Raised : Type 0 where
  pub source : ℕ
  pub mask : ℕ

abbrev pub raised : Event → Raised
raised e = record { source = e.source; mask = e.mask }

unfoldable pub unnumbered : List Event → List Raised
unnumbered [] = []
unnumbered (e ∷ es) = raised e ∷ unnumbered es

-- "a policy that gains one rule anywhere"
pub record GainsRule (p q : List ℕ) : Type 0 where
  pub before : List Lists
  pub gained : Lists
  pub after : List Lists
  pub old : rules_of p ≡ before ++ after
  pub new : rules_of q ≡ before ++ gained ∷ after

-- two questions that are the same but for a rule that the second policy has gained
pub record SameButOneRule (p q : Question) : Type 0 where
  pub kind : p.kind ≡ q.kind
  pub mask : p.mask ≡ q.mask
  pub token : p.token ≡ q.token
  pub self : p.self ≡ q.self
  pub descriptor : p.descriptor ≡ q.descriptor
  pub policy : GainsRule p.policy q.policy
