-- Request 101's words: "spare bytes never alter an answer". "Lists read the same if their entries agree in order in type, flags, mask and SID":
-- an entry's spare bytes are none of these. "Audit entries get 101's shape rule" (request 105).
use Rattle.std.specs.Prelude.{◌≡◌, List, map, Bool, ℕ}
use Rattle.lists.specs.Acl.{Entry}
use Rattle.lists.specs.Descriptor.{owner_of, sacl_of}
use Rattle.policy.specs.Rules.{Lists, rules_of, there}
use Rattle.audit.specs.Events.{Audit, audits_of}
use Rattle.access.specs.Status.{Question, dacl_in}

-- what a rule's lists say, with its applies_to section, whether one is staged and whether a SACL is
pub record Said : Type 0 where
  pub applies : List ℕ
  pub effective : List Entry
  pub stages : Bool
  pub staged : List Entry
  pub sacl : List Audit
  pub stages_sacl : Bool
  pub staged_sacl : List Audit

abbrev pub said_by : Lists → Said
said_by r =
    record {
      applies = r.applies;
      effective = r.effective;
      stages = r.stages;
      staged = r.staged;
      sacl = audits_of r.sacl;
      stages_sacl = there r.staged_sacl;
      staged_sacl = audits_of r.staged_sacl;
    }

-- two questions alike in token, kind, mask, self identity, owner and presence of the list, whose lists read the same: the descriptor's and
-- its SACL, and each rule's effective and staged ones, rule for rule, with equal applies_to sections
pub record ReadTheSame (p q : Question) : Type 0 where
  pub kind : p.kind ≡ q.kind
  pub mask : p.mask ≡ q.mask
  pub token : p.token ≡ q.token
  pub self : p.self ≡ q.self
  pub owner : owner_of p.descriptor ≡ owner_of q.descriptor
  pub present : (dacl_in p.descriptor).present ≡ (dacl_in q.descriptor).present
  pub list : (dacl_in p.descriptor).entries ≡ (dacl_in q.descriptor).entries
  pub sacl : audits_of (sacl_of p.descriptor) ≡ audits_of (sacl_of q.descriptor)
  pub rules : map said_by (rules_of p.policy) ≡ map said_by (rules_of q.policy)
