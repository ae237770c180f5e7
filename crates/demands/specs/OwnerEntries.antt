-- Request 102's words: "An inherit-only entry says nothing about the object itself", and "Only entries without flag 0x08 count".
use Rattle.std.specs.Prelude.{ℕ, ◌≡◌, List, [], ◌∷◌, ◌++◌, map, true, false, cond}
use Rattle.base.specs.Bits.{and, has}
use Rattle.sids.specs.Sid.{owner_rights}
use Rattle.lists.specs.Acl.{Entry}
use Rattle.lists.specs.Descriptor.{owner_of}
use Rattle.records.specs.Crowd.{crowd_of}
use Rattle.passes.specs.Matching.{stands, hits_of}
use Rattle.passes.specs.NormalEvaluation.{Dacl, listed, list_gives}
use Rattle.passes.specs.Confinement.{confinement_of}
use Rattle.policy.specs.Rules.{Lists, rules_of}
use Rattle.access.specs.Status.{Question, dacl_in}
use Rattle.answers.specs.declared.answer.Answer.{Answer}
use Rattle.demands.specs.Accepted.{token_in, ruled_on}
use Rattle.demands.specs.SomeCallers.{applies}

-- ---- an entry that counts

-- one of a list's entries names S-1-3-4 and has no flag 0x08, whatever its type, its mask, its condition and its other flags
pub record OwnerEntry (es : List Entry) : Type 0 where
  pub before : List Entry
  pub entry : Entry
  pub after : List Entry
  pub split : es ≡ before ++ entry ∷ after
  pub names : entry.sid ≡ owner_rights
  pub counts : has entry.flags 0x08 ≡ false

-- of the lists "in the descriptor and in rule lists" those that the granted mask goes by: the descriptor's, and the effective one of each
-- rule that applies (request 103)
pub data GoesBy (q : Question) : Dacl → Type 0 where
  descriptors : GoesBy q (dacl_in q.descriptor)
  rules :
      (before : List Lists) (r : Lists) (after : List Lists) → rules_of q.policy ≡ before ++ r ∷ after → applies q r ≡ true →
      GoesBy q (listed r.effective)

-- ---- the owner's two rights

-- the asker is the owner: the token matches the descriptor's owner for allow
abbrev pub OwnerAsks : Question → Type 0
OwnerAsks q = stands true (crowd_of (token_in q)) (owner_of q.descriptor) ≡ true

-- 0x20000 and 0x40000, where confinement leaves them; of a token that is not confined, or exempt, both
abbrev pub owners_rights : Question → ℕ
owners_rights q = and 0x60000 (confinement_of q.kind (token_in q) (owner_of q.descriptor) q.self (dacl_in q.descriptor))

-- what a list by itself allows the token; a null DACL allows the kind's all bits
abbrev pub its_list : Question → Dacl → ℕ
its_list q d = list_gives q.kind (crowd_of (token_in q)) (hits_of (crowd_of (token_in q)) (owner_of q.descriptor) q.self) d

-- ---- lists without their inherit-only entries

-- the entries that say something "about the object itself"
unfoldable pub of_object : List Entry → List Entry
of_object [] = []
of_object (e ∷ es) = let r = of_object es in cond (has e.flags 0x08) r (e ∷ r)

abbrev pub object_list : Dacl → Dacl
object_list d = record { present = d.present; entries = of_object d.entries }

abbrev pub object_lists : Lists → Lists
object_lists r =
    record {
      applies = r.applies;
      effective = of_object r.effective;
      stages = r.stages;
      staged = of_object r.staged;
      sacl = r.sacl;
      staged_sacl = r.staged_sacl;
    }

-- the answer of the rules with every list so: the descriptor's, each rule's effective and staged one. The SACLs stay as they are
abbrev pub by_object : Question → Answer
by_object q =
    ruled_on q.kind q.mask (token_in q) (owner_of q.descriptor) q.self (object_list (dacl_in q.descriptor))
    (map object_lists (rules_of q.policy))
