-- Request 103's words: "Rules that apply to some callers".
use Rattle.std.specs.Prelude.{ℕ, ◌≡◌, List, [], Bool, true, false}
use Rattle.conditions.specs.Condition.{shape}
use Rattle.conditions.specs.Scanning.Scan.{Plain}
use Rattle.lists.specs.Acl.{callback, Entry}
use Rattle.lists.specs.Descriptor.{owner_of}
use Rattle.records.specs.Crowd.{crowd_of}
use Rattle.passes.specs.Matching.{hits_of}
use Rattle.policy.specs.Rules.{Lists, applies_to}
use Rattle.access.specs.Status.{Question}
use Rattle.demands.specs.Accepted.{token_in}

-- "applies_to uses the normal identities": whether a rule applies to the asker
abbrev pub applies : Question → Lists → Bool
applies q r = applies_to (crowd_of (token_in q)) (hits_of (crowd_of (token_in q)) (owner_of q.descriptor) q.self) r

-- an entry of an accepted list: a callback entry has an expression that is neither broken nor has an other token, and no other has a
-- condition
pub record Conditioned (e : Entry) : Type 0 where
  pub expression : callback e.kind ≡ true → shape e.condition ≡ Plain
  pub none : callback e.kind ≡ false → e.condition ≡ []

-- an entry with another condition
abbrev pub conditioned_by : List ℕ → Entry → Entry
conditioned_by c e = record { kind = e.kind; flags = e.flags; mask = e.mask; sid = e.sid; condition = c }
