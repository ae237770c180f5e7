-- "A rule's result is normal evaluation with its DACL for the descriptor's, same owner, without confinement." "Staging flag: some rule with
-- a staged DACL whose effective and staged results differ on asked bits." "The SACL sections are checked for shape and otherwise unused" is
-- no longer so since request 105: they are read by crate audit, and here it is told whether a rule that applies has one.
use Rattle.std.specs.Prelude.{ℕ, zero, suc, List, [], ◌∷◌, Bool, true, false, cond, ◌&&◌, ◌||◌, length, ltb, eqb}
use Rattle.std.specs.Bool.{xor}
use Rattle.base.specs.Bytes.{u32_at}
use Rattle.base.specs.Bits.{and, or, differ, bit}
use Rattle.conditions.specs.Membership.{admits}
use Rattle.lists.specs.Acl.{Entry, entries_of}
use Rattle.records.specs.Crowd.{Member}
use Rattle.passes.specs.OnePass.{member}
use Rattle.passes.specs.NormalEvaluation.{normal_of, listed}
use Rattle.passes.specs.Confinement.{everything}
use Rattle.passes.specs.declared.matching.Hits.{Hits}
use Rattle.policy.specs.Policy.{bytes_of, rule_at}
use Rattle.policy.specs.declared.one_rule.Rule.{Rule}
use Rattle.policy.specs.declared.rules.Ruled.{Ruled}

-- what a rule says: to whom it applies, its effective list, whether it has a staged one, and that; and the bytes of its effective and of
-- its staged SACL, none where the section is empty
pub record Lists : Type 0 where
  pub applies : List ℕ
  pub effective : List Entry
  pub stages : Bool
  pub staged : List Entry
  pub sacl : List ℕ
  pub staged_sacl : List ℕ

abbrev pub lists_of : List ℕ → Rule → Lists
lists_of s r =
    record {
      applies = bytes_of s r.applies;
      effective = entries_of (bytes_of s r.effective);
      stages = ltb r.staged.from r.staged.to;
      staged = entries_of (bytes_of s r.staged);
      sacl = bytes_of s r.sacl;
      staged_sacl = bytes_of s r.staged_sacl;
    }

-- the n rules from a place; they stop at a misshapen one
unfoldable pub rules_at : List ℕ → ℕ → ℕ → List Lists
rules_at s zero at = []
rules_at s (suc n) at = let r = rule_at s at in let q = lists_of s r ∷ rules_at s n r.next in cond (eqb r.next 0) [] q

-- "An empty policy means none."
unfoldable pub rules_of : List ℕ → List Lists
rules_of s = cond (eqb (length s) 0) [] (rules_at s (u32_at s 1) 5)

-- a rule's effective result and its staged one
abbrev pub result_of : ℕ → List Member → Hits → ℕ → List Entry → ℕ
result_of kind ms h p es = normal_of kind ms h p (listed es)

-- the bits left by the rules so far, those on which effective and staged results differ so far, and whether an effective and a staged SACL
-- was met so far
abbrev pub ruled : ℕ → ℕ → Bool → Bool → Ruled
ruled l d a s = record { left = record { 0 = l }; differ = record { 0 = d }; has_sacl = a; has_staged_sacl = s }

-- before the first rule every bit is left
abbrev pub unruled : Ruled
unruled = ruled everything 0 false false

-- whether a SACL section has a list
abbrev pub there : List ℕ → Bool
there l = ltb 0 (length l)

-- "applies_to uses the normal identities" (request 103): a rule applies if it has no condition, or a true one
abbrev pub applies_to : List Member → Hits → Lists → Bool
applies_to ms h r = admits (member ms h) r.applies

-- one rule more that applies
unfoldable pub narrowed_by : ℕ → List Member → Hits → ℕ → Ruled → Lists → Ruled
narrowed_by kind ms h p st r =
    let e = result_of kind ms h p r.effective in
    let q = result_of kind ms h p r.staged in
    ruled (and st.left.0 e) (cond r.stages (or st.differ.0 (differ e q)) st.differ.0)
    (st.has_sacl || there r.sacl) (st.has_staged_sacl || there r.staged_sacl)

-- one rule more. "A rule that does not apply neither narrows nor flags."
unfoldable pub judged_by : ℕ → List Member → Hits → ℕ → Ruled → Lists → Ruled
judged_by kind ms h p st r = let n = narrowed_by kind ms h p st r in cond (applies_to ms h r) n st

unfoldable pub ruled_from : ℕ → List Member → Hits → ℕ → Ruled → List Lists → Ruled
ruled_from kind ms h p st [] = st
ruled_from kind ms h p st (r ∷ rs) = ruled_from kind ms h p (judged_by kind ms h p st r) rs

-- what all rules leave, where staging differs, and which SACLs there are
abbrev pub ruled_by : ℕ → List Member → Hits → ℕ → List Lists → Ruled
ruled_by kind ms h p rs = ruled_from kind ms h p unruled rs

-- the same, bit by bit, without a state: a bit is left if the effective result of every rule that applies has it
unfoldable pub every_rule : ℕ → List Member → Hits → ℕ → List Lists → ℕ → Bool
every_rule kind ms h p [] i = true
every_rule kind ms h p (r ∷ rs) i =
    let q = every_rule kind ms h p rs i in
    cond (applies_to ms h r) (bit (result_of kind ms h p r.effective) i) true && q

-- and staging differs on it if "some rule with a staged DACL" that applies has it in one result and not in the other
unfoldable pub some_stage : ℕ → List Member → Hits → ℕ → List Lists → ℕ → Bool
some_stage kind ms h p [] i = false
some_stage kind ms h p (r ∷ rs) i =
    let q = some_stage kind ms h p rs i in
    let d = xor (bit (result_of kind ms h p r.effective) i) (bit (result_of kind ms h p r.staged) i) in
    cond (applies_to ms h r && r.stages) (d || q) q

-- some rule that applies has an effective SACL, and a staged one
unfoldable pub some_audit : List Member → Hits → List Lists → Bool
some_audit ms h [] = false
some_audit ms h (r ∷ rs) = let q = some_audit ms h rs in cond (applies_to ms h r) (there r.sacl || q) q

unfoldable pub some_staged_audit : List Member → Hits → List Lists → Bool
some_staged_audit ms h [] = false
some_staged_audit ms h (r ∷ rs) = let q = some_staged_audit ms h rs in cond (applies_to ms h r) (there r.staged_sacl || q) q
