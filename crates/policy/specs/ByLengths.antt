-- How the code goes about it: a policy whose shape is judged already is walked once more, by the lengths of its sections and of their entries
-- alone. Nothing here decides an answer; PolicyLaws shows that an accepted policy's rules are found so.
use Rattle.std.specs.Prelude.{ℕ, zero, suc, List, [], ◌∷◌, false, cond, ltb, eqb, Option, None, Some}
use Rattle.base.specs.Bytes.{u32_at}
use Rattle.lists.specs.ByLength.{entries_by_length}
use Rattle.policy.specs.Policy.{bytes_of, section_at}
use Rattle.policy.specs.Rules.{Lists}
use Rattle.policy.specs.declared.one_rule.Rule.{Rule}

-- the five sections from a place, their lists not scanned
unfoldable pub rule_by_lengths : List ℕ → ℕ → Rule
rule_by_lengths s at =
    let applies = section_at s at in
    let dacl = section_at s applies.to in
    let sacl = section_at s dacl.to in
    let staged = section_at s sacl.to in
    let staged_sacl = section_at s staged.to in
    record {
      next = staged_sacl.to;
      unread = false;
      applies = applies;
      effective = dacl;
      sacl = sacl;
      staged = staged;
      staged_sacl = staged_sacl;
    }

-- a rule whose five sections fit
abbrev pub whole : Rule → Option Rule
whole r =
    cond (eqb r.applies.to 0) None
    (cond (eqb r.effective.to 0) None
    (cond (eqb r.sacl.to 0) None
    (cond (eqb r.staged.to 0) None
    (cond (eqb r.staged_sacl.to 0) None (Some r)))))

-- what a rule says, its entries found by their lengths
abbrev pub lists_by_lengths : List ℕ → Rule → Lists
lists_by_lengths s r =
    record {
      applies = bytes_of s r.applies;
      effective = entries_by_length (bytes_of s r.effective);
      stages = ltb r.staged.from r.staged.to;
      staged = entries_by_length (bytes_of s r.staged);
      sacl = bytes_of s r.sacl;
      staged_sacl = bytes_of s r.staged_sacl;
    }

-- the n rules from a place; they stop where a section does not fit
unfoldable pub rules_by_lengths_at : List ℕ → ℕ → ℕ → List Lists
rules_by_lengths_at s zero at = []
rules_by_lengths_at s (suc n) at =
    let r = rule_by_lengths s at in
    let q = lists_by_lengths s r ∷ rules_by_lengths_at s n r.next in
    cond (eqb r.next 0) [] q

-- an empty policy reads as one of no rules
abbrev pub rules_by_lengths : List ℕ → List Lists
rules_by_lengths s = rules_by_lengths_at s (u32_at s 1) 5
