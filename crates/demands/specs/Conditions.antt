-- "Given exactly when": the table of status numbers, line by line. Each condition is said of the whole question, whatever the others
-- say; the order of checking enters by `lowest` alone. Proved equal to what the check gives: proofs/StatusLaws.antt.
use Rattle.std.specs.Prelude.{ℕ, List, [], ◌∷◌, Bool, true, false, cond, not, ◌&&◌, ◌||◌, length, ltb, eqb}
use Rattle.base.specs.Bytes.{Read, byte_at, u32_at}
use Rattle.base.specs.Bytes.Read.{none, some}
use Rattle.lists.specs.Descriptor.{heading, owner_piece, group_piece, sacl_piece, dacl_piece, bad, alien}
use Rattle.records.specs.Token.{Token}
use Rattle.records.specs.TokenRecord.{read_record}
use Rattle.records.specs.TokenRules.{keeps}
use Rattle.masks.specs.KindsAndMasks.{known_kind, legal}
use Rattle.policy.specs.Policy.{rules_shaped, rules_unread}
use Rattle.access.specs.Status.{Question, self_fits}
use Rattle.questions.specs.QuestionFile.{question_of}

-- | No. | Given exactly when |
pub record Line : Type 0 where
  pub number : ℕ
  pub holds : Bool

infix 5 ◌when◌
abbrev pub ◌when◌ : ℕ → Bool → Line
n when b = record { number = n; holds = b }

-- "the lowest number that applies is given": lines stand by number; 0 where none holds
unfoldable pub lowest : List Line → ℕ
lowest [] = 0
lowest (l ∷ ls) = let r = lowest ls in cond l.holds l.number r

-- some line holds
unfoldable pub some_holds : List Line → Bool
some_holds [] = false
some_holds (l ∷ ls) = let r = some_holds ls in cond l.holds true r

-- 3: "token record misshapen"
abbrev pub misshapen : {A : Type 0} → Read A → Bool
misshapen none = true
misshapen (some a end) = false

-- 4: "token breaks a token rule"
abbrev pub breaks : Read Token → Bool
breaks none = false
breaks (some t end) = not (keeps t)

-- 6: "descriptor misshapen"
unfoldable pub descriptor_misshapen : List ℕ → Bool
descriptor_misshapen d = not (heading d) || bad (owner_piece d) || bad (group_piece d) || bad (sacl_piece d) || bad (dacl_piece d)

-- 7: "descriptor's owner offset is 0"
unfoldable pub ownerless : List ℕ → Bool
ownerless d = eqb (u32_at d 4) 0

-- 8: "descriptor's DACL holds an entry type other than 0 or 1", other than 9 and 10 too since request 103, or an other token in a condition
unfoldable pub foreign_dacl : List ℕ → Bool
foreign_dacl d = alien (dacl_piece d)

-- 9: "policy misshapen"; "An empty policy means none."
unfoldable pub policy_misshapen : List ℕ → Bool
policy_misshapen p =
    not (eqb (length p) 0)
    && (ltb 262144 (length p)
    || ltb (length p) 5
    || not (eqb (byte_at p 0) 1)
    || ltb 256 (u32_at p 1)
    || not (rules_shaped p (u32_at p 1) 5))

-- 10: "a rule's effective or staged DACL an entry type other than 0 or 1", other than 9 and 10 too since request 103, or an other token in
-- a condition or in an applies_to; "policy has an applies_to" is withdrawn
unfoldable pub policy_unread : List ℕ → Bool
policy_unread p = rules_unread p (u32_at p 1) 5

abbrev pub conditions : Question → List Line
conditions q =
    (1 when not (known_kind q.kind)) ∷
    (2 when not (legal q.kind q.mask)) ∷
    (3 when misshapen (read_record q.token)) ∷
    (4 when breaks (read_record q.token)) ∷
    (5 when not (self_fits q.self)) ∷
    (6 when descriptor_misshapen q.descriptor) ∷
    (7 when ownerless q.descriptor) ∷
    (8 when foreign_dacl q.descriptor) ∷
    (9 when policy_misshapen q.policy) ∷
    (10 when policy_unread q.policy) ∷
    []

-- 12: "question file misshapen or above 65,536 bytes"
unfoldable pub file_misshapen : List ℕ → Bool
file_misshapen s = ltb 65536 (length s) || misshapen (question_of s)
