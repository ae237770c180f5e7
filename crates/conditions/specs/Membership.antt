-- What an expression comes to for a membership test: "Member_of asks for all SIDs of its list (none: true), Member_of_Any for one (none:
-- false)." Who is a member is not said here.
use Rattle.std.specs.Prelude.{ℕ, zero, suc, ◌+◌, List, [], ◌∷◌, Bool, true, false, cond, not, length, eqb}
use Rattle.base.specs.Bytes.{part}
use Rattle.conditions.specs.Condition.{Item, literal_end, outcome_by}
use Rattle.conditions.specs.Condition.Item.{truth, sids}
use Rattle.conditions.specs.Scanning.{Outcome}
use Rattle.conditions.specs.Scanning.Outcome.{Broken, Foreign, Says}

-- the SIDs of the literals that stand back to back from a place
unfoldable pub sids_at : List ℕ → ℕ → ℕ → List (List ℕ)
sids_at c zero at = []
sids_at c (suc n) at =
    let e = literal_end c at in
    let r = part c (at + 5) e ∷ sids_at c n e in
    cond (eqb e 0) [] r

unfoldable pub sids_of : List ℕ → List (List ℕ)
sids_of c = sids_at c (length c) 0

unfoldable pub all_of : (List ℕ → Bool) → List (List ℕ) → Bool
all_of member [] = true
all_of member (w ∷ l) = let r = all_of member l in cond (member w) r false

unfoldable pub any_of : (List ℕ → Bool) → List (List ℕ) → Bool
any_of member [] = false
any_of member (w ∷ l) = let r = any_of member l in cond (member w) true r

-- all of them, or one
abbrev pub meets : (List ℕ → Bool) → Bool → List (List ℕ) → Bool
meets member every l = cond every (all_of member l) (any_of member l)

-- 0x89 Member_of, 0x8b Member_of_Any, 0x90 and 0x92 their negations
unfoldable pub reply : (List ℕ → Bool) → ℕ → List (List ℕ) → Bool
reply member b l =
    cond (eqb b 0x89) (all_of member l)
    (cond (eqb b 0x8b) (any_of member l)
    (cond (eqb b 0x90) (not (all_of member l)) (not (any_of member l))))

-- what a test is told of the list that stands latest
unfoldable pub told_of : (List ℕ → Bool) → List ℕ → ℕ → List Item → Bool
told_of member s b [] = false
told_of member s b (truth t ∷ st) = false
told_of member s b (sids a e ∷ st) = reply member b (sids_of (part s a e))

-- an expression's outcome, over its bytes and a membership test: broken, an other token, or a truth
abbrev pub outcome : (List ℕ → Bool) → List ℕ → Outcome
outcome member s = outcome_by (told_of member s) s

abbrev pub says : Outcome → Bool
says Broken = false
says Foreign = false
says (Says b) = b

-- a condition admits: there is none, or it is true
unfoldable pub admits : (List ℕ → Bool) → List ℕ → Bool
admits member c = let r = says (outcome member c) in cond (eqb (length c) 0) true r
