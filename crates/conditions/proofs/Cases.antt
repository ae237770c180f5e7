-- The definitions tried on small expressions, by computation: shapes, each boundary from both sides, and truths for one identity.
-- Assumes nothing.
use Prim.Native.Nat.{ℕ, zero, suc}
use mathlib.Core.Path.{◌≡◌, refl}
use mathlib.Core.List.{List, [], ◌∷◌, ◌++◌, map}
use mathlib.Core.Bool.{true, false}
use Rattle.base.specs.Bytes.{u32_at, same}
use Rattle.conditions.specs.Condition.{zeros}
use Rattle.sids.specs.Sid.{sid_end, is_sid}
use Rattle.conditions.specs.Condition.{enclosed_end, literal_end, literals_at, literals, push, literal, composite, answered, paired}
use Rattle.conditions.specs.Condition.{negated}
use Rattle.conditions.specs.Condition.{step_at, ended, run_from, outcome_by, shape}
use Rattle.conditions.specs.Membership.{sids_at, sids_of, all_of, any_of, reply, told_of, outcome}
use Rattle.conditions.specs.Scanning.Scan.{Broken, Foreign, Plain}
use Rattle.conditions.specs.Scanning.{Outcome as out}

-- S-1-5-7 and S-1-5-9; a literal
seven : List ℕ
seven = 1 ∷ 1 ∷ 0 ∷ 0 ∷ 0 ∷ 0 ∷ 0 ∷ 5 ∷ 7 ∷ 0 ∷ 0 ∷ 0 ∷ []

nine : List ℕ
nine = 1 ∷ 1 ∷ 0 ∷ 0 ∷ 0 ∷ 0 ∷ 0 ∷ 5 ∷ 9 ∷ 0 ∷ 0 ∷ 0 ∷ []

one : List ℕ → List ℕ
one w = 0x51 ∷ 12 ∷ 0 ∷ 0 ∷ 0 ∷ w

-- none, and both
none : List ℕ
none = 0x50 ∷ 0 ∷ 0 ∷ 0 ∷ 0 ∷ []

both : List ℕ
both = 0x50 ∷ 34 ∷ 0 ∷ 0 ∷ 0 ∷ one seven ++ one nine

times : ℕ → List ℕ → List ℕ
times zero l = []
times (suc n) l = l ++ times n l

artx : List ℕ → List ℕ
artx l = 0x61 ∷ 0x72 ∷ 0x74 ∷ 0x78 ∷ l

-- nothing at all, no token, padding alone; a test of a literal, padded or not, and with a byte after its padding
plain : map shape ([] ∷ artx [] ∷ artx (0 ∷ []) ∷ artx (one seven ++ 0x89 ∷ []) ∷ artx (one seven ++ 0x89 ∷ 0 ∷ 0 ∷ [])
    ∷ artx (one seven ++ 0x89 ∷ 0 ∷ 1 ∷ []) ∷ [])
    ≡ Broken ∷ Broken ∷ Broken ∷ Plain ∷ Plain ∷ Broken ∷ []
unfolding shape outcome_by run_from ended step_at literal composite literals literals_at push answered paired negated enclosed_end literal_end
    is_sid sid_end u32_at
    zeros seven nine one none both times artx
plain = refl

-- the first fault from the left: an other token, and one before a literal that is cut off; a test of a truth before an other token
first : map shape (artx (0xa3 ∷ []) ∷ artx (0xa3 ∷ 0x51 ∷ 12 ∷ []) ∷ artx (0x51 ∷ 12 ∷ 0xa3 ∷ []) ∷ artx
    (one seven ++ 0x89 ∷ 0x89 ∷ 0xa3 ∷ [])
    ∷ artx (one seven ++ 0xa2 ∷ []) ∷ artx (one seven ++ one seven) ∷ artx (one seven) ∷ [])
    ≡ Foreign ∷ Foreign ∷ Broken ∷ Broken ∷ Broken ∷ Broken ∷ Broken ∷ []
unfolding shape outcome_by run_from ended step_at literal composite literals literals_at push answered paired negated enclosed_end literal_end
    is_sid sid_end u32_at
    zeros seven nine one none both times artx
first = refl

-- inside a composite: an other token, a token of the profile, padding; a length that does not fit, though an other token stands inside
inside : map shape (artx (0x50 ∷ 1 ∷ 0 ∷ 0 ∷ 0 ∷ 0xa3 ∷ []) ∷ artx (0x50 ∷ 1 ∷ 0 ∷ 0 ∷ 0 ∷ 0x50 ∷ []) ∷ artx (0x50 ∷ 1 ∷ 0 ∷ 0 ∷ 0 ∷ 0 ∷ [])
    ∷ artx (0x50 ∷ 2 ∷ 0 ∷ 0 ∷ 0 ∷ 0xa3 ∷ []) ∷ artx (both ++ 0x92 ∷ []) ∷ [])
    ≡ Foreign ∷ Broken ∷ Broken ∷ Broken ∷ Plain ∷ []
unfolding shape outcome_by run_from ended step_at literal composite literals literals_at push answered paired negated enclosed_end literal_end
    is_sid sid_end u32_at
    zeros seven nine one none both times artx
inside = refl

-- a literal's length is its SID's
lengths : map shape (artx (0x51 ∷ 13 ∷ 0 ∷ 0 ∷ 0 ∷ seven ++ 0 ∷ 0x89 ∷ []) ∷ artx (0x51 ∷ 11 ∷ 0 ∷ 0 ∷ 0 ∷ seven ++ 0x89 ∷ []) ∷ [])
    ≡ Broken ∷ Broken ∷ []
unfolding shape outcome_by run_from ended step_at literal composite literals literals_at push answered paired negated enclosed_end literal_end
    is_sid sid_end u32_at
    zeros seven nine one none both times artx
lengths = refl

-- 32 operands at once are fine, so that what follows is read; 33 are broken
deep : map shape (artx (times 32 none ++ 0xa3 ∷ []) ∷ artx (times 33 none ++ 0xa3 ∷ []) ∷ []) ≡ Foreign ∷ Broken ∷ []
unfolding shape outcome_by run_from ended step_at literal composite literals literals_at push answered paired negated enclosed_end literal_end
    is_sid sid_end u32_at
    zeros seven nine one none both times artx
deep = refl

-- truths for S-1-5-7 alone: all and any of one, of both and of none; negations; and, or, not
truths : map (outcome (λ (w : List ℕ). same w seven))
    (artx (one seven ++ 0x89 ∷ []) ∷ artx (one nine ++ 0x89 ∷ []) ∷ artx (both ++ 0x89 ∷ []) ∷ artx
    (both ++ 0x8b ∷ [])
    ∷ artx (none ++ 0x89 ∷ []) ∷ artx (none ++ 0x8b ∷ []) ∷ artx (both ++ 0x90 ∷ []) ∷ artx (both ++ 0x92 ∷ [])
    ∷ artx (one seven ++ 0x89 ∷ one nine ++ 0x89 ∷ 0xa0 ∷ []) ∷ artx (one seven ++ 0x89 ∷ one nine ++ 0x89 ∷ 0xa1 ∷ [])
    ∷ artx (one seven ++ 0x89 ∷ 0xa2 ∷ []) ∷ [])
    ≡ out.Says true ∷ out.Says false ∷ out.Says false ∷ out.Says true
    ∷ out.Says true ∷ out.Says false ∷ out.Says true ∷ out.Says false
    ∷ out.Says false ∷ out.Says true
    ∷ out.Says false ∷ []
unfolding shape outcome_by run_from ended step_at literal composite literals literals_at push answered paired negated enclosed_end literal_end
    is_sid sid_end u32_at
    zeros same sids_at sids_of all_of any_of reply told_of seven nine one none both times artx
truths = refl
