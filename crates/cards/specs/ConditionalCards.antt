-- Request 103 worked out, beside the bench cards: entries with a condition in the descriptor's list, and rules that apply to some callers.
-- The asker is U, S-1-5-0-7, and W, S-1-5-7, where that is said; the owner is W.
use Rattle.std.specs.Prelude.{ℕ, List, [], ◌∷◌, ◌++◌, true, false}
use Rattle.sids.specs.Sid.{owner_rights}
use Rattle.answers.specs.Granted.{refused}
use Rattle.cards.specs.Cards.{asks, stepwise, given, Card, ◌⇒◌, TU, TW, D}

abbrev U : List ℕ
U = 1 ∷ 2 ∷ 0 ∷ 0 ∷ 0 ∷ 0 ∷ 0 ∷ 5 ∷ 0 ∷ 0 ∷ 0 ∷ 0 ∷ 7 ∷ 0 ∷ 0 ∷ 0 ∷ []

abbrev W : List ℕ
W = 1 ∷ 1 ∷ 0 ∷ 0 ∷ 0 ∷ 0 ∷ 0 ∷ 5 ∷ 7 ∷ 0 ∷ 0 ∷ 0 ∷ []

-- an expression of 28 bytes: an operand and an operator, or what stands for them, and zero padding
abbrev artx : List ℕ → List ℕ
artx l = 0x61 ∷ 0x72 ∷ 0x74 ∷ 0x78 ∷ l

-- of U, of W, of nobody
abbrev of_u : ℕ → List ℕ
of_u b = artx (0x51 ∷ 16 ∷ 0 ∷ 0 ∷ 0 ∷ U ++ b ∷ 0 ∷ 0 ∷ [])

abbrev of_w : ℕ → List ℕ
of_w b = artx (0x51 ∷ 12 ∷ 0 ∷ 0 ∷ 0 ∷ W ++ b ∷ 0 ∷ 0 ∷ 0 ∷ 0 ∷ 0 ∷ 0 ∷ [])

abbrev of_nobody : ℕ → List ℕ
of_nobody b = artx (0x50 ∷ 0 ∷ 0 ∷ 0 ∷ 0 ∷ b ∷ 0 ∷ 0 ∷ 0 ∷ 0 ∷ 0 ∷ 0 ∷ 0 ∷ 0 ∷ 0 ∷ 0 ∷ 0 ∷ 0 ∷ 0 ∷ 0 ∷ 0 ∷ 0 ∷ 0 ∷ 0 ∷ [])

-- an entry of a type for U, of 52 bytes, with 1 as its mask; then an allow entry for U, of 24
abbrev listed : ℕ → ℕ → List ℕ → List ℕ
listed t m c =
    2 ∷ 0 ∷ 84 ∷ 0 ∷ 2 ∷ 0 ∷ 0 ∷ 0 ∷
    t ∷ 0 ∷ 52 ∷ 0 ∷ 1 ∷ 0 ∷ 0 ∷ 0 ∷ (U ++ (c ++ (0 ∷ 0 ∷ 24 ∷ 0 ∷ m ∷ 0 ∷ 0 ∷ 0 ∷ U)))

-- an entry of type 9 for S-1-3-4, of 48 bytes
abbrev owner_listed : List ℕ → List ℕ
owner_listed c = 2 ∷ 0 ∷ 56 ∷ 0 ∷ 1 ∷ 0 ∷ 0 ∷ 0 ∷ 9 ∷ 0 ∷ 48 ∷ 0 ∷ 0 ∷ 0 ∷ 0 ∷ 0 ∷ (owner_rights ++ c)

-- a descriptor of W's with a list
abbrev holding : List ℕ → List ℕ
holding l =
    1 ∷ 0 ∷ 4 ∷ 128 ∷ 20 ∷ 0 ∷ 0 ∷ 0 ∷ 0 ∷ 0 ∷ 0 ∷ 0 ∷ 0 ∷ 0 ∷ 0 ∷ 0 ∷ 32 ∷ 0 ∷ 0 ∷ 0 ∷ (W ++ l)

-- one rule, for whom an expression of 28 bytes is true, that grants nothing
abbrev ruling : List ℕ → List ℕ
ruling c =
    1 ∷ 1 ∷ 0 ∷ 0 ∷ 0 ∷ 28 ∷ 0 ∷ 0 ∷ 0 ∷
    (c ++ (8 ∷ 0 ∷ 0 ∷ 0 ∷ 2 ∷ 0 ∷ 8 ∷ 0 ∷ 0 ∷ 0 ∷ 0 ∷ 0 ∷ 0 ∷ 0 ∷ 0 ∷ 0 ∷ 0 ∷ 0 ∷ 0 ∷ 0 ∷ 0 ∷ 0 ∷ 0 ∷ 0 ∷ []))

abbrev pub conditional : List Card
conditional =
    -- allow 1 if a member of U, of W: U is one of the first alone
    (asks 1 3 TU [] (holding (listed 9 2 (of_u 0x89))) [] ⇒ given 3 true false) ∷
    (asks 1 3 TU [] (holding (listed 9 2 (of_w 0x89))) [] ⇒ given 2 false false) ∷
    -- deny 1 on the same terms, then allow 3: a deny that does not speak says nothing
    (asks 1 3 TU [] (holding (listed 10 3 (of_u 0x8b))) [] ⇒ given 2 false false) ∷
    (asks 1 3 TU [] (holding (listed 10 3 (of_w 0x8b))) [] ⇒ given 3 true false) ∷
    -- negations
    (asks 1 3 TU [] (holding (listed 9 2 (of_u 0x90))) [] ⇒ given 2 false false) ∷
    (asks 1 3 TU [] (holding (listed 9 2 (of_w 0x92))) [] ⇒ given 3 true false) ∷
    -- "Member_of asks for all SIDs of its list (none: true), Member_of_Any for one (none: false)"
    (asks 1 3 TU [] (holding (listed 9 2 (of_nobody 0x89))) [] ⇒ given 3 true false) ∷
    (asks 1 3 TU [] (holding (listed 9 2 (of_nobody 0x8b))) [] ⇒ given 2 false false) ∷
    -- a list without a question is broken; an other token stands behind it
    (asks 1 3 TU [] (holding (listed 9 2 (of_u 0))) [] ⇒ refused 6) ∷
    (asks 1 3 TU [] (holding (listed 9 2 (of_u 0xa3))) [] ⇒ refused 8) ∷
    -- "a callback entry naming S-1-3-4 counts whatever its condition": W asks for an owner's right
    (asks 1 0x20000 TW [] (holding (owner_listed (of_w 0x89))) [] ⇒ given 0 false false) ∷
    (asks 1 0x20000 TW [] (holding (owner_listed (of_w 0x90))) [] ⇒ given 0 false false) ∷
    -- "A rule that does not apply neither narrows nor flags."
    (asks 1 0x80000000 TU [] D (ruling (of_w 0x89)) ⇒ given 0x120089 true false) ∷
    (asks 1 0x80000000 TU [] D (ruling (of_u 0x89)) ⇒ stepwise 0x120089 0x120089 0 0 false false) ∷
    (asks 1 0x80000000 TU [] D (ruling (of_u 0)) ⇒ refused 9) ∷
    (asks 1 0x80000000 TU [] D (ruling (of_u 0xa3)) ⇒ refused 10) ∷
    []
