-- Request 106 worked out, beside the bench cards: a scanner that loses a right at each step. It runs for U, S-1-5-0-7, confined as S-1-15-2-9
-- with the capability S-1-15-2-2; the owner is W, S-1-5-7.
use Rattle.std.specs.Prelude.{ℕ, List, [], ◌∷◌, true, false}
use Rattle.access.specs.Status.{Question}
use Rattle.cards.specs.Cards.{asks, stepwise, Card, ◌⇒◌, token_4, token_5}

-- allows U read data, write data and execute, and S-1-15-2-2 read data and write data
abbrev pub sample : List ℕ
sample =
    1 ∷ 0 ∷ 4 ∷ 128 ∷ 20 ∷ 0 ∷ 0 ∷ 0 ∷ 0 ∷ 0 ∷ 0 ∷ 0 ∷ 0 ∷ 0 ∷ 0 ∷ 0 ∷ 32 ∷ 0 ∷ 0 ∷ 0 ∷ 1 ∷ 1 ∷ 0 ∷ 0 ∷ 0 ∷ 0 ∷ 0 ∷ 5 ∷ 7 ∷ 0 ∷ 0 ∷ 0 ∷ 2
    ∷ 0 ∷ 56 ∷ 0 ∷ 2 ∷ 0 ∷ 0 ∷ 0 ∷ 0 ∷ 0 ∷ 24 ∷ 0 ∷ 35 ∷ 0 ∷ 0 ∷ 0 ∷ 1 ∷ 2 ∷ 0 ∷ 0 ∷ 0 ∷ 0 ∷ 0 ∷ 5 ∷ 0 ∷ 0 ∷ 0 ∷ 0 ∷ 7 ∷ 0 ∷ 0 ∷ 0 ∷ 0 ∷
    0 ∷ 24 ∷ 0 ∷ 3 ∷ 0 ∷ 0 ∷ 0 ∷ 1 ∷ 2 ∷ 0 ∷ 0 ∷ 0 ∷ 0 ∷ 0 ∷ 15 ∷ 2 ∷ 0 ∷ 0 ∷ 0 ∷ 2 ∷ 0 ∷ 0 ∷ 0 ∷ []

-- one rule, which allows U read data
abbrev pub board : List ℕ
board =
    1 ∷ 1 ∷ 0 ∷ 0 ∷ 0 ∷ 0 ∷ 0 ∷ 0 ∷ 0 ∷ 32 ∷ 0 ∷ 0 ∷ 0 ∷ 2 ∷ 0 ∷ 32 ∷ 0 ∷ 1 ∷ 0 ∷ 0 ∷ 0 ∷ 0 ∷ 0 ∷ 24 ∷ 0 ∷ 1 ∷ 0 ∷ 0 ∷ 0 ∷ 1 ∷ 2 ∷ 0 ∷ 0
    ∷ 0 ∷ 0 ∷ 0 ∷ 5 ∷ 0 ∷ 0 ∷ 0 ∷ 0 ∷ 7 ∷ 0 ∷ 0 ∷ 0 ∷ 0 ∷ 0 ∷ 0 ∷ 0 ∷ 0 ∷ 0 ∷ 0 ∷ 0 ∷ 0 ∷ 0 ∷ 0 ∷ 0 ∷ []

-- asks for read data, write data, execute and delete
abbrev pub scanner : Question
scanner = asks 1 0x10023 token_4 [] sample board

abbrev pub steps : List Card
steps =
    -- delete is in no entry, execute in none of the scanner's own, write data not in the rule
    (scanner ⇒ stepwise 0x23 0x3 0x1 0x1 false false) ∷
    -- the maximum: the same rights, and one is enough
    (asks 1 0x2000000 token_4 [] sample board ⇒ stepwise 0x23 0x3 0x1 0x1 true false) ∷
    -- exempt: confinement takes nothing
    (asks 1 0x10023 token_5 [] sample board ⇒ stepwise 0x23 0x23 0x1 0x1 false false) ∷
    -- without a policy the last step takes nothing
    (asks 1 0x10023 token_4 [] sample [] ⇒ stepwise 0x23 0x3 0x3 0x3 false false) ∷
    -- of bits that are not asked no mask has one
    (asks 1 0x2 token_4 [] sample board ⇒ stepwise 0x2 0x2 0x0 0x0 false false) ∷
    []
