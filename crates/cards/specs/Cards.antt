-- "Bench cards": every starred card with its sub-cases, and a worked refusal for each number with the neighbours that decide the order, as bytes.
-- U is S-1-5-0-7, W is S-1-5-7. Where a card gives a change in words, its bytes are written out here.
use Rattle.std.specs.Prelude.{ℕ, zero, suc, List, [], ◌∷◌, ◌++◌, Bool, true, false}
use Rattle.base.specs.Bytes.{little}
use Rattle.answers.specs.Granted.{refused}
use Rattle.access.specs.Status.{Question}
use Rattle.answers.specs.declared.answer.Answer.{Answer}

abbrev pub asks : ℕ → ℕ → List ℕ → List ℕ → List ℕ → List ℕ → Question
asks k m t s d p = record { kind = k; mask = m; token = t; self = s; descriptor = d; policy = p }

-- an answer by its masks after normal evaluation, after confinement, after policy, and granted; then allowed and staged
abbrev pub stepwise : ℕ → ℕ → ℕ → ℕ → Bool → Bool → Answer
stepwise n c p g a s =
    record {
      status = 0;
      normal = record { 0 = n };
      confined = record { 0 = c };
      ruled = record { 0 = p };
      granted = record { 0 = g };
      allowed = a;
      staged = s;
    }

-- an answer whose masks are the same after every step
abbrev pub given : ℕ → Bool → Bool → Answer
given g a s = stepwise g g g g a s

pub record Card : Type 0 where
  pub question : Question
  pub answer : Answer

infixr 4 ◌⇒◌
abbrev pub ◌⇒◌ : Question → Answer → Card
q ⇒ a = record { question = q; answer = a }

-- n rules, each an empty effective list and four empty sections, as bytes
unfoldable pub many_rules : ℕ → List ℕ
many_rules zero = []
many_rules (suc n) =
    0 ∷ 0 ∷ 0 ∷ 0 ∷ 8 ∷ 0 ∷ 0 ∷ 0 ∷ 2 ∷ 0 ∷ 8 ∷ 0 ∷ 0 ∷ 0 ∷ 0 ∷ 0 ∷ 0 ∷ 0 ∷ 0 ∷ 0 ∷ 0 ∷ 0 ∷ 0 ∷ 0 ∷ 0 ∷ 0 ∷ 0 ∷ 0 ∷ many_rules n

abbrev pub policy_of : ℕ → List ℕ
policy_of n = 1 ∷ (little 4 n ++ many_rules n)

abbrev pub TU : List ℕ
TU =
    1 ∷ 0 ∷ 0 ∷ 2 ∷ 5 ∷ 0 ∷ 7 ∷ 0 ∷ []

abbrev pub TW : List ℕ
TW =
    1 ∷ 0 ∷ 0 ∷ 1 ∷ 5 ∷ 7 ∷ 0 ∷ []

abbrev pub D : List ℕ
D =
    1 ∷ 0 ∷ 4 ∷ 128 ∷ 20 ∷ 0 ∷ 0 ∷ 0 ∷ 0 ∷ 0 ∷ 0 ∷ 0 ∷ 0 ∷ 0 ∷ 0 ∷ 0 ∷ 32 ∷ 0 ∷ 0 ∷ 0 ∷ 1 ∷ 1 ∷ 0 ∷ 0 ∷ 0 ∷ 0 ∷ 0 ∷ 5 ∷ 7 ∷ 0 ∷ 0 ∷ 0 ∷ 2
    ∷ 0 ∷ 32 ∷ 0 ∷ 1 ∷ 0 ∷ 0 ∷ 0 ∷ 0 ∷ 0 ∷ 24 ∷ 0 ∷ 0 ∷ 0 ∷ 0 ∷ 128 ∷ 1 ∷ 2 ∷ 0 ∷ 0 ∷ 0 ∷ 0 ∷ 0 ∷ 5 ∷ 0 ∷ 0 ∷ 0 ∷ 0 ∷ 7 ∷ 0 ∷ 0 ∷ 0 ∷ []

abbrev pub token_1 : List ℕ
token_1 =
    1 ∷ 0 ∷ 0 ∷ 2 ∷ 5 ∷ 0 ∷ 7 ∷ 1 ∷ 1 ∷ 5 ∷ 9 ∷ 4 ∷ []

abbrev pub descriptor_1 : List ℕ
descriptor_1 =
    1 ∷ 0 ∷ 4 ∷ 128 ∷ 20 ∷ 0 ∷ 0 ∷ 0 ∷ 0 ∷ 0 ∷ 0 ∷ 0 ∷ 0 ∷ 0 ∷ 0 ∷ 0 ∷ 32 ∷ 0 ∷ 0 ∷ 0 ∷ 1 ∷ 1 ∷ 0 ∷ 0 ∷ 0 ∷ 0 ∷ 0 ∷ 5 ∷ 7 ∷ 0 ∷ 0 ∷ 0 ∷ 2
    ∷ 0 ∷ 52 ∷ 0 ∷ 2 ∷ 0 ∷ 0 ∷ 0 ∷ 1 ∷ 0 ∷ 20 ∷ 0 ∷ 2 ∷ 0 ∷ 0 ∷ 0 ∷ 1 ∷ 1 ∷ 0 ∷ 0 ∷ 0 ∷ 0 ∷ 0 ∷ 5 ∷ 9 ∷ 0 ∷ 0 ∷ 0 ∷ 0 ∷ 0 ∷ 24 ∷ 0 ∷ 3 ∷
    0 ∷ 0 ∷ 0 ∷ 1 ∷ 2 ∷ 0 ∷ 0 ∷ 0 ∷ 0 ∷ 0 ∷ 5 ∷ 0 ∷ 0 ∷ 0 ∷ 0 ∷ 7 ∷ 0 ∷ 0 ∷ 0 ∷ []

abbrev pub token_2 : List ℕ
token_2 =
    1 ∷ 0 ∷ 0 ∷ 2 ∷ 5 ∷ 0 ∷ 7 ∷ 1 ∷ 1 ∷ 5 ∷ 9 ∷ 16 ∷ []

abbrev pub token_3 : List ℕ
token_3 =
    1 ∷ 0 ∷ 0 ∷ 2 ∷ 5 ∷ 0 ∷ 7 ∷ 1 ∷ 1 ∷ 5 ∷ 9 ∷ 0 ∷ []

abbrev pub descriptor_2 : List ℕ
descriptor_2 =
    1 ∷ 0 ∷ 4 ∷ 128 ∷ 20 ∷ 0 ∷ 0 ∷ 0 ∷ 0 ∷ 0 ∷ 0 ∷ 0 ∷ 0 ∷ 0 ∷ 0 ∷ 0 ∷ 32 ∷ 0 ∷ 0 ∷ 0 ∷ 1 ∷ 1 ∷ 0 ∷ 0 ∷ 0 ∷ 0 ∷ 0 ∷ 5 ∷ 7 ∷ 0 ∷ 0 ∷ 0 ∷ 2
    ∷ 0 ∷ 52 ∷ 0 ∷ 2 ∷ 0 ∷ 0 ∷ 0 ∷ 0 ∷ 0 ∷ 24 ∷ 0 ∷ 3 ∷ 0 ∷ 0 ∷ 0 ∷ 1 ∷ 2 ∷ 0 ∷ 0 ∷ 0 ∷ 0 ∷ 0 ∷ 5 ∷ 0 ∷ 0 ∷ 0 ∷ 0 ∷ 7 ∷ 0 ∷ 0 ∷ 0 ∷ 1 ∷ 0
    ∷ 20 ∷ 0 ∷ 2 ∷ 0 ∷ 0 ∷ 0 ∷ 1 ∷ 1 ∷ 0 ∷ 0 ∷ 0 ∷ 0 ∷ 0 ∷ 5 ∷ 9 ∷ 0 ∷ 0 ∷ 0 ∷ []

abbrev pub descriptor_3 : List ℕ
descriptor_3 =
    1 ∷ 0 ∷ 4 ∷ 128 ∷ 20 ∷ 0 ∷ 0 ∷ 0 ∷ 0 ∷ 0 ∷ 0 ∷ 0 ∷ 0 ∷ 0 ∷ 0 ∷ 0 ∷ 32 ∷ 0 ∷ 0 ∷ 0 ∷ 1 ∷ 1 ∷ 0 ∷ 0 ∷ 0 ∷ 0 ∷ 0 ∷ 5 ∷ 7 ∷ 0 ∷ 0 ∷ 0 ∷ 2
    ∷ 0 ∷ 32 ∷ 0 ∷ 1 ∷ 0 ∷ 0 ∷ 0 ∷ 0 ∷ 0 ∷ 24 ∷ 0 ∷ 3 ∷ 0 ∷ 0 ∷ 0 ∷ 1 ∷ 2 ∷ 0 ∷ 0 ∷ 0 ∷ 0 ∷ 0 ∷ 5 ∷ 0 ∷ 0 ∷ 0 ∷ 0 ∷ 7 ∷ 0 ∷ 0 ∷ 0 ∷ []

abbrev pub policy_1 : List ℕ
policy_1 =
    1 ∷ 1 ∷ 0 ∷ 0 ∷ 0 ∷ 0 ∷ 0 ∷ 0 ∷ 0 ∷ 32 ∷ 0 ∷ 0 ∷ 0 ∷ 2 ∷ 0 ∷ 32 ∷ 0 ∷ 1 ∷ 0 ∷ 0 ∷ 0 ∷ 0 ∷ 0 ∷ 24 ∷ 0 ∷ 1 ∷ 0 ∷ 0 ∷ 0 ∷ 1 ∷ 2 ∷ 0 ∷ 0
    ∷ 0 ∷ 0 ∷ 0 ∷ 5 ∷ 0 ∷ 0 ∷ 0 ∷ 0 ∷ 7 ∷ 0 ∷ 0 ∷ 0 ∷ 0 ∷ 0 ∷ 0 ∷ 0 ∷ 32 ∷ 0 ∷ 0 ∷ 0 ∷ 2 ∷ 0 ∷ 32 ∷ 0 ∷ 1 ∷ 0 ∷ 0 ∷ 0 ∷ 0 ∷ 0 ∷ 24 ∷ 0 ∷
    3 ∷ 0 ∷ 0 ∷ 0 ∷ 1 ∷ 2 ∷ 0 ∷ 0 ∷ 0 ∷ 0 ∷ 0 ∷ 5 ∷ 0 ∷ 0 ∷ 0 ∷ 0 ∷ 7 ∷ 0 ∷ 0 ∷ 0 ∷ 0 ∷ 0 ∷ 0 ∷ 0 ∷ []

abbrev pub token_4 : List ℕ
token_4 =
    1 ∷ 1 ∷ 0 ∷ 2 ∷ 5 ∷ 0 ∷ 7 ∷ 0 ∷ 2 ∷ 15 ∷ 2 ∷ 9 ∷ 1 ∷ 2 ∷ 15 ∷ 2 ∷ 2 ∷ []

abbrev pub token_5 : List ℕ
token_5 =
    1 ∷ 3 ∷ 0 ∷ 2 ∷ 5 ∷ 0 ∷ 7 ∷ 0 ∷ 2 ∷ 15 ∷ 2 ∷ 9 ∷ 1 ∷ 2 ∷ 15 ∷ 2 ∷ 2 ∷ []

abbrev pub token_6 : List ℕ
token_6 =
    1 ∷ 1 ∷ 128 ∷ 2 ∷ 2 ∷ 5 ∷ 0 ∷ 7 ∷ 0 ∷ 2 ∷ 15 ∷ 2 ∷ 9 ∷ 1 ∷ 2 ∷ 15 ∷ 2 ∷ 2 ∷ []

abbrev pub descriptor_4 : List ℕ
descriptor_4 =
    1 ∷ 0 ∷ 0 ∷ 128 ∷ 20 ∷ 0 ∷ 0 ∷ 0 ∷ 0 ∷ 0 ∷ 0 ∷ 0 ∷ 0 ∷ 0 ∷ 0 ∷ 0 ∷ 0 ∷ 0 ∷ 0 ∷ 0 ∷ 1 ∷ 1 ∷ 0 ∷ 0 ∷ 0 ∷ 0 ∷ 0 ∷ 5 ∷ 7 ∷ 0 ∷ 0 ∷ 0 ∷ []

abbrev pub token_7 : List ℕ
token_7 =
    1 ∷ 128 ∷ 0 ∷ 0 ∷ 2 ∷ 5 ∷ 0 ∷ 7 ∷ 0 ∷ []

abbrev pub policy_2 : List ℕ
policy_2 =
    1 ∷ 0 ∷ 0 ∷ 0 ∷ 0 ∷ []

abbrev pub token_8 : List ℕ
token_8 =
    1 ∷ 0 ∷ 0 ∷ 2 ∷ 5 ∷ 0 ∷ 7 ∷ 0 ∷ 0 ∷ []

abbrev pub token_9 : List ℕ
token_9 =
    1 ∷ 0 ∷ 0 ∷ 2 ∷ 5 ∷ 0 ∷ 7 ∷ 1 ∷ 1 ∷ 3 ∷ 4 ∷ 4 ∷ 0 ∷ []

abbrev pub token_10 : List ℕ
token_10 =
    1 ∷ 0 ∷ 0 ∷ 2 ∷ 5 ∷ 0 ∷ 7 ∷ 1 ∷ 1 ∷ 3 ∷ 4 ∷ 4 ∷ []

abbrev pub token_11 : List ℕ
token_11 =
    1 ∷ 2 ∷ 0 ∷ 2 ∷ 5 ∷ 0 ∷ 7 ∷ 0 ∷ []

abbrev pub token_12 : List ℕ
token_12 =
    1 ∷ 1 ∷ 0 ∷ 2 ∷ 5 ∷ 0 ∷ 7 ∷ 0 ∷ 2 ∷ 15 ∷ 2 ∷ 9 ∷ 0 ∷ []

abbrev pub self_1 : List ℕ
self_1 =
    1 ∷ []

abbrev pub self_2 : List ℕ
self_2 =
    1 ∷ 1 ∷ 0 ∷ 0 ∷ 0 ∷ 0 ∷ 0 ∷ 5 ∷ 7 ∷ 0 ∷ 0 ∷ 0 ∷ 0 ∷ []

abbrev pub self_3 : List ℕ
self_3 =
    1 ∷ 1 ∷ 0 ∷ 0 ∷ 0 ∷ 0 ∷ 0 ∷ 5 ∷ 7 ∷ 0 ∷ 0 ∷ []

abbrev pub descriptor_5 : List ℕ
descriptor_5 =
    1 ∷ 0 ∷ 4 ∷ 128 ∷ 20 ∷ 0 ∷ 0 ∷ 0 ∷ 0 ∷ 0 ∷ 0 ∷ 0 ∷ 0 ∷ 0 ∷ 0 ∷ 0 ∷ 32 ∷ 0 ∷ 0 ∷ []

abbrev pub descriptor_6 : List ℕ
descriptor_6 =
    1 ∷ 0 ∷ 4 ∷ 128 ∷ 20 ∷ 0 ∷ 0 ∷ 0 ∷ 0 ∷ 0 ∷ 0 ∷ 0 ∷ 0 ∷ 0 ∷ 0 ∷ 0 ∷ 0 ∷ 0 ∷ 0 ∷ 0 ∷ 1 ∷ 1 ∷ 0 ∷ 0 ∷ 0 ∷ 0 ∷ 0 ∷ 5 ∷ 7 ∷ 0 ∷ 0 ∷ 0 ∷ []

abbrev pub descriptor_7 : List ℕ
descriptor_7 =
    1 ∷ 0 ∷ 4 ∷ 128 ∷ 0 ∷ 0 ∷ 0 ∷ 0 ∷ 0 ∷ 0 ∷ 0 ∷ 0 ∷ 0 ∷ 0 ∷ 0 ∷ 0 ∷ 20 ∷ 0 ∷ 0 ∷ 0 ∷ 3 ∷ 0 ∷ 32 ∷ 0 ∷ 1 ∷ 0 ∷ 0 ∷ 0 ∷ 0 ∷ 0 ∷ 24 ∷ 0 ∷
    3 ∷ 0 ∷ 0 ∷ 0 ∷ 1 ∷ 2 ∷ 0 ∷ 0 ∷ 0 ∷ 0 ∷ 0 ∷ 5 ∷ 0 ∷ 0 ∷ 0 ∷ 0 ∷ 7 ∷ 0 ∷ 0 ∷ 0 ∷ []

abbrev pub descriptor_8 : List ℕ
descriptor_8 =
    1 ∷ 0 ∷ 4 ∷ 128 ∷ 0 ∷ 0 ∷ 0 ∷ 0 ∷ 0 ∷ 0 ∷ 0 ∷ 0 ∷ 0 ∷ 0 ∷ 0 ∷ 0 ∷ 20 ∷ 0 ∷ 0 ∷ 0 ∷ 2 ∷ 0 ∷ 32 ∷ 0 ∷ 1 ∷ 0 ∷ 0 ∷ 0 ∷ 0 ∷ 0 ∷ 24 ∷ 0 ∷
    3 ∷ 0 ∷ 0 ∷ 0 ∷ 1 ∷ 2 ∷ 0 ∷ 0 ∷ 0 ∷ 0 ∷ 0 ∷ 5 ∷ 0 ∷ 0 ∷ 0 ∷ 0 ∷ 7 ∷ 0 ∷ 0 ∷ 0 ∷ []

abbrev pub descriptor_9 : List ℕ
descriptor_9 =
    1 ∷ 0 ∷ 4 ∷ 128 ∷ 0 ∷ 0 ∷ 0 ∷ 0 ∷ 0 ∷ 0 ∷ 0 ∷ 0 ∷ 0 ∷ 0 ∷ 0 ∷ 0 ∷ 20 ∷ 0 ∷ 0 ∷ 0 ∷ 2 ∷ 0 ∷ 12 ∷ 0 ∷ 1 ∷ 0 ∷ 0 ∷ 0 ∷ 5 ∷ 0 ∷ 4 ∷ 0 ∷
    []

abbrev pub descriptor_10 : List ℕ
descriptor_10 =
    1 ∷ 0 ∷ 4 ∷ 128 ∷ 20 ∷ 0 ∷ 0 ∷ 0 ∷ 0 ∷ 0 ∷ 0 ∷ 0 ∷ 0 ∷ 0 ∷ 0 ∷ 0 ∷ 32 ∷ 0 ∷ 0 ∷ 0 ∷ 1 ∷ 1 ∷ 0 ∷ 0 ∷ 0 ∷ 0 ∷ 0 ∷ 5 ∷ 7 ∷ 0 ∷ 0 ∷ 0 ∷ 2
    ∷ 0 ∷ 12 ∷ 0 ∷ 1 ∷ 0 ∷ 0 ∷ 0 ∷ 5 ∷ 0 ∷ 4 ∷ 0 ∷ []

abbrev pub policy_3 : List ℕ
policy_3 =
    1 ∷ 1 ∷ 0 ∷ 0 ∷ 0 ∷ 0 ∷ 0 ∷ 0 ∷ 0 ∷ 0 ∷ 0 ∷ 0 ∷ 0 ∷ 0 ∷ 0 ∷ 0 ∷ 0 ∷ 0 ∷ 0 ∷ 0 ∷ 0 ∷ 0 ∷ 0 ∷ 0 ∷ 0 ∷ []

abbrev pub policy_4 : List ℕ
policy_4 =
    1 ∷ 0 ∷ 0 ∷ 0 ∷ []

abbrev pub policy_5 : List ℕ
policy_5 =
    1 ∷ 1 ∷ 0 ∷ 0 ∷ 0 ∷ 0 ∷ 0 ∷ 0 ∷ 0 ∷ 12 ∷ 0 ∷ 0 ∷ 0 ∷ 2 ∷ 0 ∷ 12 ∷ 0 ∷ 1 ∷ 0 ∷ 0 ∷ 0 ∷ 5 ∷ 0 ∷ 4 ∷ 0 ∷ 0 ∷ 0 ∷ 0 ∷ 0 ∷ 0 ∷ 0 ∷ 0 ∷ 0 ∷
    0 ∷ 0 ∷ 0 ∷ 0 ∷ 0 ∷ []

abbrev pub policy_6 : List ℕ
policy_6 =
    1 ∷ 1 ∷ 0 ∷ 0 ∷ 0 ∷ 0 ∷ 0 ∷ 0 ∷ 0 ∷ 12 ∷ 0 ∷ 0 ∷ 0 ∷ 2 ∷ 0 ∷ 12 ∷ 0 ∷ 1 ∷ 0 ∷ 0 ∷ 0 ∷ 5 ∷ 0 ∷ 4 ∷ 0 ∷ 0 ∷ 0 ∷ 0 ∷ 0 ∷ 0 ∷ 0 ∷ 0 ∷ 0 ∷
    0 ∷ 0 ∷ 0 ∷ 0 ∷ []

abbrev pub policy_7 : List ℕ
policy_7 =
    1 ∷ 1 ∷ 0 ∷ 0 ∷ 0 ∷ 4 ∷ 0 ∷ 0 ∷ 0 ∷ 97 ∷ 114 ∷ 116 ∷ 120 ∷ 8 ∷ 0 ∷ 0 ∷ 0 ∷ 2 ∷ 0 ∷ 8 ∷ 0 ∷ 0 ∷ 0 ∷ 0 ∷ 0 ∷ 0 ∷ 0 ∷ 0 ∷ 0 ∷ 0 ∷ 0 ∷ 0
    ∷ 0 ∷ 0 ∷ 0 ∷ 0 ∷ 0 ∷ []

-- ---- the cards, each with its four masks (request 106)

abbrev pub cards : List Card
cards =
    -- c1 TU on D asks generic read
    (asks 1 0x80000000 TU [] D [] ⇒ stepwise 0x120089 0x120089 0x120089 0x120089 true false) ∷
    -- c2 TW: the owner has its two rights only
    (asks 1 0x80000000 TW [] D [] ⇒ stepwise 0x20000 0x20000 0x20000 0x20000 false false) ∷
    -- c3 a key, maximum
    (asks 2 0x2000000 TU [] D [] ⇒ stepwise 0x20019 0x20019 0x20019 0x20019 true false) ∷
    -- c4 deny to group G enabled, then allow
    (asks 1 0x3 token_1 [] descriptor_1 [] ⇒ stepwise 0x1 0x1 0x1 0x1 false false) ∷
    -- c4 G with 0x10 only
    (asks 1 0x3 token_2 [] descriptor_1 [] ⇒ stepwise 0x1 0x1 0x1 0x1 false false) ∷
    -- c5 attributes 0
    (asks 1 0x3 token_3 [] descriptor_1 [] ⇒ stepwise 0x3 0x3 0x3 0x3 true false) ∷
    -- c6 the entries swapped
    (asks 1 0x3 token_1 [] descriptor_2 [] ⇒ stepwise 0x3 0x3 0x3 0x3 true false) ∷
    -- c7 one rule, staged, asks 3
    (asks 1 0x3 TU [] descriptor_3 policy_1 ⇒ stepwise 0x3 0x3 0x1 0x1 false true) ∷
    -- c7 asks 1
    (asks 1 0x1 TU [] descriptor_3 policy_1 ⇒ stepwise 0x1 0x1 0x1 0x1 true false) ∷
    -- c8 confined
    (asks 1 0x80000000 token_4 [] D [] ⇒ stepwise 0x120089 0x0 0x0 0x0 false false) ∷
    -- c8 flags 03, exempt
    (asks 1 0x80000000 token_5 [] D [] ⇒ stepwise 0x120089 0x120089 0x120089 0x120089 true false) ∷
    -- c9 confined with SeSecurity, null list
    (asks 1 0x1000001 token_6 [] descriptor_4 [] ⇒ stepwise 0x1000001 0x1 0x1 0x1 false false) ∷
    -- c10 asks nothing
    (asks 1 0x0 TU [] D [] ⇒ stepwise 0x0 0x0 0x0 0x0 true false) ∷
    -- c11 80 00 for a number: for the flags
    (asks 1 0x80000000 token_7 [] D [] ⇒ refused 3) ∷
    -- c12 a policy of no rules answers as none
    (asks 1 0x80000000 TU [] D policy_2 ⇒ stepwise 0x120089 0x120089 0x120089 0x120089 true false) ∷
    -- c12 257 rules
    (asks 1 0x80000000 TU [] D (policy_of 257) ⇒ refused 9) ∷
    []

-- ---- a refusal for each number of a check, and its neighbours

abbrev pub refusals : List Card
refusals =
    -- 1 kind 3
    (asks 3 0x80000000 TU [] D [] ⇒ refused 1) ∷
    -- 1 before 2: bad kind and bad mask
    (asks 0 0x4000000 TU [] D [] ⇒ refused 1) ∷
    -- 2 a bit that is no right of a key
    (asks 2 0x100 TU [] D [] ⇒ refused 2) ∷
    -- 2 before 3: bad mask and misshapen token
    (asks 1 0x4000000 token_8 [] D [] ⇒ refused 2) ∷
    -- 3 one byte too many
    (asks 1 0x80000000 token_8 [] D [] ⇒ refused 3) ∷
    -- 3 before 4: S-1-3-4 as a group and one byte too many
    (asks 1 0x80000000 token_9 [] D [] ⇒ refused 3) ∷
    -- 4 S-1-3-4 as a group
    (asks 1 0x80000000 token_10 [] D [] ⇒ refused 4) ∷
    -- 4 exempt and not confined
    (asks 1 0x80000000 token_11 [] D [] ⇒ refused 4) ∷
    -- 4 confined without S-1-15-2-2
    (asks 1 0x80000000 token_12 [] D [] ⇒ refused 4) ∷
    -- 4 before 5: and a bad self identity
    (asks 1 0x80000000 token_10 self_1 D [] ⇒ refused 4) ∷
    -- 5 a self identity with a byte after it
    (asks 1 0x80000000 TU self_2 D [] ⇒ refused 5) ∷
    -- 5 before 6: and a bad descriptor
    (asks 1 0x80000000 TU self_3 descriptor_5 [] ⇒ refused 5) ∷
    -- 6 nineteen bytes
    (asks 1 0x80000000 TU [] descriptor_5 [] ⇒ refused 6) ∷
    -- 6 DACL bit set with offset 0
    (asks 1 0x80000000 TU [] descriptor_6 [] ⇒ refused 6) ∷
    -- 6 before 7: list revision 3 and no owner
    (asks 1 0x80000000 TU [] descriptor_7 [] ⇒ refused 6) ∷
    -- 7 no owner
    (asks 1 0x80000000 TU [] descriptor_8 [] ⇒ refused 7) ∷
    -- 7 before 8: no owner and a foreign entry type
    (asks 1 0x80000000 TU [] descriptor_9 [] ⇒ refused 7) ∷
    -- 8 a foreign entry type
    (asks 1 0x80000000 TU [] descriptor_10 [] ⇒ refused 8) ∷
    -- 8 before 9: and a misshapen policy
    (asks 1 0x80000000 TU [] descriptor_10 policy_3 ⇒ refused 8) ∷
    -- 9 an empty effective DACL section
    (asks 1 0x80000000 TU [] D policy_3 ⇒ refused 9) ∷
    -- 9 four bytes
    (asks 1 0x80000000 TU [] D policy_4 ⇒ refused 9) ∷
    -- 9 an applies_to that has a prefix and no token
    (asks 1 0x80000000 TU [] D policy_7 ⇒ refused 9) ∷
    -- 9 before 10: a foreign entry type and a byte too many
    (asks 1 0x80000000 TU [] D policy_5 ⇒ refused 9) ∷
    -- 10 a foreign entry type in a rule
    (asks 1 0x80000000 TU [] D policy_6 ⇒ refused 10) ∷
    []

-- ---- question files: card c1, 82 bytes; and number 12

abbrev pub file_c1 : List ℕ
file_c1 =
    1 ∷ 128 ∷ 128 ∷ 128 ∷ 128 ∷ 8 ∷ 8 ∷ 1 ∷ 0 ∷ 0 ∷ 2 ∷ 5 ∷ 0 ∷ 7 ∷ 0 ∷ 0 ∷ 64 ∷ 1 ∷ 0 ∷ 4 ∷ 128 ∷ 20 ∷ 0 ∷ 0 ∷ 0 ∷ 0 ∷ 0 ∷ 0 ∷ 0 ∷ 0 ∷ 0
    ∷ 0 ∷ 0 ∷ 32 ∷ 0 ∷ 0 ∷ 0 ∷ 1 ∷ 1 ∷ 0 ∷ 0 ∷ 0 ∷ 0 ∷ 0 ∷ 5 ∷ 7 ∷ 0 ∷ 0 ∷ 0 ∷ 2 ∷ 0 ∷ 32 ∷ 0 ∷ 1 ∷ 0 ∷ 0 ∷ 0 ∷ 0 ∷ 0 ∷ 24 ∷ 0 ∷ 0 ∷ 0 ∷
    0 ∷ 128 ∷ 1 ∷ 2 ∷ 0 ∷ 0 ∷ 0 ∷ 0 ∷ 0 ∷ 5 ∷ 0 ∷ 0 ∷ 0 ∷ 0 ∷ 7 ∷ 0 ∷ 0 ∷ 0 ∷ 0 ∷ []

abbrev pub file_long : List ℕ
file_long = file_c1 ++ 0 ∷ []
