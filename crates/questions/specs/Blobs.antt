-- What the code reads of a question file, as QuestionFile says it: a part, and the question.
use Rattle.std.specs.Prelude.{ℕ, List, Option, Some, None}
use Rattle.base.specs.Bytes.{Read}
use Rattle.base.specs.Bytes.Read.{none, some}
use Rattle.access.specs.Status.{Question, posed}
use Rattle.access.specs.declared.question.Question.{Question as Put}
use Rattle.questions.specs.declared.file.Blob.{Blob}

-- a part and the place after it
abbrev pub held_at : Option Blob → Read (List ℕ)
held_at None = none
held_at (Some b) = some b.bytes.now b.next

-- the question of a file of n bytes
abbrev pub held_in : ℕ → Option Put → Read Question
held_in n None = none
held_in n (Some q) = some (posed q) n
