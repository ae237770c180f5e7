-- "The program reads one question file: kind, mask, then token, self, descriptor, policy, each with a length before it, all numbers 32 bits in
-- sevens, nothing after." 12: "question file misshapen or above 65,536 bytes"; 12 comes first of all.
use Rattle.std.specs.Prelude.{ℕ, ◌+◌, List, cond, length, ltb, leb, eqb}
use Rattle.base.specs.Bytes.{Read, bind, only, part}
use Rattle.base.specs.Bytes.Read.{none, some}
use Rattle.base.specs.Sevens.{number}
use Rattle.answers.specs.Granted.{refused}
use Rattle.access.specs.Status.{Question, checked}
use Rattle.access.specs.Reported.{Report, refusal, report_of}
use Rattle.answers.specs.declared.answer.Answer.{Answer}
use Rattle.questions.specs.declared.file.Desired.{Desired}

-- a length and so many bytes
unfoldable pub blob_at : List ℕ → ℕ → Read (List ℕ)
blob_at s at = bind (number 32 s at) (λ n a. only (leb (a + n) (length s)) (some (part s a (a + n)) (a + n)))

unfoldable pub question_of : List ℕ → Read Question
question_of s =
    bind (number 32 s 0) (λ kind a.
    bind (number 32 s a) (λ mask b.
    bind (blob_at s b) (λ token c.
    bind (blob_at s c) (λ self d.
    bind (blob_at s d) (λ descriptor e.
    bind (blob_at s e) (λ policy f. only (eqb f (length s))
    (some (record { kind = kind; mask = mask; token = token; self = self; descriptor = descriptor; policy = policy }) f)))))))

abbrev pub answering : Read Question → Answer
answering none = refused 12
answering (some q end) = checked q

unfoldable pub file_answer : List ℕ → Answer
file_answer s = let r = answering (question_of s) in cond (ltb 65536 (length s)) (refused 12) r

-- the object kind and the desired mask of the question that a file holds; 0 and 0 where it holds none
abbrev pub desired_of : Read Question → Desired
desired_of none = record { kind = 0; mask = record { 0 = 0 } }
desired_of (some q end) = record { kind = q.kind; mask = record { 0 = q.mask } }

abbrev pub file_desires : List ℕ → Desired
file_desires s = desired_of (question_of s)

-- the report on a question file (request 105); 12 comes first of all
abbrev pub reporting : Read Question → Report
reporting none = refusal 12
reporting (some q end) = report_of q

unfoldable pub file_report : List ℕ → Report
file_report s = let r = reporting (question_of s) in cond (ltb 65536 (length s)) (refusal 12) r
