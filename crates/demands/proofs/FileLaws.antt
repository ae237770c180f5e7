-- The question file: number 12 comes first of all, and otherwise the answer is that of the question it holds. The index:
-- file_refused, file_answered: the two cases. file_12: 12 exactly where the file is misshapen or too long. refused_file: a refusal
-- grants nothing.
-- Assumes nothing.
use Prim.Native.Nat.{ℕ}
use mathlib.Core.Path.{◌≡◌, refl, sym, ap, ◌∙◌}
use mathlib.Core.List.{List}
use mathlib.Core.Bool.{Bool, true, false, cond, ◌||◌}
use mathlib.Core.Logic.{◌↔◌}
use native.Mathlib.Omega.{arith}
use lib.ListN.{length}
use lib.Dec.{ltb}
use Rattle.base.specs.Bytes.{Read}
use Rattle.base.specs.Bytes.Read.{none, some}
use Rattle.answers.specs.Granted.{refused}
use Rattle.access.specs.Status.{Question, checked}
use Rattle.demands.specs.Accepted.{GrantsNothing}
use Rattle.questions.specs.QuestionFile.{question_of, answering, file_answer}
use Rattle.demands.specs.Conditions.{misshapen, file_misshapen}
use Rattle.answers.specs.declared.answer.Answer.{Answer}
use Rattle.demands.proofs.StatusLaws.{status_le, grants_nothing, refused_grants_nothing}

pub file_refused : (s : List ℕ) → file_misshapen s ≡ true → file_answer s ≡ refused 12
unfolding file_misshapen file_answer
file_refused s e = go (ltb 65536 (length s)) (question_of s) e
  where
    go : (b : Bool) (r : Read Question) → (b || misshapen r) ≡ true → cond b (refused 12) (answering r) ≡ refused 12
    go true r e = refl
    go false none e = refl
    go false (some q n) e = let z : ◌≡◌ {A = ℕ} 0 1 = cc in absurd (omega arith)

pub file_answered : (s : List ℕ) → file_misshapen s ≡ false →
    (q : Question) × (end : ℕ) × (question_of s ≡ some q end) × (file_answer s ≡ checked q)
unfolding file_misshapen file_answer
file_answered s e = go (ltb 65536 (length s)) (question_of s) refl e
  where
    go : (b : Bool) (r : Read Question) → question_of s ≡ r → (b || misshapen r) ≡ false →
        (q : Question) × (end : ℕ) × (question_of s ≡ some q end) × (cond b (refused 12) (answering (question_of s)) ≡ checked q)
    go true r p e = let z : ◌≡◌ {A = ℕ} 0 1 = cc in absurd (omega arith)
    go false none p e = let z : ◌≡◌ {A = ℕ} 0 1 = cc in absurd (omega arith)
    go false (some q n) p e = (q, n, p, ap answering p)

not_12 : (s : List ℕ) (b : Bool) → file_misshapen s ≡ b → (file_answer s).status ≡ 12 → b ≡ true
not_12 s true m e = refl
not_12 s false m e =
    let (q, n, p, a) = file_answered s m in
    let l = status_le q in
    let x : (checked q).status ≡ 12 = sym (ap (λ (r : Answer). r.status) a) ∙ e in
    absurd (omega arith)

pub file_12 : (s : List ℕ) → (file_answer s).status ≡ 12 ↔ file_misshapen s ≡ true
file_12 s = (not_12 s (file_misshapen s) refl, λ m. ap (λ (r : Answer). r.status) (file_refused s m))

pub refused_file : (s : List ℕ) → ((file_answer s).status ≡ 0 → ⊥) → GrantsNothing (file_answer s)
refused_file s n = go (file_misshapen s) refl
  where
    go : (b : Bool) → file_misshapen s ≡ b → GrantsNothing (file_answer s)
    go true m = rw (file_refused s m) (grants_nothing 12)
    go false m =
        let (q, e, p, a) = file_answered s m in
        rw a (refused_grants_nothing q (λ z. n (ap (λ (r : Answer). r.status) a ∙ z)))
