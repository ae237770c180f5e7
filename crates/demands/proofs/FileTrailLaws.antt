-- Request 105, the report on a question file: number 12 comes first of all, and otherwise it is that of the question it holds. The index:
-- file_refused, file_reported: the two cases. file_report_12: 12 exactly where the file is misshapen or too long, in any buffer.
-- refused_file_report: a refusal has nothing. Assumes nothing.
use Prim.Native.Nat.{ℕ}
use mathlib.Core.Path.{◌≡◌, refl, ap}
use mathlib.Core.List.{List}
use mathlib.Core.Bool.{Bool, true, false, cond, ◌||◌}
use mathlib.Core.Logic.{◌↔◌}
use native.Mathlib.Omega.{arith}
use lib.ListN.{length}
use lib.Dec.{ltb}
use borrow.Author.Tests.{ltb-true, ltb-false}
use Rattle.base.specs.Bytes.{Read}
use Rattle.base.specs.Bytes.Read.{none, some}
use Rattle.access.specs.Status.{Question, checked}
use Rattle.access.specs.Reported.{Report, refusal, report_of, in_buffer, Lent}
use Rattle.questions.specs.QuestionFile.{question_of, reporting, file_report}
use Rattle.access.specs.declared.answer.Traced.{Traced}
use Rattle.pirasteh.specs.Followed.{Followed}
use Rattle.demands.specs.Conditions.{misshapen, file_misshapen}
use Rattle.demands.specs.Conversions.{Untouched}
use Rattle.demands.specs.Trails.{Nothing}
use Rattle.demands.proofs.StatusLaws.{status_le, grants_nothing}
use Rattle.demands.proofs.TrailLaws.{answer_of_lem, within, beyond, room_enough, refused_report, untouched, handed_untouched}

pub file_refused : (s : List ℕ) → file_misshapen s ≡ true → file_report s ≡ refusal 12
unfolding file_misshapen file_report
file_refused s e = go (ltb 65536 (length s)) (question_of s) e
  where
    go : (b : Bool) (r : Read Question) → (b || misshapen r) ≡ true → cond b (refusal 12) (reporting r) ≡ refusal 12
    go true r e = refl
    go false none e = refl
    go false (some q n) e = let z : ◌≡◌ {A = ℕ} 0 1 = cc in absurd (omega arith)

pub file_reported : (s : List ℕ) → file_misshapen s ≡ false →
    (q : Question) × (end : ℕ) × (question_of s ≡ some q end) × (file_report s ≡ report_of q)
unfolding file_misshapen file_report
file_reported s e = go (ltb 65536 (length s)) (question_of s) refl e
  where
    go : (b : Bool) (r : Read Question) → question_of s ≡ r → (b || misshapen r) ≡ false →
        (q : Question) × (end : ℕ) × (question_of s ≡ some q end) × (cond b (refusal 12) (reporting (question_of s)) ≡ report_of q)
    go true r p e = let z : ◌≡◌ {A = ℕ} 0 1 = cc in absurd (omega arith)
    go false none p e = let z : ◌≡◌ {A = ℕ} 0 1 = cc in absurd (omega arith)
    go false (some q n) p e = (q, n, p, ap reporting p)

file_room : (n : ℕ) (s : List ℕ) → file_misshapen s ≡ true → in_buffer n (file_report s) ≡ refusal 12
file_room n s m = rw (file_refused s m) (within n (refusal 12) (omega arith))

-- with any buffer 12 comes first of all
pub file_report_12 : (n : ℕ) (s : List ℕ) → (in_buffer n (file_report s)).answer.status ≡ 12 ↔ file_misshapen s ≡ true
file_report_12 n s = (there (file_misshapen s) refl, λ m. ap (λ (r : Report). r.answer.status) (file_room n s m))
  where
    below : (b : Bool) (q : Question) → ltb n (length (report_of q).trail) ≡ b → (in_buffer n (report_of q)).answer.status ≡ 12 → ⊥
    below true q f e = let z : ◌≡◌ {A = ℕ} 11 12 = rw (beyond n (report_of q) (ltb-true _ _ f)) at e in omega arith
    below false q f e =
        let l = status_le q in
        let z : (checked q).status ≡ 12 = rw (room_enough n q (ltb-false _ _ f), answer_of_lem q) at e in
        omega arith

    there : (b : Bool) → file_misshapen s ≡ b → (in_buffer n (file_report s)).answer.status ≡ 12 → b ≡ true
    there true m e = refl
    there false m e =
        let (q, k, p, r) = file_reported s m in
        absurd (below (ltb n (length (report_of q).trail)) q refl (rw r at e))

pub refused_file_report : (n : ℕ) (s : List ℕ) → ((in_buffer n (file_report s)).answer.status ≡ 0 → ⊥) → Nothing (in_buffer n (file_report s))
refused_file_report n s h = go (file_misshapen s) refl
  where
    go : (b : Bool) → file_misshapen s ≡ b → Nothing (in_buffer n (file_report s))
    go true m = rw (file_room n s m) (record { granted = grants_nothing 12; trail = refl })
    go false m = let (q, k, p, r) = file_reported s m in rw r (refused_report n q (rw r at h))

-- and the buffer is then as it was: of `trail_question`, and of `pirasteh_trail_question`
pub file_unwritten : (s before after : List ℕ) (t : Traced) → Lent (in_buffer (length before) (file_report s)) before after t →
    (t.answer.status ≡ 0 → ⊥) → Untouched before after t.length
file_unwritten s before after t w h =
    untouched (in_buffer (length before) (file_report s)) before after t w (refused_file_report (length before) s) h

pub file_export_unwritten : (s before after : List ℕ) (n r g a f : ℕ) →
    Followed (in_buffer (length before) (file_report s)) before after n r g a f → (r ≡ 0 → ⊥) → Untouched before after n
file_export_unwritten s before after n r g a f w h =
    handed_untouched (in_buffer (length before) (file_report s)) before after n r g a f w (refused_file_report (length before) s) h
