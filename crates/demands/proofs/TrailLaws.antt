-- Request 105, reports: the answer and its trail, in a buffer of n bytes. In order: the trail of a refused question, and of an accepted one
-- (refused_trail, trail_is, flag_is); a report that fits, and one that does not (room_enough, beyond); the number given is the lowest
-- line that holds (report_status); a refusal has nothing (refused_report); an accepted one is whole (accepted_report); 11 exactly where
-- the trail is too long (eleven_only); lists that read the same (report_read); what stands in the lent buffer (trail_written,
-- trail_unwritten). Not here: question files, FileTrailLaws. Assumes nothing.
use Prim.Native.Nat.{ℕ, ◌+◌, ◌<◌, ◌≤◌}
use mathlib.Core.Path.{◌≡◌, refl, sym, ap, ◌∙◌}
use mathlib.Core.List.{List, [], ◌∷◌, ◌++◌}
use mathlib.Core.Bool.{Bool, true, false, cond, ◌||◌}
use mathlib.Core.Logic.{◌↔◌}
use native.Mathlib.Nat.{zero-add}
use native.Mathlib.Omega.{arith}
use lib.ListN.{length, drop}
use lib.Seq.{sets, sets-eq}
use lib.Dec.{ltb, eqb}
use borrow.Author.Tests.{eqb-true, eqb-false, eq-eqb, ne_eqb, ltb-true, ltb-false, lt-ltb, le-ltb}
use Rattle.base.specs.Bytes.{Read}
use Rattle.base.specs.Bytes.Read.{none, some}
use Rattle.records.specs.Token.{Token}
use Rattle.records.specs.TokenRecord.{read_record}
use Rattle.masks.specs.KindsAndMasks.{known_kind, legal}
use Rattle.audit.specs.Trail.{trail_bytes}
use Rattle.answers.specs.Granted.{refused}
use Rattle.access.specs.Status.{Question, by_lists, raised_for, answer_to, with_token, checked}
use Rattle.access.specs.Reported.{Report, report, refusal, trail_for, report_of, in_buffer, Lent}
use Rattle.answers.specs.declared.answer.Answer.{Answer}
use Rattle.access.specs.declared.answer.Traced.{Traced}
use Rattle.pirasteh.specs.Followed.{Followed}
use Rattle.demands.specs.Accepted.{Accepted, token_in, events_given}
use Rattle.demands.specs.Conditions.{Line, ◌when◌, lowest, some_holds, conditions}
use Rattle.demands.specs.Conversions.{Written, Untouched}
use Rattle.demands.specs.LongEntries.{ReadTheSame}
use Rattle.demands.specs.Trails.{trail_conditions, Nothing}
use Rattle.demands.proofs.AcceptedLaws.{accepted_is}
use Rattle.demands.proofs.StatusLaws.{status_is, accepted_when, status_le, grants_nothing, refused_grants_nothing}
use Rattle.demands.proofs.LongEntriesLaws.{answer_read, events_read}

-- ---- the trail

refused_for : (a : Answer) (q : Question) (r : Read Token) → (a.status ≡ 0 → ⊥) → trail_for a q r ≡ []
refused_for a q none n = refl
refused_for a q (some t end) n = rw (ne_eqb a.status 0 n)

pub refused_trail : (q : Question) → ((checked q).status ≡ 0 → ⊥) → (report_of q).trail ≡ []
unfolding report_of
refused_trail q n = refused_for (checked q) q (read_record q.token) n

-- a question without a token is not accepted
tokenless : (q : Question) → read_record q.token ≡ none → Accepted q → ⊥
unfolding checked
tokenless q e a = go (known_kind q.kind) (legal q.kind q.mask) (rw e at a)
  where
    go : (x y : Bool) → (cond x (cond y (with_token q none) (refused 2)) (refused 1)).status ≡ 0 → ⊥
    go true true a = omega arith
    go true false a = omega arith
    go false y a = omega arith

pub trail_is : (q : Question) → Accepted q → (report_of q).trail ≡ trail_bytes (events_given q)
unfolding report_of
trail_is q a = go (read_record q.token) refl
  where
    go : (r : Read Token) → read_record q.token ≡ r → trail_for (checked q) q (read_record q.token) ≡ trail_bytes (events_given q)
    go none e = absurd (tokenless q e a)
    go (some t end) e = rw (e, eq-eqb (checked q).status 0 a)

report_is : (q : Question) → Accepted q → report_of q ≡ report (checked q) (trail_bytes (events_given q))
unfolding report_of
report_is q a = ap (report (checked q)) (trail_is q a)

-- "A staged SACL now raises the staging flag": beside the staged lists
pub flag_is : (q : Question) → Accepted q → (checked q).staged ≡ ((by_lists q (token_in q)).staged || raised_for q (token_in q))
unfolding answer_to
flag_is q a = ap (λ (x : Answer). x.staged) (accepted_is q a)

-- ---- in a buffer

pub answer_of_lem : (q : Question) → (report_of q).answer ≡ checked q
unfolding report_of
answer_of_lem q = refl

pub within : (n : ℕ) (r : Report) → length r.trail ≤ n → in_buffer n r ≡ r
unfolding in_buffer
within n r l = rw (le-ltb n (length r.trail) l)

pub beyond : (n : ℕ) (r : Report) → n < length r.trail → in_buffer n r ≡ refusal 11
unfolding in_buffer
beyond n r l = rw (lt-ltb n (length r.trail) l)

pub room_enough : (n : ℕ) (q : Question) → length (report_of q).trail ≤ n → in_buffer n (report_of q) ≡ report_of q
room_enough n q = within n (report_of q)

-- what is refused has no trail, so every buffer has room
refused_room : (n : ℕ) (q : Question) → ((checked q).status ≡ 0 → ⊥) → in_buffer n (report_of q) ≡ report_of q
refused_room n q h = room_enough n q (rw (refused_trail q h) (omega arith))

-- ---- the number given

last_none : (ls : List Line) (k : ℕ) → lowest (ls ++ (k when false) ∷ []) ≡ lowest ls
unfolding lowest
last_none [] k = refl
last_none (l ∷ ls) k = rw (last_none ls k)

last_some : (ls : List Line) (l : Line) → some_holds ls ≡ false → lowest (ls ++ l ∷ []) ≡ lowest (l ∷ [])
unfolding lowest some_holds
last_some [] l e = refl
last_some (x ∷ ls) l e = go (last_some ls l) x.holds refl e
  where
    go : (some_holds ls ≡ false → lowest (ls ++ l ∷ []) ≡ lowest (l ∷ [])) → (b : Bool) → x.holds ≡ b →
        cond b true (some_holds ls) ≡ false → lowest (x ∷ ls ++ l ∷ []) ≡ lowest (l ∷ [])
    go rest true h e = let z : ◌≡◌ {A = ℕ} 0 1 = cc in absurd (omega arith)
    go rest false h e = rw h (rest e)

pub report_status : (n : ℕ) (q : Question) → (in_buffer n (report_of q)).answer.status ≡ lowest (trail_conditions n q)
unfolding lowest
report_status n q = go (eqb (checked q).status 0) (ltb n (length (report_of q).trail)) refl refl
  where
    go : (a b : Bool) → eqb (checked q).status 0 ≡ a → ltb n (length (report_of q).trail) ≡ b →
        (in_buffer n (report_of q)).answer.status ≡ lowest (trail_conditions n q)
    go false b e f =
        let no = eqb-false _ _ e in
        let short : ltb n (length (report_of q).trail) ≡ false = rw (refused_trail q no) (le-ltb n 0 (omega arith)) in
        rw (refused_room n q no, short, last_none (conditions q) 11, answer_of_lem q) (status_is q)
    go true true e f =
        rw (beyond n (report_of q) (ltb-true _ _ f), last_some (conditions q) _ ((accepted_when q).0 (eqb-true _ _ e)), f) refl
    go true false e f =
        rw (room_enough n q (ltb-false _ _ f), last_some (conditions q) _ ((accepted_when q).0 (eqb-true _ _ e)), f, answer_of_lem q)
        (eqb-true _ _ e)

pub eleven_only : (n : ℕ) (q : Question) → (in_buffer n (report_of q)).answer.status ≡ 11 ↔ (Accepted q × (n < length (report_of q).trail))
eleven_only n q = (λ e. there (ltb n (length (report_of q).trail)) refl e, λ w. rw (beyond n (report_of q) w.1) refl)
  where
    long : (b : Bool) → eqb (checked q).status 0 ≡ b → n < length (report_of q).trail → Accepted q
    long true e l = eqb-true _ _ e
    long false e l = let z : length (report_of q).trail ≡ 0 = ap length (refused_trail q (eqb-false _ _ e)) in absurd (omega arith)

    there : (b : Bool) → ltb n (length (report_of q).trail) ≡ b → (in_buffer n (report_of q)).answer.status ≡ 11 →
        Accepted q × (n < length (report_of q).trail)
    there true f e = (long (eqb (checked q).status 0) refl (ltb-true _ _ f), ltb-true _ _ f)
    there false f e =
        let l = status_le q in
        let z : (checked q).status ≡ 11 = rw (room_enough n q (ltb-false _ _ f), answer_of_lem q) at e in
        absurd (omega arith)

-- ---- a refusal has nothing, and what is accepted is whole

buffer_refused : (n : ℕ) (r : Report) → ((r.answer.status ≡ 0 → ⊥) → Nothing r) → ((in_buffer n r).answer.status ≡ 0 → ⊥) →
    Nothing (in_buffer n r)
unfolding in_buffer
buffer_refused n r f = go (ltb n (length r.trail))
  where
    go : (b : Bool) → ((cond b (refusal 11) r).answer.status ≡ 0 → ⊥) → Nothing (cond b (refusal 11) r)
    go true h = record { granted = grants_nothing 11; trail = refl }
    go false h = f h

whole_refused : (q : Question) → ((report_of q).answer.status ≡ 0 → ⊥) → Nothing (report_of q)
whole_refused q h =
    let no : (checked q).status ≡ 0 → ⊥ = rw (answer_of_lem q) at h in
    record { granted = rw (answer_of_lem q) (refused_grants_nothing q no); trail = refused_trail q no }

pub refused_report : (n : ℕ) (q : Question) → ((in_buffer n (report_of q)).answer.status ≡ 0 → ⊥) → Nothing (in_buffer n (report_of q))
refused_report n q = buffer_refused n (report_of q) (whole_refused q)

buffer_whole : (n : ℕ) (r : Report) → (in_buffer n r).answer.status ≡ 0 → (in_buffer n r ≡ r) × (length r.trail ≤ n)
unfolding in_buffer
buffer_whole n r = go (ltb n (length r.trail)) refl
  where
    go : (b : Bool) → ltb n (length r.trail) ≡ b → (cond b (refusal 11) r).answer.status ≡ 0 →
        (cond b (refusal 11) r ≡ r) × (length r.trail ≤ n)
    go true f e = absurd (omega arith)
    go false f e = (refl, ltb-false _ _ f)

pub accepted_report : (n : ℕ) (q : Question) → (in_buffer n (report_of q)).answer.status ≡ 0 →
    Accepted q × (in_buffer n (report_of q) ≡ report_of q)
accepted_report n q e =
    let w = buffer_whole n (report_of q) e in
    (ap (λ (a : Answer). a.status) (sym (answer_of_lem q)) ∙ sym (ap (λ (r : Report). r.answer.status) w.0) ∙ e, w.0)

-- two accepted questions whose lists read the same: answer and trail
pub report_read : (p q : Question) → Accepted p → Accepted q → ReadTheSame p q → report_of p ≡ report_of q
report_read p q a b s = rw (report_is p a, report_is q b, answer_read p q a b s, events_read p q s)

-- ---- the lent buffer

pub trail_written : (q : Question) (before after : List ℕ) (t : Traced) → Lent (in_buffer (length before) (report_of q)) before after t →
    t.answer.status ≡ 0 → Written (trail_bytes (events_given q)) before after t.length
trail_written q before after t w z =
    let zero = sym (ap (λ (a : Answer). a.status) w.answer) ∙ z in
    let whole = buffer_whole (length before) (report_of q) zero in
    let b = trail_bytes (events_given q) in
    let is : (report_of q).trail ≡ b = trail_is q (accepted_report (length before) q zero).0 in
    let trail = ap (λ (r : Report). r.trail) whole.0 ∙ is in
    let room : 0 + length b ≤ length before = rw (← is) (omega (arith, whole.1)) in
    record {
      count = w.length ∙ ap length trail;
      buffer =
          w.buffer
          ∙ ap (sets before 0) trail
          ∙ sets-eq b before 0 room
          ∙ ap (λ (k : ℕ). b ++ drop k before) (zero-add (length b));
    }

-- a report that comes to nothing where it is refused leaves the buffer as it was: as it is lent, and as it is handed out
module _ (x : Report) (before after : List ℕ) where
  pub untouched : (t : Traced) → Lent x before after t → ((x.answer.status ≡ 0 → ⊥) → Nothing x) → (t.answer.status ≡ 0 → ⊥) →
      Untouched before after t.length
  untouched t w f h =
      let e : x.trail ≡ [] = (f (λ z. h (ap (λ (a : Answer). a.status) w.answer ∙ z))).trail in
      record { count = w.length ∙ ap length e; buffer = w.buffer ∙ ap (sets before 0) e }

  pub handed_untouched : (n r g a s : ℕ) → Followed x before after n r g a s → ((x.answer.status ≡ 0 → ⊥) → Nothing x) → (r ≡ 0 → ⊥) →
      Untouched before after n
  handed_untouched n r g a s w f h =
      let e : x.trail ≡ [] = (f (λ z. h (w.told.status ∙ z))).trail in
      record { count = w.written ∙ ap length e; buffer = w.buffer ∙ ap (sets before 0) e }

pub trail_unwritten : (q : Question) (before after : List ℕ) (t : Traced) → Lent (in_buffer (length before) (report_of q)) before after t →
    (t.answer.status ≡ 0 → ⊥) → Untouched before after t.length
trail_unwritten q before after t w h = untouched (in_buffer (length before) (report_of q)) before after t w (refused_report (length before) q) h

-- the same of the numbers and the buffer that `pirasteh_trail` hands out: r is the result, n the length
pub export_unwritten : (q : Question) (before after : List ℕ) (n r g a s : ℕ) →
    Followed (in_buffer (length before) (report_of q)) before after n r g a s → (r ≡ 0 → ⊥) → Untouched before after n
export_unwritten q before after n r g a s w h =
    handed_untouched (in_buffer (length before) (report_of q)) before after n r g a s w (refused_report (length before) q) h
